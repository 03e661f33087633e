-- A part of a table that is turned by one, with its last element written back, is closed up.
use Rattle.std.proofs.Common.{◌≡◌, ℕ, suc, ◌+◌, ◌<◌, List, [], ◌∷◌, ◌++◌, length, get_or, take, drop, set, sym, ap, ◌∙◌, append_assoc, arith}
use borrow.Rule.Slice.PartMut.{put_mid}
use Rattle.std.proofs.lemmas.List.{drop_more, drop-drop, length-drop, length-take-le, get_or-take, get_or-drop, set_at}
use Rattle.seats.specs.Rooms.{table_closed_up}

module _ {X : Type 0} where
  -- a list turned by one, its last element as it was
  turned_list : (y : X) (ys : List X) (n : ℕ) (last : X) → n ≡ length (take n ys)
      → set (drop 1 (take (suc n) (y ∷ ys)) ++ take 1 (take (suc n) (y ∷ ys))) n last ≡ take n ys ++ last ∷ []
  turned_list y ys n last long = set_at (take n ys) y [] last n (sym long)

  module _ (xs : List X) (at behind cut : ℕ) (fits : at + behind < length xs) (size : cut ≡ suc behind) where
    pub turned : (part : List X) (last : X) → part ≡ drop 1 (take cut (drop at xs)) ++ take 1 (take cut (drop at xs)) → last ≡ get_or (take cut (drop at xs)) behind last
        → put_mid at cut xs (set part behind last) ≡ table_closed_up xs at behind
    turned part last is at_end =
        let ys : List X = drop (at + 1) xs in
        let long : behind ≡ length (take behind ys) = sym (length-take-le behind ys (omega (arith, length-drop (at + 1) xs))) in
        let first : drop at xs ≡ get_or xs at last ∷ ys = drop_more xs at last (omega arith) in
        let cut_is : take cut (drop at xs) ≡ take (suc behind) (get_or xs at last ∷ ys) = (λ i. take (size i) (first i)) in
        let part_is : set part behind last ≡ take behind ys ++ last ∷ [] =
        ap (λ l. set l behind last) (is ∙ ap (λ l. drop 1 l ++ take 1 l) cut_is) ∙ turned_list (get_or xs at last) ys behind last long in
        let end : last ≡ get_or xs (at + behind) last =
        at_end ∙ get_or-take cut (drop at xs) behind last (omega (arith, size)) ∙ get_or-drop at xs behind last in
        let rest : at + cut ≡ at + behind + 1 = omega (arith, size) in
        let back : last ∷ drop cut (drop at xs) ≡ drop (at + behind) xs =
        ap (λ l. l ∷ drop cut (drop at xs)) end ∙ ap (λ l. get_or xs (at + behind) last ∷ l) (drop-drop cut at xs ∙ ap (λ n. drop n xs) rest) ∙ sym (drop_more xs (at + behind) last fits) in
        ap (λ l. take at xs ++ (l ++ drop cut (drop at xs))) part_is
        ∙ ap (λ l. take at xs ++ l) (append_assoc (take behind ys) (last ∷ []) (drop cut (drop at xs)) ∙ ap (λ l. take behind ys ++ l) back)
        ∙ sym (append_assoc (take at xs) (take behind ys) (drop (at + behind) xs))
