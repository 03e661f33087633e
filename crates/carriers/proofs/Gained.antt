-- Lists that gain copies of a letter.
use Rattle.std.proofs.Common.{◌≡◌, suc, ◌+◌, List, [], ◌∷◌, ◌++◌, replicate, sym, ap, ◌∙◌, subst, append_assoc, suc-add}
use lib.ListN.{replicate-append-replicate}
use Rattle.std.specs.List.Sorted.{IsPermutation}
use Rattle.std.proofs.lemmas.List.Sorted.{IsPermutation-append, IsPermutation-append_comm, IsPermutation-append_left, IsPermutation-append_right, IsPermutation-sym, IsPermutation-to_front, IsPermutation-trans}
use Rattle.carriers.specs.Putting.{Gains}

module _ {L : Type 0} where
  -- one copy at the end
  pub gains_end : (x : L) (xs : List L) → Gains x xs (xs ++ (x ∷ []))
  gains_end x xs = record { more = 0; reordered = IsPermutation-sym _ _ (IsPermutation-to_front xs x) }

  -- two lists that gain the letter, one behind the other
  pub gains_append : (x : L) (xs xs' ys ys' : List L) → Gains x xs xs' → Gains x ys ys' → Gains x (xs ++ ys) (xs' ++ ys')
  gains_append x xs xs' ys ys' g h =
      let one : List L = replicate (suc g.more) x in
      let two : List L = replicate (suc h.more) x in
      let sum : replicate (suc (g.more + suc h.more)) x ≡ one ++ two =
      ap (λ n. replicate n x) (sym (suc-add g.more (suc h.more))) ∙ sym (replicate-append-replicate (suc g.more) (suc h.more) x) in
      let inner : IsPermutation (two ++ (xs ++ ys)) (xs ++ (two ++ ys)) =
      subst (λ l. IsPermutation l (xs ++ (two ++ ys))) (append_assoc two xs ys)
      (subst (λ l. IsPermutation ((two ++ xs) ++ ys) l) (append_assoc xs two ys) (IsPermutation-append_left ys (two ++ xs) (xs ++ two) (IsPermutation-append_comm two xs))) in
      let parts : IsPermutation ((one ++ xs) ++ (two ++ ys)) (xs' ++ ys') = IsPermutation-append (one ++ xs) xs' (two ++ ys) ys' g.reordered h.reordered in
      let whole : IsPermutation (one ++ (two ++ (xs ++ ys))) (xs' ++ ys') = IsPermutation-trans _ _ _
      (IsPermutation-append_right one _ _ inner)
      (subst (λ l. IsPermutation l (xs' ++ ys')) (append_assoc one xs (two ++ ys)) parts) in
      record {
        more = g.more + suc h.more;
        reordered = subst (λ l. IsPermutation l (xs' ++ ys')) (sym (ap (λ l. l ++ (xs ++ ys)) sum ∙ append_assoc one two (xs ++ ys))) whole;
      }
