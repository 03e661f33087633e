-- A queue that is closed up over a place that was taken out.
use Rattle.std.proofs.Common.{◌≡◌, ℕ, suc, ◌+◌, ◌-◌, ◌<◌, ◌≤◌, List, ◌++◌, length, take, drop, sym, ap, ◌∙◌, arith, length-drop}
use lib.Seq.{take-paste}
use Rattle.std.specs.List.{copy_within, remove}
use Rattle.std.proofs.lemmas.List.{take-take, drop-take}

module _ {X : Type 0} (d : List X) (place : ℕ) where
  -- those behind a place of the first n are copied down by one
  pub closed_up : (n : ℕ) → place < n → n ≤ length d → take (n - 1) (copy_within d (place + 1) n place) ≡ remove (take n d) place
  closed_up n lt le =
      let k = n - (place + 1) in
      let from = place + 1 in
      let long = length-drop from d in
      let end : n - 1 ≡ place + k = omega arith in
      let whole : n ≡ suc place + k = omega arith in
      let next : suc place ≡ from = omega arith in
      let front : take place (take n d) ≡ take place d = take-take place n d (omega arith) in
      let back : drop (suc place) (take n d) ≡ take k (drop from d) =
      ap (λ w. drop (suc place) (take w d)) whole ∙ drop-take (suc place) k d ∙ ap (λ w. take k (drop w d)) next in
      ap (λ e. take e (copy_within d from n place)) end ∙ take-paste d place (drop from d) k (omega arith) (omega arith)
      ∙ sym (ap (λ l. l ++ drop (suc place) (take n d)) front ∙ ap (λ l. take place d ++ l) back)
