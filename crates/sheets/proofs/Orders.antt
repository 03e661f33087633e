-- Rows that stand in order do so with a new one at its place.
use Rattle.std.proofs.Common.{◌≡◌, Bool, true, false, not, List, [], ◌∷◌, refl, inl, inr, arith}
use Rattle.std.specs.Cmp.{IsStrictWeakOrder}
use Rattle.std.proofs.lemmas.Bool.{cases_Bool, and_parts, and_from, not_from_false}
use Rattle.sheets.specs.OrderLemmas.{beyond, not_itself}
use Rattle.sheets.specs.Placing.{in_order, passes_each, placed}

module _ {X : Type 0} (after : X → X → Bool) (laws : IsStrictWeakOrder after) where
  abbrev none_before : X → List X → Bool
  none_before r rows = passes_each (λ r s. not (after r s)) r rows

  -- what does not stand before f does not stand before a new row that f stands after
  not_before : (f new s : X) → after f new ≡ true → not (after f s) ≡ true → not (after new s) ≡ true
  not_before f new s behind e = elim (cases_Bool (after new s)) [
    | inl g ↦ let h = beyond after laws f new s behind g in grind arith
    | inr g ↦ not_from_false (after new s) g
  ]

  none_before_new : (f new : X) (rs : List X) → after f new ≡ true → none_before f rs ≡ true → none_before new rs ≡ true
  none_before_new f new [] behind e = refl
  none_before_new f new (s ∷ ss) behind e =
      let both = and_parts (not (after f s)) (none_before f ss) e in
      and_from (not (after new s)) _ (not_before f new s behind both.0) (none_before_new f new ss behind both.1)

  none_before_placed : (r new : X) (rs : List X) → after r new ≡ false → none_before r rs ≡ true
      → none_before r (placed after rs new) ≡ true
  none_before_placed r new [] ahead e = and_from (not (after r new)) true (not_from_false (after r new) ahead) refl
  none_before_placed r new (s ∷ ss) ahead e =
      let both = and_parts (not (after r s)) (none_before r ss) e in
      elim (cases_Bool (after s new)) [
        | inl g ↦ rw g (and_from (not (after r new)) _ (not_from_false (after r new) ahead) e)
        | inr g ↦ rw g (and_from (not (after r s)) _ both.0 (none_before_placed r new ss ahead both.1))
      ]

  pub placed_in_order : (rows : List X) (new : X) → in_order after rows ≡ true → in_order after (placed after rows new) ≡ true
  placed_in_order [] new up = refl
  placed_in_order (r ∷ rs) new up =
      let both = and_parts (none_before r rs) (in_order after rs) up in
      elim (cases_Bool (after r new)) [
        | inl e ↦
            let first = not_before r new r e (not_from_false (after r r) (not_itself after laws r)) in
            let below = and_from (not (after new r)) _ first (none_before_new r new rs e both.0) in
            rw e (and_from (none_before new (r ∷ rs)) _ below up)
        | inr e ↦ rw e (and_from (none_before r (placed after rs new)) _ (none_before_placed r new rs e both.0) (placed_in_order rs new both.1))
      ]
