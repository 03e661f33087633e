-- Rows put in at their place.
use Rattle.std.proofs.Common.{◌≡◌, ℕ, suc, ◌<◌, Bool, true, List, [], ◌∷◌, length, refl, ap, inl, inr, arith, one-add}
use Rattle.std.proofs.lemmas.Bool.{cases_Bool}
use Rattle.std.proofs.lemmas.Bool.Decides.{nat_tests}
use Rattle.std.specs.Prelude.{nat_lt}
use Rattle.std.specs.List.{insert}
use Rattle.sheets.specs.Placing.{place_among, placed, placed_within}

module _ {X : Type 0} (after : X → X → Bool) where
  pub placed_is : (rows : List X) (new : X) → placed after rows new ≡ insert rows (place_among after rows new) new
  placed_is [] new = refl
  placed_is (r ∷ rs) new = elim (cases_Bool (after r new)) [
    | inl behind ↦ rw behind
    | inr ahead ↦ rw (ahead, one-add) (ap (λ xs. r ∷ xs) (placed_is rs new))
  ]

  -- one row more
  pub placed_length : (rows : List X) (new : X) → length (placed after rows new) ≡ suc (length rows)
  placed_length [] new = refl
  placed_length (r ∷ rs) new = elim (cases_Bool (after r new)) [
    | inl behind ↦ rw behind
    | inr ahead ↦ rw ahead (ap suc (placed_length rs new))
  ]

  -- where a place is free, among so many places too
  pub placed_free : (places : ℕ) (rows : List X) (new : X) → length rows < places
      → placed_within after places rows new ≡ placed after rows new
  placed_free places rows new free = let e : nat_lt (length rows) places ≡ true = grind (arith, nat_tests) in rw e
