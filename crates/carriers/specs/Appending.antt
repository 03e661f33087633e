-- A put that adds one copy at the end of each list.
use Rattle.std.specs.Prelude.{◌≡◌, ℕ, cond, not, ◌&&◌, List, [], ◌∷◌, ◌++◌, ◌==◌, nat_lt}
use Rattle.carriers.specs.Meaning.{Meaning}

module _ {L : Type 0} where
  -- a seat's list after the put: one copy more at the end, except in the poster's
  abbrev pub appended : Meaning L → ℕ → L → ℕ → List L
  appended m poster x k = cond (nat_lt k m.seats && not (k == poster)) (m.waiting k ++ (x ∷ [])) (m.waiting k)

  -- what one put leaves on such a carrier
  abbrev pub Appends : Meaning L → ℕ → L → Meaning L → Type 0
  Appends m poster x after = (k : ℕ) → after.waiting k ≡ appended m poster x k
