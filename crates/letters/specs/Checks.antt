-- Checks in an order: the place of the first that fails.
use Rattle.std.specs.Prelude.{ℕ, ◌+◌, Bool, true, false, List, [], ◌∷◌, Some, None, Option}

-- where the test fails, its place; else what comes after it
abbrev pub check : Bool → ℕ → Option ℕ → Option ℕ
check true place later = later
check false place later = Some place

-- the first element that fails a test; the list begins at the place given
abbrev pub first_failing : (ℕ → Bool) → ℕ → List ℕ → Option ℕ
first_failing test place [] = None
first_failing test place (b ∷ bs) = check (test b) place (first_failing test (place + 1) bs)
