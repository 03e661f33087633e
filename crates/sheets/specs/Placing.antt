-- Rows that stand in an order, and where a new one goes among them.
use Rattle.std.specs.Prelude.{ℕ, Bool, true, cond, not, ◌&&◌, List, [], ◌∷◌, ◌++◌, length, filter, nat_lt}
use Rattle.std.specs.List.{prefix_len}

module _ {X : Type 0} (test : X → X → Bool) where
  -- r passes the test with each row of the list
  abbrev pub passes_each : X → List X → Bool
  passes_each r [] = true
  passes_each r (s ∷ ss) = test r s && passes_each r ss

  -- each row passes the test with each that is below it
  abbrev pub pairs_pass : List X → Bool
  pairs_pass [] = true
  pairs_pass (r ∷ rs) = passes_each r rs && pairs_pass rs

-- whether a row stands after another
module _ {X : Type 0} (after : X → X → Bool) where
  -- the new row goes before the first that stands after it, else to the end
  abbrev pub placed : List X → X → List X
  placed [] new = new ∷ []
  placed (r ∷ rs) new = cond (after r new) (new ∷ (r ∷ rs)) (r ∷ placed rs new)

  -- the same among so many places; where as many rows stand, they stay
  abbrev pub placed_within : ℕ → List X → X → List X
  placed_within places rows new = cond (nat_lt (length rows) places) (placed rows new) rows

  -- a row that does not stand after the new one stays before it
  abbrev pub stays : X → X → Bool
  stays new r = not (after r new)

  -- how many rows stand before the first that stands after the new one
  abbrev pub place_among : List X → X → ℕ
  place_among rows new = prefix_len (stays new) rows

  -- the new row among those that it stands after and those that stand after it: one that is level with it is replaced
  abbrev pub with_row : List X → X → List X
  with_row rows new = filter (λ r. after new r) rows ++ new ∷ filter (λ r. after r new) rows

  -- the rows stand in order: none stands after one that is below it
  abbrev pub in_order : List X → Bool
  in_order rows = pairs_pass (λ r s. not (after r s)) rows

  -- each row stands after those above it, so that no two are level
  abbrev pub rising : List X → Bool
  rising rows = pairs_pass (λ r s. after s r) rows
