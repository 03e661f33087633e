-- Parts of one lent row of places.
use Rattle.std.specs.Prelude.{◌≡◌, ℕ, ◌+◌, List, take, drop}

module _ {X : Type 0} where
  -- so many places from a start on
  abbrev pub part_at : ℕ → ℕ → List X → List X
  part_at start count places = take count (drop start places)

  -- only the places of one part were written
  abbrev pub OnlyAt : ℕ → ℕ → List X → List X → Type 0
  OnlyAt start size before after = (take start after ≡ take start before) × (drop (start + size) after ≡ drop (start + size) before)
