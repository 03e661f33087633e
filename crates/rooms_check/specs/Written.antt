-- What a writer has after a run.
use Rattle.std.specs.Prelude.{ℕ, List, Option}
use Rattle.std.specs.Io.KnownBytes.{Appends}

-- what was written before stays in front of what is written now
abbrev pub IsExtended : Option (List ℕ) → Option (List ℕ) → Type 0
IsExtended old new = (bytes : List ℕ) × Appends old new bytes
