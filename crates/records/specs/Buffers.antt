-- Bytes in a buffer.
use Rattle.std.specs.Prelude.{ℕ, ◌+◌, List, ◌++◌, length, take, drop}

-- bytes written over others from a place on
abbrev pub overlaid : List ℕ → ℕ → List ℕ → List ℕ
overlaid old at new = take at old ++ (new ++ drop (at + length new) old)
