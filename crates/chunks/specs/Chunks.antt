-- What filling a chunk reads.
use Rattle.std.specs.Prelude.{ℕ, ◌<◌, ◌≤◌, List, length, take, Option}
use Rattle.std.specs.Io.KnownBytes.{Consumes, IsAtEnd}

-- a chunk of n bytes was read; it is short only where nothing is left
pub record Filled (known left : Option (List ℕ)) (chunk : List ℕ) (n : ℕ) : Type 0 where
  pub fits : n ≤ length chunk
  pub read : Consumes known left (take n chunk)
  pub short : n < length chunk → IsAtEnd left

-- a read failed before the chunk was full; the n bytes that were read until then stand at its front, and the others are still to be read
pub record BrokenOff (known left : Option (List ℕ)) (chunk : List ℕ) : Type 0 where
  pub n : ℕ
  pub fits : n < length chunk
  pub read : Consumes known left (take n chunk)
