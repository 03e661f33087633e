-- Numbers as bytes, the low byte first. The last byte takes what is left, so no two numbers have the same bytes.
use Rattle.std.specs.Prelude.{ℕ, ◌+◌, ◌-◌, ◌*◌, ◌/◌, ◌%◌, List, [], ◌∷◌, ◌++◌, length, replicate, slice_index}

abbrev pub bytes_of_16 : ℕ → List ℕ
bytes_of_16 n = n % 256 ∷ n / 256 ∷ []

abbrev pub bytes_of_32 : ℕ → List ℕ
bytes_of_32 n = n % 256 ∷ n / 256 % 256 ∷ n / 65536 % 256 ∷ n / 16777216 ∷ []

-- the 16-bit number that stands at a place
abbrev pub number_16 : ℕ → List ℕ → ℕ
number_16 place bs = slice_index bs place + slice_index bs (place + 1) * 256

-- the 32-bit number that stands at a place
abbrev pub number_32 : ℕ → List ℕ → ℕ
number_32 place bs =
    slice_index bs place + slice_index bs (place + 1) * 256 + slice_index bs (place + 2) * 65536 + slice_index bs (place + 3) * 16777216

-- bytes, and zeros after them up to a length
abbrev pub padded : ℕ → List ℕ → List ℕ
padded size bs = bs ++ replicate (size - length bs) 0
