-- The bytes that a text may have.
use Rattle.std.specs.Prelude.{ℕ, Bool, ◌&&◌, List, length, Option, nat_le}
use Rattle.letters.specs.declared.text.TheConstants.{LONGEST_TEXT}
use Rattle.letters.specs.Checks.{check, first_failing}

-- the characters from space to tilde
abbrev pub printable : ℕ → Bool
printable c = nat_le 32 c && nat_le c 126

-- the first byte at which a list is not a text
abbrev pub text_wrong : List ℕ → Option ℕ
text_wrong bs = check (nat_le (length bs) LONGEST_TEXT) LONGEST_TEXT (first_failing printable 0 bs)
