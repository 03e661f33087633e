-- Bytes to a number and back.
use Rattle.std.specs.Prelude.{◌≡◌, ℕ, ◌+◌, ◌*◌, ◌/◌, ◌%◌, ◌<◌, List, [], ◌∷◌, ◌++◌, length, drop, replicate}
use Rattle.std.proofs.Common.{ap, ◌∙◌, arith}
use Rattle.std.proofs.lemmas.List.{drop-replicate}
use Rattle.letters.specs.Numbers.{bytes_of_16, bytes_of_32, padded}

pub bytes_of_16_back : (low high : ℕ) → low < 256 → bytes_of_16 (low + high * 256) ≡ low ∷ high ∷ []
bytes_of_16_back low high h =
    let l : (low + high * 256) % 256 ≡ low = omega arith in
    let m : (low + high * 256) / 256 ≡ high = omega arith in cc

-- one digit more of a number of which a quotient is known
rest_mod : (n q digit by : ℕ) → n / by ≡ q → q % 256 ≡ digit → n / by % 256 ≡ digit
rest_mod n q digit by e f = ap (λ m. m % 256) e ∙ f

pub bytes_of_32_back : (a b c d : ℕ) → a < 256 → b < 256 → c < 256 → bytes_of_32 (a + b * 256 + c * 65536 + d * 16777216) ≡ a ∷ b ∷ c ∷ d ∷ []
bytes_of_32_back a b c d ha hb hc =
    let n : ℕ = a + b * 256 + c * 65536 + d * 16777216 in
    let e0 : n % 256 ≡ a = omega arith in
    let e1 : n / 256 % 256 ≡ b = rest_mod n (b + c * 256 + d * 65536) b 256 (omega arith) (omega arith) in
    let e2 : n / 65536 % 256 ≡ c = rest_mod n (c + d * 256) c 65536 (omega arith) (omega arith) in
    let e3 : n / 16777216 ≡ d = omega arith in cc

-- the two bytes of a number give it back
pub made_up_16 : (n : ℕ) → n % 256 + n / 256 * 256 ≡ n
made_up_16 n = omega arith

pub made_up_32 : (n : ℕ) → n % 256 + n / 256 % 256 * 256 + n / 65536 % 256 * 65536 + n / 16777216 * 16777216 ≡ n
made_up_32 n = omega arith

-- bytes laid over zeros
pub laid : (size : ℕ) (bs : List ℕ) → bs ++ drop (length bs) (replicate size 0) ≡ padded size bs
laid size bs = ap (λ l. bs ++ l) (drop-replicate (length bs) size 0)
