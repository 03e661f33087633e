-- Single bits of a mask.
use Rattle.std.proofs.Common.{◌≡◌, ℕ, zero, suc, ◌+◌, ◌-◌, ◌*◌, ◌/◌, ◌%◌, ◌^◌, ◌<◌, Bool, true, false, ◌&&◌, eqb, List, [], ◌∷◌, length, get_or, sym, refl, ap, ◌∙◌, ⊎_elim, add-mul, one-mul, pow-suc, arith}
use lib.Bits.{bit_xor, xor_shr, xor_mod, xor_zero_r}
use lib.Count.{ones, ones_step}
use native.Mathlib.Nat.{mul-mod_left, div-eq_of_lt}
use Rattle.std.proofs.lemmas.Nat.{pow_pos, shl-shr, pow-add, pow_below, div-mul-add}
use Rattle.std.proofs.lemmas.Bool.{cases_lt, eqb-true, eq-eqb, and_parts}
use Rattle.spool.specs.Masks.{full, marked}

digit : ℕ → ℕ → ℕ
digit n k = n / 2 ^ k % 2

digit_xor : (a b k : ℕ) → digit (bit_xor a b) k ≡ bit_xor (digit a k) (digit b k)
unfolding digit
digit_xor a b k = ap (λ x. x % 2) (xor_shr a b k) ∙ xor_mod (a / 2 ^ k) (b / 2 ^ k) 1

digit_pow_same : (k : ℕ) → digit (2 ^ k) k ≡ 1
unfolding digit
digit_pow_same k = ap (λ x. x / 2 ^ k % 2) (sym (one-mul (2 ^ k))) ∙ ap (λ x. x % 2) (shl-shr 1 k)

digit_pow_other : (j k : ℕ) → (j ≡ k → ⊥) → digit (2 ^ k) j ≡ 0
unfolding digit
digit_pow_other j k ne = ⊎_elim
    (λ below.
    let up = k - j - 1 in
    let sum : k ≡ (up + 1) + j = omega arith in
    ap (λ x. 2 ^ x / 2 ^ j % 2) sum ∙ ap (λ x. x / 2 ^ j % 2) (pow-add 2 (up + 1) j) ∙ ap (λ x. x % 2) (shl-shr (2 ^ (up + 1)) j)
    ∙ ap (λ x. x % 2) (pow-add 2 up 1) ∙ mul-mod_left (2 ^ up) 2)
    (λ above.
    let less : 2 ^ k < 2 ^ j = pow_below k j (omega arith) in
    ap (λ x. x % 2) (div-eq_of_lt less))
    (cases_lt j k)

-- a bit that is turned over, and the others
pub cleared : (mask k : ℕ) → marked mask k ≡ true → marked (bit_xor mask (2 ^ k)) k ≡ false
unfolding digit
cleared mask k y = ap (λ d. eqb d 1) (digit_xor mask (2 ^ k) k ∙ ap (λ d. bit_xor (digit mask k) d) (digit_pow_same k) ∙ ap (λ d. bit_xor d 1) (eqb-true (digit mask k) 1 y))

pub other_bit : (mask j k : ℕ) → (j ≡ k → ⊥) → marked (bit_xor mask (2 ^ k)) j ≡ marked mask j
unfolding digit
other_bit mask j k ne = ap (λ d. eqb d 1) (digit_xor mask (2 ^ k) j ∙ ap (λ d. bit_xor (digit mask j) d) (digit_pow_other j k ne) ∙ xor_zero_r (digit mask j))

-- the bits of a full mask
pub full_bit : (n k : ℕ) → k < n → marked (full n) k ≡ true
full_bit n k h =
    let up = n - k - 1 in
    let low = 2 ^ up * 2 - 1 in
    let sum : n ≡ (up + 1) + k = omega arith in
    let pos = pow_pos up in
    let posk = pow_pos k in
    let odd : 2 ^ (up + 1) ≡ low + 1 = pow-add 2 up 1 ∙ omega arith in
    let product : (low + 1) * 2 ^ k ≡ low * 2 ^ k + 1 * 2 ^ k = add-mul low 1 (2 ^ k) in
    let whole : 2 ^ n ≡ (low + 1) * 2 ^ k = ap (λ x. 2 ^ x) sum ∙ pow-add 2 (up + 1) k ∙ ap (λ x. x * 2 ^ k) odd in
    let one-k = one-mul (2 ^ k) in
    let split : 2 ^ n - 1 ≡ low * 2 ^ k + (2 ^ k - 1) = omega arith in
    let top : (2 ^ n - 1) / 2 ^ k ≡ low = ap (λ x. x / 2 ^ k) split ∙ div-mul-add low (2 ^ k) (2 ^ k - 1) (omega arith) in
    let last : low % 2 ≡ 1 = omega arith in
    eq-eqb _ _ (ap (λ x. x % 2) top ∙ last)

-- a mask with no ones is 0
pub ones_none : (n mask : ℕ) → ones mask ≡ 0 → mask < 2 ^ n → mask ≡ 0
ones_none zero mask e l = omega arith
ones_none (suc n) mask e l =
    let step = ones_step mask in
    let double = pow-suc 2 n in
    let rest = ones_none n (mask / 2) (omega arith) (omega arith) in
    omega arith

-- the test f passes at each entry of the list and its place, counted from i
abbrev pub every : (ℕ → ℕ → Bool) → ℕ → List ℕ → Bool
every f i [] = true
every f i (x ∷ xs) = f i x && every f (suc i) xs

from : (f : ℕ → ℕ → Bool) (xs : List ℕ) (i k : ℕ) → every f i xs ≡ true → k < length xs → f (i + k) (get_or xs k 0) ≡ true
from f [] i k t h = absurd (omega arith)
from f (x ∷ xs) i zero t h = let z : i + 0 ≡ i = omega arith in ap (λ j. f j x) z ∙ (and_parts (f i x) (every f (suc i) xs) t).0
from f (x ∷ xs) i (suc k) t h = let z : i + suc k ≡ suc i + k = omega arith in ap (λ j. f j (get_or xs k 0)) z ∙ from f xs (suc i) k (and_parts (f i x) (every f (suc i) xs) t).1 (omega arith)

pub every_at : (f : ℕ → ℕ → Bool) (xs : List ℕ) (z k : ℕ) → every f 0 xs ≡ true → k < length xs → f k (get_or xs k 0) ≡ true
every_at f xs z k t h = let e : k ≡ 0 + k = omega arith in ap (λ j. f j (get_or xs k 0)) e ∙ from f xs 0 k t h

pub ones_some : (mask : ℕ) → (ones mask ≡ 0 → ⊥) → 0 < mask
unfolding ones
ones_some zero h = absurd (h refl)
ones_some (suc m) h = omega arith
