-- The table of full masks: entry n is 2 ^ n - 1.
use Rattle.std.proofs.Common.{◌≡◌, ℕ, ◌≤◌, eqb, List, [], ◌∷◌, get_or, refl, arith}
use Rattle.std.proofs.lemmas.Bool.{eqb-true}
use Rattle.spool.specs.Masks.{full}
use Rattle.spool.proofs.Bits.{every_at}

abbrev pub masks : List ℕ
masks = 0 ∷ 1 ∷ 3 ∷ 7 ∷ 15 ∷ 31 ∷ 63 ∷ 127 ∷ 255 ∷ 511 ∷ 1023 ∷ 2047 ∷ 4095 ∷ 8191 ∷ 16383 ∷ 32767 ∷ 65535 ∷ []

pub full_is : (n : ℕ) → n ≤ 16 → get_or masks n 0 ≡ full n
full_is n h = eqb-true _ _ (every_at (λ i x. eqb x (full i)) masks 0 n refl (omega arith))
