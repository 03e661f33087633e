-- The ones in a mask are the seats that have yet to draw.
use Rattle.std.specs.Prelude.{◌≡◌, ℕ, zero, suc, ◌+◌, ◌/◌, ◌%◌, ◌^◌, ◌<◌, cond, ◌==◌, count_ones, nat_eq}
use Rattle.std.proofs.Common.{ap, sym, ◌∙◌, ⊎_elim, arith, pow-suc, div-one}
use Rattle.std.proofs.lemmas.Bool.{cases_eq, cond-false, cond-true, eq-eqb, ne_eqb}
use Rattle.std.proofs.lemmas.Nat.{ones_le_self, shr-shr}
use Rattle.std.specs.Int.Count.{ones_step}
use Rattle.spool.specs.Masks.{marked, seats_marked}

-- the bit of a later seat is one of the mask without its lowest bit
later : (mask k : ℕ) → marked mask (suc k) ≡ marked (mask / 2) k
later mask k =
    let next : 1 + k ≡ suc k = omega arith in
    ap (λ x. nat_eq (x % 2) 1) (sym (shr-shr mask 1 k ∙ ap (λ j. mask / 2 ^ j) next))

-- the first seat's bit is the lowest
lowest : (mask : ℕ) → cond (marked mask 0) 1 0 ≡ mask % 2
lowest mask =
    let first : marked mask 0 ≡ (mask % 2 == 1) = ap (λ x. nat_eq (x % 2) 1) (div-one mask) in
    ap (λ b. cond b 1 0) first
    ∙ ⊎_elim
    (λ odd. cond-true (mask % 2 == 1) 1 0 (eq-eqb (mask % 2) 1 odd) ∙ sym odd)
    (λ even. let none : mask % 2 ≡ 0 = omega arith in cond-false (mask % 2 == 1) 1 0 (ne_eqb (mask % 2) 1 even) ∙ sym none)
    (cases_eq (mask % 2) 1)

-- the first seat, and those behind it
by_lowest : (mask n : ℕ) → seats_marked mask (suc n) ≡ mask % 2 + seats_marked (mask / 2) n
by_lowest mask zero = let low = lowest mask in omega arith
by_lowest mask (suc n) =
    let a = seats_marked (mask / 2) n in
    let b : ℕ = cond (marked (mask / 2) n) 1 0 in
    let apart : mask % 2 + a + b ≡ mask % 2 + (a + b) = omega arith in
    ap (λ r. r + cond (marked mask (suc n)) 1 0) (by_lowest mask n) ∙ ap (λ t. mask % 2 + a + cond t 1 0) (later mask n) ∙ apart

-- a mask for n seats has as many ones as there are seats among them that have yet to draw
pub ones_seats : (n mask : ℕ) → mask < 2 ^ n → count_ones mask ≡ seats_marked mask n
ones_seats zero mask h = let few = ones_le_self mask in omega arith
ones_seats (suc n) mask h =
    let double = pow-suc 2 n in
    ones_step mask ∙ ap (λ r. mask % 2 + r) (ones_seats n (mask / 2) (omega arith)) ∙ sym (by_lowest mask n)
