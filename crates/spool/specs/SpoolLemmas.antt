-- Spools are lawful.
use Rattle.std.specs.Prelude.{◌≡◌, ℕ, zero, suc, ◌+◌, ◌/◌, ◌%◌, ◌^◌, ◌<◌, ◌≤◌, Bool, true, false, cond, List, [], ◌∷◌, ◌++◌, length, ◌≢◌, nat_eq, refl}
use Rattle.std.proofs.Common.{ap, sym, ◌∙◌, subst, ⊎_elim, append-nil, arith, pow-suc, div-one, length-append}
use Rattle.std.proofs.Math.Nat.{div-eq_of_lt}
use Rattle.std.proofs.lemmas.Bool.{lt-ltb, le-ltb, le-leb, and_from, and_left, eq-eqb, cases_eq, cases_order}
use Rattle.std.proofs.lemmas.Nat.{shr-shr, pow_below}
use Rattle.letters.specs.Forms.{Form}
use Rattle.carriers.specs.Meaning.{LawfulMeaning}
use Rattle.spool.specs.declared.Spool.{Spool}
use Rattle.spool.specs.Decoding.{letter_of}
use Rattle.spool.specs.Masks.{marked}
use Rattle.spool.specs.Rows.{row_at, mask_of, picks, marks_at, letters_at}
use Rattle.spool.specs.Spools.{spool_of}

-- a mask that is not 0 marks a seat
pub some_bit : (n mask : ℕ) → 0 < mask → mask < 2 ^ n → (k : ℕ) × (marked mask k ≡ true)
some_bit zero mask h l = absurd (omega arith)
some_bit (suc n) mask h l = ⊎_elim
    (λ odd. (0, eq-eqb _ _ (ap (λ x. x % 2) (div-one mask) ∙ odd)))
    (λ even.
    let double = pow-suc 2 n in
    let rest = some_bit n (mask / 2) (omega arith) (omega arith) in
    let next : 1 + rest.0 ≡ suc rest.0 = omega arith in
    (suc rest.0, ap (λ x. nat_eq (x % 2) 1) (sym (shr-shr mask 1 rest.0 ∙ ap (λ j. mask / 2 ^ j) next)) ∙ rest.1))
    (cases_eq (mask % 2) 1)

-- no bit at or above the width
pub no_bit : (n mask k : ℕ) → mask < 2 ^ n → n ≤ k → marked mask k ≡ false
no_bit n mask k l h =
    let wide : mask < 2 ^ k = ⊎_elim
    (λ same. subst (λ j. mask < 2 ^ j) same l)
    (⊎_elim (λ less. let more = pow_below n k less in omega arith) (λ more. absurd (omega arith)))
    (cases_order n k) in
    ap (λ x. nat_eq (x % 2) 1) (div-eq_of_lt wide)

module _ {L : Type 0} (t : ℕ → Bool) (f : ℕ → L) where
  pub picks_none : (n : ℕ) → ((r : ℕ) → r < n → t r ≡ false) → picks t f n ≡ []
  picks_none zero e = refl
  picks_none (suc n) e = let z = e n (omega arith) in rw z (append-nil (picks t f n) ∙ picks_none n (λ r l. e r (omega arith)))

  pub picks_some : (n : ℕ) → t n ≡ true → picks t f (suc n) ≢ []
  picks_some n y e =
      let long : length (picks t f n ++ cond (t n) (f n ∷ []) []) ≡ 0 = ap length e in
      let one : length (cond (t n) (f n ∷ []) []) ≡ 1 = ap (λ b. length (cond b (f n ∷ []) [])) y in
      omega (arith, length-append (picks t f n) (cond (t n) (f n ∷ []) []))

-- where nothing is picked for any seat, there is no row
no_rows_wait : {L : Type 0} (letter : List ℕ → L) (seats rows : ℕ) (bytes : List ℕ) →
    ((r : ℕ) → r < rows → 0 < mask_of (row_at bytes r)) → ((r : ℕ) → r < rows → mask_of (row_at bytes r) < 2 ^ seats) →
    ((k : ℕ) → picks (marks_at bytes k) (letters_at letter bytes) rows ≡ []) → rows ≡ 0
no_rows_wait letter seats zero bytes wanted seated none = refl
no_rows_wait letter seats (suc n) bytes wanted seated none =
    let bit = some_bit seats (mask_of (row_at bytes n)) (wanted n (omega arith)) (seated n (omega arith)) in
    absurd (picks_some (marks_at bytes bit.0) (letters_at letter bytes) n bit.1 (none bit.0))

pub lawful_spool : {B : Type 0} (form : Form B) (blank : B) (s : Spool B) → LawfulMeaning (spool_of form blank s)
lawful_spool form blank s = record {
  some_seats = s.some;
  few_seats = s.few;
  no_waiting = λ k h. picks_none _ _ s.rows (λ r l. no_bit s.seats _ k (s.seated r l) h);
  no_fits = λ k h. and_left _ _ (le-ltb k s.seats h);
  empty_fits = λ none p h. and_from _ _ (lt-ltb p s.seats h)
      (le-leb _ _ (let z = no_rows_wait (letter_of form blank) s.seats s.rows s.row_buffer.bytes.now s.wanted s.seated none in omega (arith, s.spacious)));
}
