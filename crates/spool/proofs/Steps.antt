-- What a put and a draw do to what a spool holds.
use Rattle.std.proofs.Common.{◌≡◌, ℕ, suc, ◌+◌, ◌-◌, ◌*◌, ◌%◌, ◌^◌, ◌<◌, ◌≤◌, Bool, true, false, cond, not, ◌&&◌, eqb, ltb, ◌==◌, count_ones, Some, List, [], ◌∷◌, ◌++◌, length, sym, refl, ap, ◌∙◌, subst, ⊎_elim, append-nil, add-one, arith}
use lib.Bits.{bit_xor, xor_lt}
use Rattle.std.proofs.lemmas.Nat.{one_shl, pow_pos, pow_below}
use Rattle.std.proofs.lemmas.Bool.{cases_eq, cases_lt, and_from, and_left, and_right, cond-false, eq-eqb, ne_eqb, lt-ltb, le-ltb}
use Rattle.carriers.specs.Appending.{appended}
use Rattle.carriers.specs.Meaning.{Drawn}
use Rattle.spool.specs.Masks.{all_but, full, marked}
use Rattle.spool.specs.Rows.{row_at, mask_of, picks, marks_at, letters_at, record_part}
use Rattle.spool.specs.declared.Spool.{Spool}
use Rattle.letters.specs.Forms.{Form}
use Rattle.spool.specs.Decoding.{letter_of}
use Rattle.spool.specs.Spools.{RowStruck, StandsAt, StrikesRow, spool_meaning, spool_of}
use Rattle.spool.specs.SpoolLemmas.{no_bit}
use Rattle.spool.proofs.Bits.{cleared, other_bit, full_bit}
use Rattle.spool.proofs.Picks.{picks_same, picks_clear, picks_close, picks_grow}

pub turned_below : (seats mask seat : ℕ) → mask < 2 ^ seats → seat < seats → bit_xor mask (2 ^ seat) < 2 ^ seats
turned_below seats mask seat l h = xor_lt seats mask (2 ^ seat) l (pow_below seat seats h)

-- a mask with a seat's bit turned, as the code shifts the bit
pub turned_bit : (m k seat : ℕ) → m ≡ k → seat < 16 → bit_xor m ((1 * 2 ^ seat) % 65536) ≡ bit_xor k (2 ^ seat)
turned_bit m k seat e h = ap (λ x. bit_xor x ((1 * 2 ^ seat) % 65536)) e ∙ ap (bit_xor k) (one_shl seat 16 h)

pub but_below : (seats poster : ℕ) → poster < seats → all_but seats poster < 2 ^ seats
but_below seats poster h = let p = pow_pos seats in turned_below seats (full seats) poster (omega arith) h

-- the full mask less the poster's bit marks each other seat
pub but_marks : (seats poster k : ℕ) → poster < seats → marked (all_but seats poster) k ≡ (ltb k seats && not (eqb k poster))
but_marks seats poster k h = ⊎_elim
    (λ own. subst (λ j. marked (all_but seats poster) j ≡ false) (sym own) (cleared (full seats) poster (full_bit seats poster h))
    ∙ sym (and_right (ltb k seats) _ (ap not (eq-eqb k poster own))))
    (λ other. ⊎_elim
    (λ below. other_bit (full seats) k poster other ∙ full_bit seats k below ∙ sym (and_from _ _ (lt-ltb k seats below) (ap not (ne_eqb k poster other))))
    (λ above. no_bit seats (all_but seats poster) k (but_below seats poster h) above ∙ sym (and_left _ _ (le-ltb k seats above)))
    (cases_lt k seats))
    (cases_eq k poster)

-- a copy at the end, or none
at_end : {L : Type 0} (b : Bool) (xs : List L) (x : L) → xs ++ cond b (x ∷ []) [] ≡ cond b (xs ++ (x ∷ [])) xs
at_end true xs x = refl
at_end false xs x = append-nil xs

module _ {L : Type 0} (letter : List ℕ → L) (seats rows : ℕ) (b a : List ℕ) where
  -- a row more, for all but the poster
  pub spooled : (poster : ℕ) (x : L) → poster < seats → ((r : ℕ) → r < rows → row_at a r ≡ row_at b r) →
      mask_of (row_at a rows) ≡ all_but seats poster → letter (record_part (row_at a rows)) ≡ x →
      (k : ℕ) → (spool_meaning letter seats (rows + 1) a).waiting k ≡ appended (spool_meaning letter seats rows b) poster x k
  spooled poster x h same mask is k =
      let before : List L = picks (marks_at b k) (letters_at letter b) rows in
      ap (picks (marks_at a k) (letters_at letter a)) (add-one rows)
      ∙ ap (λ l. l ++ cond (marks_at a k rows) (letters_at letter a rows ∷ []) [])
      (picks_same (marks_at a k) (marks_at b k) (letters_at letter a) (letters_at letter b) rows (λ r l. ap (λ w. marked (mask_of w) k) (same r l)) (λ r l _. ap (λ w. letter (record_part w)) (same r l)))
      ∙ ap (λ m. before ++ cond (marked m k) (letters_at letter a rows ∷ []) []) mask
      ∙ ap (λ y. before ++ cond (marked (all_but seats poster) k) (y ∷ []) []) is
      ∙ at_end (marked (all_but seats poster) k) before x
      ∙ ap (λ t. cond t (before ++ (x ∷ [])) before) (but_marks seats poster k h)

  module _ (seat i : ℕ) (in_rows : i < rows) (has : marks_at b seat i ≡ true) where
    abbrev place : ℕ
    place = length (picks (marks_at b seat) (letters_at letter b) i)

    -- the row waits for others still
    pub drawn_mask : ((r : ℕ) → (r ≡ i → ⊥) → row_at a r ≡ row_at b r) → mask_of (row_at a i) ≡ bit_xor (mask_of (row_at b i)) (2 ^ seat) → record_part (row_at a i) ≡ record_part (row_at b i) →
        Drawn (spool_meaning letter seats rows b) seat place (spool_meaning letter seats rows a)
    drawn_mask same mask kept =
        let letters : (r : ℕ) → letters_at letter b r ≡ letters_at letter a r = λ r. ⊎_elim
        (λ e. ap letter (subst (λ j. record_part (row_at b j) ≡ record_part (row_at a j)) (sym e) (sym kept)))
        (λ ne. ap (λ w. letter (record_part w)) (sym (same r ne)))
        (cases_eq r i) in
        record {
          seats = refl;
          own = picks_clear (marks_at b seat) (marks_at a seat) (letters_at letter b) (letters_at letter a) i rows in_rows has
              (ap (λ m. marked m seat) mask ∙ cleared (mask_of (row_at b i)) seat has)
              (λ r l ne. ap (λ w. marked (mask_of w) seat) (sym (same r ne)))
              (λ r l ne. letters r);
          others = λ k ne. sym (picks_same (marks_at b k) (marks_at a k) (letters_at letter b) (letters_at letter a) rows
              (λ r l. ⊎_elim
              (λ e. subst (λ j. marks_at b k j ≡ marks_at a k j) (sym e) (sym (ap (λ m. marked m k) mask ∙ other_bit (mask_of (row_at b i)) k seat ne)))
              (λ other. ap (λ w. marked (mask_of w) k) (sym (same r other)))
              (cases_eq r i))
              (λ r l _. letters r));
        }

    -- the row waits for nobody more, and the rows behind it close up
    pub drawn_row : ((r : ℕ) → r < i → row_at a r ≡ row_at b r) → ((r : ℕ) → i ≤ r → r + 1 < rows → row_at a r ≡ row_at b (r + 1)) → bit_xor (mask_of (row_at b i)) (2 ^ seat) ≡ 0 →
        Drawn (spool_meaning letter seats rows b) seat place (spool_meaning letter seats (rows - 1) a)
    drawn_row before behind none =
        let n = rows - 1 in
        let whole : suc n ≡ rows = omega arith in
        let in_n : i ≤ n = omega arith in
        let later : (r : ℕ) → i ≤ r → r < n → row_at b (suc r) ≡ row_at a r = λ r h l. let s : r + 1 ≡ suc r = add-one r in sym (behind r h (omega arith) ∙ ap (row_at b) s) in
        let t : ℕ → Bool = λ r. cond (eqb r i) false (marks_at b seat r) in
        let off : t i ≡ false = ap (λ v. cond v false (marks_at b seat i)) (eq-eqb i i refl) in
        let on : (r : ℕ) → (r ≡ i → ⊥) → t r ≡ marks_at b seat r = λ r ne. ap (λ v. cond v false (marks_at b seat r)) (ne_eqb r i ne) in
        record {
          seats = refl;
          own = picks_close t (marks_at a seat) (letters_at letter b) (letters_at letter a) i n in_n off
              (λ r l. (on r (omega arith) ∙ ap (λ w. marked (mask_of w) seat) (sym (before r l)), ap (λ w. letter (record_part w)) (sym (before r l))))
              (λ r h l. (on (suc r) (omega arith) ∙ ap (λ w. marked (mask_of w) seat) (later r h l), ap (λ w. letter (record_part w)) (later r h l)))
              ∙ ap (picks t (letters_at letter b)) whole
              ∙ picks_clear (marks_at b seat) t (letters_at letter b) (letters_at letter b) i rows in_rows has off (λ r l ne. sym (on r ne)) (λ r l ne. refl);
          others = λ k ne.
              let gone : marks_at b k i ≡ false = sym (other_bit (mask_of (row_at b i)) k seat ne) ∙ ap (λ m. marked m k) none ∙ no_bit 0 0 k (omega arith) (omega arith) in
              picks_close (marks_at b k) (marks_at a k) (letters_at letter b) (letters_at letter a) i n in_n gone
              (λ r l. (ap (λ w. marked (mask_of w) k) (sym (before r l)), ap (λ w. letter (record_part w)) (sym (before r l))))
              (λ r h l. (ap (λ w. marked (mask_of w) k) (later r h l), ap (λ w. letter (record_part w)) (later r h l)))
              ∙ ap (picks (marks_at b k) (letters_at letter b)) whole;
        }

-- no row, where the poster is the only seat
pub nobody_else : {L : Type 0} (letter : List ℕ → L) (seats rows : ℕ) (b : List ℕ) (poster : ℕ) (x : L) → poster < seats → all_but seats poster ≡ 0 →
    (k : ℕ) → (spool_meaning letter seats rows b).waiting k ≡ appended (spool_meaning letter seats rows b) poster x k
nobody_else letter seats rows b poster x h none k =
    sym (cond-false _ _ _ (sym (but_marks seats poster k h) ∙ ap (λ m. marked m k) none ∙ no_bit 0 0 k (omega arith) (omega arith)))

-- a row's lot, by what is left in its mask
pub struck : {B : Type 0} (s : Spool B) (row seat : ℕ) (after : Spool B) (t : Bool) → t ≡ (count_ones (bit_xor (mask_of (row_at s.row_buffer.bytes.now row)) (2 ^ seat)) == 0)
    → RowStruck t s row seat after → StrikesRow s row seat after
struck s row seat after t e lot = subst (λ u. RowStruck u s row seat after) e lot

-- a row that stands at a place of a seat's list has one there
pub stands_below : {B : Type 0} (form : Form B) (blank : B) (s : Spool B) (seat place row : ℕ) → StandsAt form blank s seat place (Some row) → place < length ((spool_of form blank s).waiting seat)
stands_below form blank s seat place row f =
    subst (λ p. p < length ((spool_of form blank s).waiting seat)) f.2
    (picks_grow (marks_at s.row_buffer.bytes.now seat) (letters_at (letter_of form blank) s.row_buffer.bytes.now) row s.rows f.0 f.1)
