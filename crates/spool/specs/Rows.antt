-- Rows: each a letter's record, and a mask of the seats that have yet to draw it.
use Rattle.std.specs.Prelude.{ℕ, zero, suc, ◌+◌, ◌*◌, Bool, cond, List, [], ◌∷◌, ◌++◌, take, Ok, Result, nat_le}
use Rattle.letters.specs.Numbers.{number_16}
use Rattle.letters.specs.Refusals.{Reason, unless}
use Rattle.carriers.specs.Places.{part_at}
use Rattle.carriers.specs.Meaning.{seats_right}
use Rattle.records.specs.declared.record.TheConstants.{RECORD_SIZE}
use Rattle.spool.specs.declared.row_buffer.TheConstants.{ROW_SIZE}
use Rattle.spool.specs.Masks.{marked}

-- what the check before a spool is made answers, for so many bytes brought
abbrev pub spool_answer : ℕ → ℕ → Result (Unit {0}) Reason
spool_answer seats brought = unless (seats_right seats) 6 (unless (nat_le ROW_SIZE brought) 5 (Ok tt))

-- whether so many bytes have place for one more whole row
abbrev pub row_fits : ℕ → ℕ → Bool
row_fits rows brought = nat_le (rows * ROW_SIZE + ROW_SIZE) brought

-- the row at an index
abbrev pub row_at : List ℕ → ℕ → List ℕ
row_at bytes r = part_at (r * ROW_SIZE) ROW_SIZE bytes

-- a row's record
abbrev pub record_part : List ℕ → List ℕ
record_part row = take RECORD_SIZE row

-- a row's mask, which stands after its record
abbrev pub mask_of : List ℕ → ℕ
mask_of row = number_16 RECORD_SIZE row

-- the items of the first n rows that pass a test, in row order
abbrev pub picks : {L : Type 0} → (ℕ → Bool) → (ℕ → L) → ℕ → List L
picks test item zero = []
picks test item (suc n) = picks test item n ++ cond (test n) (item n ∷ []) []

-- whether a seat has yet to draw the row
abbrev pub marks_at : List ℕ → ℕ → ℕ → Bool
marks_at bytes seat r = marked (mask_of (row_at bytes r)) seat

-- the letter of a row
abbrev pub letters_at : {L : Type 0} → (List ℕ → L) → List ℕ → ℕ → L
letters_at letter bytes r = letter (record_part (row_at bytes r))
