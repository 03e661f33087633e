-- What a spool means.
use Rattle.std.specs.Prelude.{◌≡◌, ℕ, ◌+◌, ◌-◌, ◌*◌, ◌^◌, ◌<◌, ◌≤◌, Bool, true, false, cond, ◌&&◌, List, ◌++◌, length, Some, None, Option, Ok, Err, Result, ◌==◌, bit_xor, count_ones, nat_lt}
use Rattle.letters.specs.declared.letter.Letter.{Letter}
use Rattle.std.specs.List.{copy_within}
use Rattle.letters.specs.Forms.{Form}
use Rattle.letters.specs.Numbers.{bytes_of_16}
use Rattle.carriers.specs.Meaning.{Meaning, waits_at}
use Rattle.spool.specs.declared.Spool.{Spool}
use Rattle.spool.specs.Decoding.{letter_of}
use Rattle.spool.specs.Masks.{all_but}
use Rattle.records.specs.Buffers.{overlaid}
use Rattle.records.specs.declared.record.TheConstants.{RECORD_SIZE}
use Rattle.records.specs.Records.{record_of}
use Rattle.spool.specs.declared.row_buffer.TheConstants.{ROW_SIZE}
use Rattle.spool.specs.Rows.{letters_at, mask_of, marks_at, picks, record_part, row_at, row_fits}

-- a seat's list is the rows with its bit, in row order; a letter fits where one more whole row has place
abbrev pub spool_meaning : {L : Type 0} → (List ℕ → L) → ℕ → ℕ → List ℕ → Meaning L
spool_meaning letter seats rows bytes = record {
  seats = seats;
  waiting = λ k. picks (marks_at bytes k) (letters_at letter bytes) rows;
  fits = λ p. nat_lt p seats && row_fits rows (length bytes);
}

abbrev pub spool_of : {B : Type 0} → Form B → B → Spool B → Meaning (Letter B)
spool_of form blank s = spool_meaning (letter_of form blank) s.seats s.rows s.row_buffer.bytes.now

-- the place of a row in a seat's list: how many rows before it have the seat's bit
abbrev pub place_of : {B : Type 0} → Form B → B → Spool B → ℕ → ℕ → ℕ
place_of form blank s seat row = length (picks (marks_at s.row_buffer.bytes.now seat) (letters_at (letter_of form blank) s.row_buffer.bytes.now) row)

-- the row that stands at a place of a seat's list; none where the place is past those that wait
abbrev pub StandsAt : {B : Type 0} → Form B → B → Spool B → ℕ → ℕ → Option ℕ → Type 0
StandsAt form blank s seat place (Some row) = (row < s.rows) × (marks_at s.row_buffer.bytes.now seat row ≡ true) × (place_of form blank s seat row ≡ place) × (place < 2 ^ 32 - 1)
StandsAt form blank s seat place None = waits_at (spool_of form blank s) seat ≤ place

-- how many rows there are after a put: one more, unless the full mask less the poster's bit has no ones
abbrev pub rows_after : ℕ → ℕ → ℕ → ℕ
rows_after seats poster rows = cond (count_ones (all_but seats poster) == 0) rows (rows + 1)

-- the whole buffer after a put: behind the rows that were there, and nowhere else, the letter's record is written with the full
-- mask less the poster's bit
abbrev pub bytes_after : {B : Type 0} → Form B → Spool B → Letter B → List ℕ
bytes_after form s m =
    cond (count_ones (all_but s.seats m.poster) == 0)
    s.row_buffer.bytes.now
    (overlaid s.row_buffer.bytes.now (s.rows * ROW_SIZE) (record_of form m ++ bytes_of_16 (all_but s.seats m.poster)))

-- what an accepted put does to the rows: those that were there stay, and a new one is the letter's record with the full mask
-- less the poster's bit
abbrev pub AddsRow : {B E : Type 0} → Form B → Result (Unit {0}) E → Spool B → Letter B → Spool B → Type 0
AddsRow form (Ok _) s m after =
    (after.rows ≡ rows_after s.seats m.poster s.rows)
    × ((r : ℕ) → r < s.rows → row_at after.row_buffer.bytes.now r ≡ row_at s.row_buffer.bytes.now r)
    × ((r : ℕ) → s.rows ≤ r → r < after.rows
    → (record_part (row_at after.row_buffer.bytes.now r) ≡ record_of form m) × (mask_of (row_at after.row_buffer.bytes.now r) ≡ all_but s.seats m.poster))
    × (after.row_buffer.bytes.now ≡ bytes_after form s m)
AddsRow form (Err _) s m after = Unit {0}

-- what becomes of a row when a seat's bit is taken out: where no bit is left it is removed and later rows close up, else its
-- mask lacks the bit and the other rows stay; in the whole buffer, the bytes of the later rows move down, or the mask's are
-- written, and no other byte is
abbrev pub RowStruck : {B : Type 0} → Bool → Spool B → ℕ → ℕ → Spool B → Type 0
RowStruck true s row seat after =
    (after.rows + 1 ≡ s.rows)
    × ((r : ℕ) → r < row → row_at after.row_buffer.bytes.now r ≡ row_at s.row_buffer.bytes.now r)
    × ((r : ℕ) → row ≤ r → r + 1 < s.rows → row_at after.row_buffer.bytes.now r ≡ row_at s.row_buffer.bytes.now (r + 1))
    × (after.row_buffer.bytes.now ≡ copy_within s.row_buffer.bytes.now ((row + 1) * ROW_SIZE) (s.rows * ROW_SIZE) (row * ROW_SIZE))
RowStruck false s row seat after =
    (after.rows ≡ s.rows)
    × ((r : ℕ) → ¬ (r ≡ row) → row_at after.row_buffer.bytes.now r ≡ row_at s.row_buffer.bytes.now r)
    × (record_part (row_at after.row_buffer.bytes.now row) ≡ record_part (row_at s.row_buffer.bytes.now row))
    × (mask_of (row_at after.row_buffer.bytes.now row) ≡ bit_xor (mask_of (row_at s.row_buffer.bytes.now row)) (2 ^ seat))
    × (after.row_buffer.bytes.now ≡ overlaid s.row_buffer.bytes.now (row * ROW_SIZE + RECORD_SIZE) (bytes_of_16 (bit_xor (mask_of (row_at s.row_buffer.bytes.now row)) (2 ^ seat))))

-- the ones that are left in its mask decide it
abbrev pub StrikesRow : {B : Type 0} → Spool B → ℕ → ℕ → Spool B → Type 0
StrikesRow s row seat after = RowStruck (count_ones (bit_xor (mask_of (row_at s.row_buffer.bytes.now row)) (2 ^ seat)) == 0) s row seat after

-- an accepted draw takes the seat's bit out of the row at the place
abbrev pub DrawsRow : {B E : Type 0} → Form B → B → Result (Unit {0}) E → Spool B → ℕ → ℕ → Spool B → Type 0
DrawsRow form blank (Ok _) s seat place after = (row : ℕ) × StandsAt form blank s seat place (Some row) × StrikesRow s row seat after
DrawsRow form blank (Err _) s seat place after = Unit {0}
