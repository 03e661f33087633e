-- A file of records, read one after another.
use Rattle.std.specs.Prelude.{◌≡◌, ℕ, ◌+◌, ◌*◌, cond, List, length, take, drop, Some, None, Ok, Err, Option, Result, ◌==◌}
use Rattle.letters.specs.Forms.{Form}
use Rattle.letters.specs.declared.parts.Parts.{Parts}
use Rattle.letters.specs.Refusals.{Reason}
use Rattle.records.specs.declared.fault.Fault.{Fault}
use Rattle.records.specs.declared.reader.Reader.{Reader}
use Rattle.records.specs.Faults.{bad_record, fault_as_answer}
use Rattle.records.specs.Naming.{NamedByte}
use Rattle.records.specs.Reading.{Undoes}
use Rattle.records.specs.declared.record.TheConstants.{RECORD_SIZE}
use Rattle.records.specs.Records.{parts_written, wrong_front}

-- what is left of a file after some records
abbrev pub rest_of_file : List ℕ → ℕ → List ℕ
rest_of_file bs index = drop (RECORD_SIZE * index) bs

-- what lies before a reader
abbrev pub bytes_ahead : {B : Type 0} → Reader B → List ℕ
bytes_ahead reader = rest_of_file reader.bytes.now reader.index

-- what a reader finds next
pub data Finding : Type 0 where
  -- nothing is left
  at_end : Finding
  -- a record in which nothing is wrong
  right : Finding
  -- a record with this first wrong byte
  wrong : ℕ → Finding

abbrev pub looked_at : Option ℕ → Finding
looked_at None = right
looked_at (Some byte) = wrong byte

abbrev pub finding_of : {B : Type 0} → Form B → List ℕ → Finding
finding_of form bs = cond (length bs == 0) at_end (looked_at (wrong_front form bs))

-- the answer: none at the end, the index of the record that was read, or the fault
abbrev pub next_answer : ℕ → Finding → Result (Option ℕ) Reason
next_answer index at_end = Ok None
next_answer index right = Ok (Some index)
next_answer index (wrong byte) = Err (bad_record index byte)

-- where the reader stands then: only a record that was read moves it
abbrev pub next_index : ℕ → Finding → ℕ
next_index index at_end = index
next_index index right = index + 1
next_index index (wrong byte) = index

-- what is left in the parts that were lent: only a record that was read fills them
abbrev pub next_parts : {B : Type 0} → Form B → List ℕ → Parts B → Finding → Parts B
next_parts form bs old at_end = old
next_parts form bs old right = parts_written form (take RECORD_SIZE bs)
next_parts form bs old (wrong byte) = old

-- what one read of a reader does: its answer, where it stands then, that it keeps its bytes, the parts that it leaves, that it
-- undoes writing, and what it means that a byte is named
pub record NextRead {B : Type 0} (form : Form B) (before after : Reader B) (old new : Parts B) (r : Result (Option ℕ) Fault) : Type 0 where
  pub answer : fault_as_answer r ≡ next_answer before.index (finding_of form (bytes_ahead before))
  pub moved : after.index ≡ next_index before.index (finding_of form (bytes_ahead before))
  pub lent : after.bytes ≡ before.bytes
  pub filled : new ≡ next_parts form (bytes_ahead before) old (finding_of form (bytes_ahead before))
  pub undoes : Undoes form (bytes_ahead before) (r ≡ Ok (Some before.index)) new
  pub named : (fault : Fault) → r ≡ Err fault → NamedByte form (bytes_ahead before) fault.byte
