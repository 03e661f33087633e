-- What reading a record answers and leaves, and that it undoes writing.
use Rattle.std.specs.Prelude.{◌≡◌, ℕ, ◌≤◌, List, length, take, Some, None, Ok, Err, Option, Result}
use Rattle.letters.specs.declared.letter.Letter.{Letter}
use Rattle.letters.specs.Forms.{Form}
use Rattle.letters.specs.declared.parts.Parts.{Parts}
use Rattle.letters.specs.Letters.{parts_of}
use Rattle.letters.specs.Refusals.{Reason}
use Rattle.records.specs.declared.fault.Fault.{Fault}
use Rattle.records.specs.Faults.{bad_record, fault_as_answer}
use Rattle.records.specs.Naming.{NamedByte}
use Rattle.records.specs.declared.record.TheConstants.{RECORD_SIZE}
use Rattle.records.specs.Records.{parts_record, parts_written, wrong_front}

-- A record in which nothing is wrong is read; else its first wrong byte is answered. It is the record at the front.
abbrev pub read_answer : Option ℕ → Result (Unit {0}) Reason
read_answer None = Ok tt
read_answer (Some byte) = Err (bad_record 0 byte)

module _ {B : Type 0} (form : Form B) where
  -- what a read of the record at the front of some bytes leaves in the parts that were lent
  abbrev pub parts_left : List ℕ → Option ℕ → Parts B → Parts B
  parts_left bs None old = parts_written form (take RECORD_SIZE bs)
  parts_left bs (Some place) old = old

  -- the same for a whole record: parts of which it is the record, or the parts that were there
  abbrev pub PartsAfter : List ℕ → Parts B → Parts B → Option ℕ → Type 0
  PartsAfter bs old new None = parts_record form new ≡ bs
  PartsAfter bs old new (Some place) = new ≡ old

  -- some bytes begin with the record of these parts
  abbrev pub Begins : List ℕ → Parts B → Type 0
  Begins bs p = (RECORD_SIZE ≤ length bs) × (take RECORD_SIZE bs ≡ parts_record form p)

  -- Reading undoes writing. Where the bytes begin with a letter's record, it is accepted and that letter's parts are read;
  -- and where it is accepted, the bytes begin with the record of the letter whose parts are read.
  pub record Undoes (bs : List ℕ) (accepted : Type 0) (read : Parts B) : Type 0 where
    pub known : (m : Letter B) → Begins bs (parts_of m) → accepted × (read ≡ parts_of m)
    pub only : accepted → (m : Letter B) × (read ≡ parts_of m) × Begins bs (parts_of m)

  -- what reading the record at the front of some bytes does: its answer, the parts that it leaves, that it undoes writing, and
  -- what it means that a byte is named
  pub record RecordRead (bs : List ℕ) (old new : Parts B) (r : Result (Unit {0}) Fault) : Type 0 where
    pub answer : fault_as_answer r ≡ read_answer (wrong_front form bs)
    pub filled : new ≡ parts_left bs (wrong_front form bs) old
    pub undoes : Undoes bs (r ≡ Ok tt) new
    pub named : (fault : Fault) → r ≡ Err fault → NamedByte form bs fault.byte
