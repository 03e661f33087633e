-- Whole files of letters.
use Rattle.std.specs.Prelude.{◌≡◌, ℕ, zero, suc, ◌+◌, ◌-◌, ◌*◌, ◌/◌, ◌≤◌, cond, List, ◌++◌, length, take, drop, Some, None, Ok, Err, Option, Result, nat_le}
use Rattle.std.specs.List.{flat_map}
use Rattle.letters.specs.declared.letter.Letter.{Letter}
use Rattle.letters.specs.Forms.{Form}
use Rattle.letters.specs.Refusals.{Reason, plain, unless}
use Rattle.records.specs.declared.fault.Fault.{Fault}
use Rattle.records.specs.declared.load_refusal.LoadRefusal.{LoadRefusal}
use Rattle.records.specs.declared.load_refusal.LoadRefusal.TheVariants.{Bad, TooShort}
use Rattle.records.specs.Faults.{fault_reason}
use Rattle.records.specs.Readers.{rest_of_file}
use Rattle.records.specs.declared.record.TheConstants.{RECORD_SIZE}
use Rattle.records.specs.Records.{record_of, wrong_front}

-- the number and the values of each reason not to load a file
abbrev pub load_reason : LoadRefusal → Reason
load_reason (Bad fault) = fault_reason fault
load_reason TooShort = plain 5

abbrev pub load_as_answer : {X : Type 0} → Result X LoadRefusal → Result X Reason
load_as_answer (Ok x) = Ok x
load_as_answer (Err why) = Err (load_reason why)

-- how many records a file begins, the last of which may be cut short
abbrev pub begun_records : List ℕ → ℕ
begun_records bs = (length bs + (RECORD_SIZE - 1)) / RECORD_SIZE

-- the fault of a record, or else what comes after it
abbrev pub fault_or : ℕ → Option ℕ → Option Fault → Option Fault
fault_or index None later = later
fault_or index (Some byte) later = Some (record { index = index; byte = byte })

-- a file in which there is no fault has so many letters: a table with fewer places is too short
abbrev pub load_check : Option Fault → ℕ → ℕ → Result ℕ Reason
load_check None count places = unless (nat_le count places) 5 (Ok count)
load_check (Some fault) count places = Err (fault_reason fault)

-- what saving so many letters answers: how many bytes they take
abbrev pub save_answer : ℕ → ℕ → Result ℕ Reason
save_answer count places = unless (nat_le (RECORD_SIZE * count) places) 5 (Ok (RECORD_SIZE * count))

module _ {B : Type 0} (form : Form B) where
  -- a file of letters is their records, one after another
  abbrev pub file_of : List (Letter B) → List ℕ
  file_of ms = flat_map (record_of form) ms

  -- the first fault among some records from an index on
  abbrev pub fault_among : List ℕ → ℕ → ℕ → Option Fault
  fault_among bs index zero = None
  fault_among bs index (suc n) = fault_or index (wrong_front form (rest_of_file bs index)) (fault_among bs (index + 1) n)

  -- the first fault of a file
  abbrev pub file_fault : List ℕ → Option Fault
  file_fault bs = fault_among bs 0 (begun_records bs)

  -- what loading a file answers: its first fault, a table too short, or how many letters there are
  abbrev pub load_answer : List ℕ → ℕ → Result ℕ Reason
  load_answer bs places = load_check (file_fault bs) (length bs / RECORD_SIZE) places

  -- what it leaves in the table: the letters of which the bytes are the file, and the others as they were
  abbrev pub Loaded : List ℕ → List (Letter B) → List (Letter B) → Result ℕ Reason → Type 0
  Loaded bs old new (Ok count) = (file_of (take count new) ≡ bs) × (drop count new ≡ drop count old)
  Loaded bs old new (Err why) = new ≡ old

  -- loading undoes saving
  abbrev pub LoadUndoes : List ℕ → List (Letter B) → List (Letter B) → Result ℕ Reason → Type 0
  LoadUndoes bs old new answer =
      (ms : List (Letter B)) → bs ≡ file_of ms → length ms ≤ length old → (answer ≡ Ok (length ms)) × (new ≡ ms ++ drop (length ms) old)

  -- what loading a file does: its answer, the table that it leaves, and that it undoes saving
  pub record FileLoaded (bs : List ℕ) (old new : List (Letter B)) (r : Result ℕ LoadRefusal) : Type 0 where
    pub answer : load_as_answer r ≡ load_answer bs (length old)
    pub table : Loaded bs old new (load_as_answer r)
    pub undoes : LoadUndoes bs old new (load_as_answer r)

  -- what saving leaves in the buffer: the file at its front
  abbrev pub buffer_with_file : List (Letter B) → List ℕ → List ℕ
  buffer_with_file ms old = cond (nat_le (RECORD_SIZE * length ms) (length old)) (file_of ms ++ drop (RECORD_SIZE * length ms) old) old
