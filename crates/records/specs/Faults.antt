-- The number of a bad record.
use Rattle.std.specs.Prelude.{ℕ, [], ◌∷◌, Ok, Err, Result}
use Rattle.letters.specs.Refusals.{Reason}
use Rattle.records.specs.declared.fault.Fault.{Fault}

-- a bad record: number 20, with the record's index and its first wrong byte
abbrev pub bad_record : ℕ → ℕ → Reason
bad_record index byte = record { number = 20; values = index ∷ byte ∷ [] }

-- the number and the values of a fault
abbrev pub fault_reason : Fault → Reason
fault_reason fault = bad_record fault.index fault.byte

-- an answer as its caller sees it
abbrev pub fault_as_answer : {X : Type 0} → Result X Fault → Result X Reason
fault_as_answer (Ok x) = Ok x
fault_as_answer (Err fault) = Err (fault_reason fault)
