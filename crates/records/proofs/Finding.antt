-- What a reader does, by what it finds next.
use Rattle.std.proofs.Common.{◌≡◌, ℕ, ◌-◌, ◌*◌, ◌<◌, false, eqb, List, length, get_or, take, drop, Some, None, Ok, Err, Option, Result, sym, refl, ap, ◌∙◌, arith}
use Rattle.std.proofs.lemmas.List.{take_rest}
use Rattle.std.proofs.lemmas.Bool.{ne_eqb}
use Rattle.letters.specs.Forms.{Form}
use Rattle.letters.specs.declared.parts.Parts.{Parts}
use Rattle.letters.specs.Refusals.{Reason}
use Rattle.records.specs.declared.fault.Fault.{Fault}
use Rattle.records.specs.Faults.{fault_reason}
use Rattle.records.specs.Reading.{parts_left, read_answer}
use Rattle.records.specs.Readers.{right, wrong, finding_of, rest_of_file, looked_at}
use Rattle.records.specs.declared.record.TheConstants.{RECORD_SIZE}
use Rattle.records.specs.Records.{wrong_front}

-- the part of the file that the reader looks at
pub next_part : (bs : List ℕ) (index : ℕ) → take (length bs - RECORD_SIZE * index) (drop (RECORD_SIZE * index) bs) ≡ rest_of_file bs index
next_part bs index = take_rest bs (RECORD_SIZE * index)

-- the byte that an answer names
abbrev byte_of : Result (Unit {0}) Reason → ℕ
byte_of (Ok done) = 0
byte_of (Err why) = get_or why.values 1 0

-- what a read answered determines what was found
pub answered_wrong : (fault : Fault) (f : Option ℕ) → Err (fault_reason fault) ≡ read_answer f → f ≡ Some fault.byte
answered_wrong fault None e = let z : ◌≡◌ {A = ℕ} 0 1 = cc in absurd (omega arith)
answered_wrong fault (Some place) e = ap Some (sym (ap byte_of e))

answered_right : (f : Option ℕ) → Ok tt ≡ read_answer f → f ≡ None
answered_right None e = refl
answered_right (Some place) e = let z : ◌≡◌ {A = ℕ} 0 1 = cc in absurd (omega arith)

-- the byte of a fault, and that no answer is both
abbrev pub named_byte : {X : Type 0} → Result X Fault → ℕ
named_byte (Ok x) = 0
named_byte (Err fault) = fault.byte

pub ok_err : {X : Type 0} (x : X) (fault : Fault) → ¬ (Ok x ≡ Err fault)
ok_err x fault e = let z : ◌≡◌ {A = ℕ} 0 1 = cc in absurd (omega arith)

module _ {B : Type 0} (form : Form B) (bs : List ℕ) where
  some_found : 0 < length bs → finding_of form bs ≡ looked_at (wrong_front form bs)
  some_found some = let e : eqb (length bs) 0 ≡ false = ne_eqb (length bs) 0 (λ z. omega arith) in rw e

  -- the record is wrong, and the parts are left
  pub found_wrong : (fault : Fault) (old new : Parts B) → 0 < length bs → Err (fault_reason fault) ≡ read_answer (wrong_front form bs)
      → new ≡ parts_left form bs (wrong_front form bs) old → (finding_of form bs ≡ wrong fault.byte) × (new ≡ old)
  found_wrong fault old new some is filled =
      let f = answered_wrong fault (wrong_front form bs) is in
      (some_found some ∙ ap looked_at f, filled ∙ ap (λ o. parts_left form bs o old) f)

  -- the record is right, and its parts are read
  pub found_right : (old new : Parts B) → 0 < length bs → Ok tt ≡ read_answer (wrong_front form bs)
      → new ≡ parts_left form bs (wrong_front form bs) old → (finding_of form bs ≡ right) × (new ≡ parts_left form bs None old)
  found_right old new some is filled =
      let f = answered_right (wrong_front form bs) is in
      (some_found some ∙ ap looked_at f, filled ∙ ap (λ o. parts_left form bs o old) f)
