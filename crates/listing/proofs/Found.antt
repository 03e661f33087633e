-- What a reader answered determines what it found.
use Rattle.std.proofs.lemmas.Bool.{eqb-true}
use Rattle.std.proofs.Common.{◌≡◌, ℕ, List, [], ◌∷◌, length, cond, Bool, true, false, arith, Some, None, Ok, Err, Option, Result, ◌==◌, slice_index, refl, sym, ap, ◌∙◌, ◌+◌, ◌*◌, ◌<◌, drop, drop-drop}
use Rattle.std.proofs.lemmas.List.{length-drop}
use Rattle.letters.specs.declared.letter.Letter.{Letter}
use Rattle.letters.specs.declared.parts.Parts.{Parts}
use Rattle.letters.specs.Forms.{Form}
use Rattle.letters.specs.Letters.{parts_of}
use Rattle.letters.specs.Refusals.{Reason}
use Rattle.records.specs.declared.fault.Fault.{Fault}
use Rattle.records.specs.Faults.{fault_as_answer}
use Rattle.records.specs.declared.reader.Reader.{Reader}
use Rattle.records.specs.declared.record.TheConstants.{RECORD_SIZE}
use Rattle.records.specs.Readers.{Finding, NextRead, bytes_ahead, at_end, right, wrong, finding_of, looked_at, next_answer, next_index}
use Rattle.records.specs.Reading.{Begins}
use Rattle.records.specs.Records.{wrong_front}

-- what was found, by an answer
abbrev pub told_found : Result (Option ℕ) Reason → Finding
told_found (Ok (Some index)) = right
told_found (Ok None) = at_end
told_found (Err why) = wrong (slice_index why.values 1)

told_back : (index : ℕ) (f : Finding) → told_found (next_answer index f) ≡ f
told_back index at_end = refl
told_back index right = refl
told_back index (wrong byte) = refl

pub found_told : (index : ℕ) (f : Finding) (r told : Result (Option ℕ) Fault) → fault_as_answer r ≡ next_answer index f → r ≡ told → f ≡ told_found (fault_as_answer told)
found_told index f r told e same = sym (ap (λ x. told_found (fault_as_answer x)) (sym same) ∙ ap told_found e ∙ told_back index f)

-- the index in a fault is the reader's
abbrev pub told_index : Result (Option ℕ) Reason → ℕ
told_index (Ok read) = 0
told_index (Err why) = slice_index why.values 0

pub fault_at : (index : ℕ) (f : Finding) (fault : Fault) → fault_as_answer (Err fault) ≡ next_answer index f → fault.index ≡ index
fault_at index at_end fault e = absurd cc
fault_at index right fault e = absurd cc
fault_at index (wrong byte) fault e = ap told_index e

-- a record that was read was accepted
pub accepted : (index : ℕ) (r : Result (Option ℕ) Fault) → fault_as_answer r ≡ Ok (Some index) → r ≡ Ok (Some index)
accepted index (Ok read) e = cc
accepted index (Err fault) e = absurd cc

module _ {B : Type 0} (form : Form B) where
  not_end : (byte : Option ℕ) → ¬ (looked_at byte ≡ at_end)
  not_end None e = absurd cc
  not_end (Some byte) e = absurd cc

  tested : (test : Bool) (byte : Option ℕ) → cond test at_end (looked_at byte) ≡ at_end → test ≡ true
  tested true byte e = refl
  tested false byte e = absurd (not_end byte e)

  empty : (bs : List ℕ) → length bs ≡ 0 → bs ≡ []
  empty [] e = refl
  empty (b ∷ bs) e = absurd (omega arith)

  -- at the end nothing is left
  pub none_found : (bs : List ℕ) → finding_of form bs ≡ at_end → bs ≡ []
  none_found bs e = empty bs (eqb-true (length bs) 0 (tested (length bs == 0) (wrong_front form bs) e))

  -- a record that was found right was read: it is a letter's, and the reader stands behind it
  pub record OneRead (before after : Reader B) : Type 0 where
    pub letter : Letter B
    pub begins : Begins form (bytes_ahead before) (parts_of letter)
    pub moved : after.index ≡ before.index + 1
    pub later : bytes_ahead after ≡ drop RECORD_SIZE (bytes_ahead before)

  pub one_read : (before after : Reader B) (old new : Parts B) (r : Result (Option ℕ) Fault) → NextRead form before after old new r → finding_of form (bytes_ahead before) ≡ right
      → OneRead before after
  one_read before after old new r next is =
      let i = before.index in
      let bytes = before.bytes.now in
      let one = next.undoes.only (accepted i r (next.answer ∙ ap (next_answer i) is)) in
      let moved : after.index ≡ i + 1 = next.moved ∙ ap (next_index i) is in
      let lent : after.bytes.now ≡ bytes = ap (λ b. b.now) next.lent in
      let sum : RECORD_SIZE * (i + 1) ≡ RECORD_SIZE * i + RECORD_SIZE = omega arith in
      record {
        letter = one.0;
        begins = one.2;
        moved = moved;
        later = ap (λ j. drop (RECORD_SIZE * j) after.bytes.now) moved ∙ ap (drop (RECORD_SIZE * (i + 1))) lent
            ∙ ap (λ j. drop j bytes) sum ∙ sym (drop-drop RECORD_SIZE (RECORD_SIZE * i) bytes);
      }

  -- so fewer bytes are left
  pub fewer_left : (before after : Reader B) → OneRead before after → length (bytes_ahead after) < length (bytes_ahead before)
  fewer_left before after one =
      let long = length-drop RECORD_SIZE (bytes_ahead before) in
      let whole = one.begins.0 in
      let e = ap length one.later in
      omega arith
