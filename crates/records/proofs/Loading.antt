-- Loading a whole file.
use Rattle.std.proofs.Common.{◌≡◌, ℕ, ◌+◌, ◌*◌, ◌/◌, ◌<◌, ◌≤◌, true, leb, List, ◌++◌, length, take, drop, None, Ok, Result, sym, ap, ◌∙◌, subst, ⊎_elim, arith}
use Rattle.std.proofs.lemmas.List.{take-append-drop, length-drop}
use Rattle.std.proofs.lemmas.Bool.{cases_lt, le-leb}
use Rattle.letters.specs.declared.letter.Letter.{Letter}
use Rattle.letters.specs.Forms.{Form, LawfulForm}
use Rattle.letters.specs.Refusals.{Reason}
use Rattle.records.specs.Files.{LoadUndoes, Loaded, begun_records, file_fault, file_of, load_answer, load_check}
use Rattle.records.specs.Readers.{rest_of_file}
use Rattle.records.specs.declared.record.TheConstants.{RECORD_SIZE}
use Rattle.records.specs.Records.{wrong_byte, wrong_front}
use Rattle.records.proofs.Faults.{each_right}
use Rattle.records.proofs.Filing.{file_one, file_right, length_file}
use Rattle.records.proofs.RoundTrip.{front_right}

module _ {B : Type 0} (form : Form B) (laws : LawfulForm form) where
  module _ (bs : List ℕ) (right : file_fault form bs ≡ None) where
    -- each record that is begun is whole and right
    pub record_at : (i : ℕ) → i < begun_records bs → (RECORD_SIZE ≤ length (rest_of_file bs i)) × (wrong_byte form (take RECORD_SIZE (rest_of_file bs i)) ≡ None)
    record_at i h =
        let at : 0 + i ≡ i = omega arith in
        front_right form laws (rest_of_file bs i)
        (sym (ap (λ k. wrong_front form (rest_of_file bs k)) at) ∙ each_right form bs (begun_records bs) 0 right i h)

    -- so a file without fault is a whole number of records
    pub whole_file : RECORD_SIZE * (length bs / RECORD_SIZE) ≡ length bs
    whole_file =
        ⊎_elim (λ more. omega (arith, (record_at (length bs / RECORD_SIZE) more).0, length-drop (RECORD_SIZE * (length bs / RECORD_SIZE)) bs)) (λ none. omega arith)
        (cases_lt (length bs / RECORD_SIZE) (begun_records bs))

  -- what is loaded is the list of letters of which the bytes are the file
  pub load_undoes : (bs : List ℕ) (old new : List (Letter B)) (answer : Result ℕ Reason) → answer ≡ load_answer form bs (length old)
      → Loaded form bs old new answer → LoadUndoes form bs old new answer
  load_undoes bs old new answer is loaded ms file fits =
      let n : ℕ = length ms in
      let right : file_fault form bs ≡ None = ap (file_fault form) file ∙ file_right form laws ms in
      let count : length bs / RECORD_SIZE ≡ n = omega (arith, ap length file, length_file form laws ms) in
      let room : leb n (length old) ≡ true = le-leb n (length old) fits in
      let ok : answer ≡ Ok n =
      is ∙ ap (λ f. load_check f (length bs / RECORD_SIZE) (length old)) right ∙ ap (λ k. load_check None k (length old)) count ∙ rw room in
      let front = subst (Loaded form bs old new) ok loaded in
      let same : file_of form (take n new) ≡ file_of form ms = front.0 ∙ file in
      let long : length (take n new) ≡ n = omega (arith, ap length same, length_file form laws (take n new), length_file form laws ms) in
      let letters : take n new ≡ ms = file_one form laws (take n new) ms long same in
      (ok, sym (take-append-drop n new) ∙ ap (λ l. l ++ drop n new) letters ∙ ap (λ l. ms ++ l) front.1)
