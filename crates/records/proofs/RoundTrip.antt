-- A letter's record is right, and writes that letter's parts and no others.
use Rattle.std.proofs.Common.{◌≡◌, ℕ, ◌+◌, ◌-◌, ◌*◌, ◌<◌, ◌≤◌, true, false, leb, List, length, get_or, take, Some, None, Ok, Err, Option, Result, sym, refl, ap, ◌∙◌, subst, arith}
use Rattle.std.proofs.lemmas.List.{length-take-le}
use Rattle.std.proofs.lemmas.Bool.{le-leb, lt-leb, leb-true}
use Rattle.records.specs.declared.record.TheConstants.{BODY_PLACE, RECORD_SIZE}
use Rattle.records.specs.declared.stamps.TheConstants.{STAMP_SIZE}
use Rattle.letters.specs.declared.letter.Letter.{Letter}
use Rattle.letters.specs.Checks.{first_failing}
use Rattle.letters.specs.declared.body.TheConstants.{BODY_SPACE}
use Rattle.letters.specs.Forms.{Form, LawfulForm}
use Rattle.letters.specs.declared.parts.Parts.{Parts}
use Rattle.letters.specs.Letters.{parts, parts_of, letter_check}
use Rattle.letters.specs.Numbers.{number_16}
use Rattle.letters.specs.ChecksLemmas.{passed, some_none}
use Rattle.letters.proofs.Passing.{letter_passes}
use Rattle.records.specs.Records.{body_part, first_of, is_zero, kind_byte, length_byte, padding, parts_record, parts_written, poster_byte, record_of, stamp_bytes, stamp_of, wrong_byte, wrong_front, wrong_header}
use Rattle.records.specs.declared.fault.Fault.{Fault}
use Rattle.records.specs.Faults.{fault_as_answer}
use Rattle.records.specs.Reading.{Begins, PartsAfter, Undoes, parts_left, read_answer}
use Rattle.records.proofs.Entries.{paired_written, number_front}
use Rattle.records.proofs.Headers.{RightHeader, header_right, right_header}
use Rattle.records.proofs.Parts.{blank_is, body_is, kind_is, length_is, padding_is, parts-length, poster_is, record_back, stamp_is, zeros_right}

pub first_none : (start : ℕ) (a later : Option ℕ) → first_of start a later ≡ None → (a ≡ None) × (later ≡ None)
first_none start None later e = (refl, e)
first_none start (Some place) later e = some_none (start + place) e

accepted : (f : Option ℕ) → read_answer f ≡ Ok tt → f ≡ None
accepted None e = refl
accepted (Some place) e = let z : ◌≡◌ {A = ℕ} 0 1 = cc in absurd (omega arith)

read_ok : (r : Result (Unit {0}) Fault) → fault_as_answer r ≡ Ok tt → r ≡ Ok tt
read_ok (Ok done) e = refl
read_ok (Err fault) e = let z : ◌≡◌ {A = ℕ} 0 1 = cc in absurd (omega arith)

module _ {B : Type 0} (form : Form B) (laws : LawfulForm form) where
  -- a letter's record is as long as all are
  pub record_long : (m : Letter B) → length (record_of form m) ≡ RECORD_SIZE
  record_long m = omega (arith, parts-length form (parts_of m) laws, m.sized)

  -- no byte of a letter's record is wrong
  pub record_right : (m : Letter B) → wrong_byte form (record_of form m) ≡ None
  record_right m =
      let p : Parts B = parts_of m in
      let bs : List ℕ = record_of form m in
      let kind : kind_byte bs ≡ form.kind m.body = kind_is form p m.sized in
      let size : length_byte bs ≡ length (form.bytes m.body) = length_is form p m.sized in
      let poster : poster_byte bs ≡ m.poster = poster_is form p m.sized in
      let long = record_long m in
      let number : number_16 (2 * m.poster) bs ≡ get_or m.stamp.entries m.poster 0 =
      number_front m.stamp.entries bs m.poster (sym (stamp_is form p m.sized)) (omega arith) m.seated in
      let at_poster : number_16 (2 * poster_byte bs) bs ≡ get_or m.stamp.entries m.poster 0 =
      ap (λ s. number_16 (2 * s) bs) poster ∙ number in
      let header : RightHeader form bs = record {
        seated = omega (arith, m.seated);
        counted = omega (arith, m.counted);
        kind = ap form.has_kind kind ∙ laws.kind_right m.body;
        sized = ap (λ k. form.has_length k (length_byte bs)) kind ∙ ap (form.has_length (form.kind m.body)) size ∙ laws.length_right m.body;
        blank = blank_is form p m.sized;
      } in
      let head : wrong_header form bs ≡ None = header_right form bs header in
      let inner : form.wrong (kind_byte bs) (body_part bs) ≡ None =
      ap (λ k. form.wrong k (body_part bs)) kind ∙ ap (form.wrong (form.kind m.body)) (body_is form p m.sized) ∙ laws.right m.body in
      let pad : first_failing is_zero (BODY_PLACE + length_byte bs) (padding bs) ≡ None =
      ap (first_failing is_zero (BODY_PLACE + length_byte bs)) (padding_is form p m.sized)
      ∙ zeros_right (BODY_PLACE + length_byte bs) (BODY_SPACE - length (form.bytes m.body)) in
      rw (head, inner, pad)

  -- bytes in which nothing is wrong are the record of the parts that are read from them
  pub read_back : (p : Parts B) (bs : List ℕ) → length bs ≡ RECORD_SIZE → wrong_byte form bs ≡ None
      → stamp_bytes p.stamp ≡ take STAMP_SIZE bs → p.poster ≡ poster_byte bs → form.kind p.body ≡ kind_byte bs
      → form.bytes p.body ≡ body_part bs → parts_record form p ≡ bs
  read_back p bs size right stamp poster kind body =
      let head = first_none 0 (wrong_header form bs) _ right in
      let inner = first_none BODY_PLACE (form.wrong (kind_byte bs) (body_part bs)) _ head.1 in
      let header : RightHeader form bs = right_header form bs head.0 in
      let short : length_byte bs ≤ BODY_SPACE = laws.short (kind_byte bs) (length_byte bs) header.sized in
      record_back form p bs size header short stamp poster kind body inner.1

  -- the parts that a record writes are those of which it is the record
  pub written_back : (p : Parts B) → length p.stamp.entries ≡ 16 → parts_written form (parts_record form p) ≡ p
  written_back p sixteen =
      let bs : List ℕ = parts_record form p in
      let stamp : stamp_of (take STAMP_SIZE bs) ≡ p.stamp =
      ap stamp_of (stamp_is form p sixteen) ∙ ap (λ l. record { entries = l }) (paired_written p.stamp.entries) in
      let poster = poster_is form p sixteen in
      let body : form.body (kind_byte bs) (body_part bs) ≡ p.body =
      ap (λ k. form.body k (body_part bs)) (kind_is form p sixteen) ∙ ap (form.body (form.kind p.body)) (body_is form p sixteen)
      ∙ laws.back p.body in
      λ i. parts (stamp i) (poster i) (body i)

  -- parts whose record is right are a letter's
  pub made_letter : (p : Parts B) (bs : List ℕ) → length bs ≡ RECORD_SIZE → wrong_byte form bs ≡ None → parts_record form p ≡ bs
      → (m : Letter B) × (p ≡ parts_of m)
  made_letter p bs size right e =
      let sixteen : length p.stamp.entries ≡ 16 = omega (arith, sym (parts-length form p laws) ∙ ap length e) in
      let header : RightHeader form bs = right_header form bs (first_none 0 (wrong_header form bs) _ right).0 in
      let seat : poster_byte bs ≡ p.poster = sym (ap poster_byte e) ∙ poster_is form p sixteen in
      let seated : p.poster < 16 = omega (arith, header.seated) in
      let stamp : stamp_bytes p.stamp ≡ take STAMP_SIZE bs = sym (stamp_is form p sixteen) ∙ ap (take STAMP_SIZE) e in
      let number : number_16 (2 * p.poster) bs ≡ get_or p.stamp.entries p.poster 0 =
      number_front p.stamp.entries bs p.poster stamp (omega arith) seated in
      let counted : 0 < number_16 (2 * p.poster) bs = subst (λ s. 0 < number_16 (2 * s) bs) seat header.counted in
      (record { stamp = p.stamp; poster = p.poster; body = p.body; sized = sixteen; seated = seated; counted = omega arith }, refl)

  -- and can be made one
  pub made-check : (p : Parts B) (bs : List ℕ) → length bs ≡ RECORD_SIZE → wrong_byte form bs ≡ None → parts_record form p ≡ bs
      → letter_check p ≡ Ok tt
  made-check p bs size right e =
      let made = made_letter p bs size right e in
      ap letter_check made.1 ∙ letter_passes made.0

  -- of bytes enough for a record, the first wrong one is that of the record in front
  pub front_whole : (bs : List ℕ) → RECORD_SIZE ≤ length bs → wrong_front form bs ≡ wrong_byte form (take RECORD_SIZE bs)
  front_whole bs long = let e : leb RECORD_SIZE (length bs) ≡ true = le-leb RECORD_SIZE (length bs) long in rw e

  -- of fewer, how many there are
  pub front_short : (bs : List ℕ) → length bs < RECORD_SIZE → wrong_front form bs ≡ Some (length bs)
  front_short bs few = let e : leb RECORD_SIZE (length bs) ≡ false = lt-leb RECORD_SIZE (length bs) few in rw e

  pub front_right : (bs : List ℕ) → wrong_front form bs ≡ None → (RECORD_SIZE ≤ length bs) × (wrong_byte form (take RECORD_SIZE bs) ≡ None)
  front_right bs e =
      let both = passed (leb RECORD_SIZE (length bs)) (length bs) (wrong_byte form (take RECORD_SIZE bs)) e in
      (leb-true RECORD_SIZE (length bs) both.0, both.1)

  -- bytes that begin with a letter's record are right, and write that letter's parts
  pub begun : (bs : List ℕ) (m : Letter B) → Begins form bs (parts_of m)
      → (wrong_front form bs ≡ None) × (parts_written form (take RECORD_SIZE bs) ≡ parts_of m)
  begun bs m begins =
      let right = front_whole bs begins.0 ∙ ap (wrong_byte form) begins.1 ∙ record_right m in
      (right, ap (parts_written form) begins.1 ∙ written_back (parts_of m) m.sized)

  -- reading undoes writing where what is read has the record that was read
  undoes : (bs : List ℕ) (read : Parts B) → (wrong_front form bs ≡ None → parts_record form read ≡ take RECORD_SIZE bs)
      → Undoes form bs (wrong_front form bs ≡ None) read
  undoes bs read same =
      let whole : wrong_front form bs ≡ None → (m : Letter B) × (read ≡ parts_of m) × Begins form bs (parts_of m) = λ e.
      let right = front_right bs e in
      let made = made_letter read (take RECORD_SIZE bs) (length-take-le RECORD_SIZE bs right.0) right.1 (same e) in
      (made.0, made.1, (right.0, sym (same e) ∙ ap (parts_record form) made.1)) in
      record {
        known = λ m begins.
            let told = begun bs m begins in
            let found = whole told.0 in
            let back = sym (written_back (parts_of found.0) found.0.sized) ∙ ap (parts_written form) (sym found.2.1) ∙ told.1 in
            (told.0, found.1 ∙ back);
        only = whole;
      }

  -- two ways to write the bytes, and to say that it is accepted
  pub undoes_as : {A A' : Type 0} (bs bs' : List ℕ) (read : Parts B) → bs ≡ bs' → (A → A') → (A' → A) → Undoes form bs A read → Undoes form bs' A' read
  undoes_as bs bs' read same forth back u = record {
    known = λ m begins. let k = u.known m (subst (λ l. Begins form l (parts_of m)) (sym same) begins) in (forth k.0, k.1);
    only = λ a. let k = u.only (back a) in (k.0, k.1, subst (λ l. Begins form l (parts_of k.0)) same k.2);
  }

  left_none : (bs : List ℕ) (old new : Parts B) (f : Option ℕ) → PartsAfter form bs old new f → f ≡ None → parts_record form new ≡ bs
  left_none bs old new None left e = left
  left_none bs old new (Some place) left e = some_none place e

  left-parts : (bs : List ℕ) (old new : Parts B) (f : Option ℕ) → PartsAfter form (take RECORD_SIZE bs) old new f
      → (f ≡ None → new ≡ parts_written form (take RECORD_SIZE bs)) → new ≡ parts_left form bs f old
  left-parts bs old new None left written = written refl
  left-parts bs old new (Some place) left written = left

  module _ (bs : List ℕ) (old new : Parts B) (left : PartsAfter form (take RECORD_SIZE bs) old new (wrong_front form bs)) where
    pub left_undoes : Undoes form bs (wrong_front form bs ≡ None) new
    left_undoes = undoes bs new (left_none (take RECORD_SIZE bs) old new (wrong_front form bs) left)

    pub left_exact : new ≡ parts_left form bs (wrong_front form bs) old
    left_exact =
        left-parts bs old new (wrong_front form bs) left
        (λ e. let found = left_undoes.only e in found.1 ∙ sym (begun bs found.0 found.2).1)

    -- the same, by what a read answers
    pub read_undoes : (r : Result (Unit {0}) Fault) → fault_as_answer r ≡ read_answer (wrong_front form bs) → Undoes form bs (r ≡ Ok tt) new
    read_undoes r is =
        undoes_as bs bs new refl (λ e. read_ok r (is ∙ ap read_answer e)) (λ e. accepted (wrong_front form bs) (sym is ∙ ap fault_as_answer e)) left_undoes
