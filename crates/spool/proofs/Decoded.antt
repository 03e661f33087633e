-- The letter that bytes stand for: that of which they are the record.
use Rattle.std.proofs.Common.{◌≡◌, ℕ, Bool, true, false, List, length, take, Some, None, Err, Option, sym, refl, ap, ◌∙◌, arith}
use Rattle.std.proofs.lemmas.List.{take_all}
use Rattle.std.proofs.lemmas.Bool.{and_from, both_ways, eq-eqb}
use Rattle.letters.specs.declared.letter.Letter.{Letter}
use Rattle.letters.specs.Forms.{Form, LawfulForm}
use Rattle.letters.specs.declared.parts.Parts.{Parts}
use Rattle.letters.specs.Letters.{blank_letter, parts_of}
use Rattle.letters.specs.ChecksLemmas.{some_none}
use Rattle.letters.specs.SameLemmas.{equal_letters}
use Rattle.letters.proofs.Passing.{letter_is}
use Rattle.records.specs.declared.fault.Fault.{Fault}
use Rattle.records.specs.Faults.{fault_reason}
use Rattle.records.specs.Reading.{Undoes, read_answer}
use Rattle.records.specs.declared.record.TheConstants.{RECORD_SIZE}
use Rattle.records.specs.Records.{record_of, wrong_byte, wrong_front}
use Rattle.records.proofs.Finding.{answered_wrong}
use Rattle.records.proofs.RoundTrip.{front_whole, record_right, written_back}
use Rattle.spool.specs.Decoding.{letter_of, letter_or, are_letter_parts, letter_read}

module _ {B : Type 0} (blank : B) where
  -- a letter's parts are one's
  can_be : (m : Letter B) → are_letter_parts (parts_of m) ≡ true
  can_be m = and_from _ _ (eq-eqb _ _ m.sized) (letter_is m)

  or_is : (m : Letter B) (p : Parts B) (can : Bool) (e : are_letter_parts p ≡ can) → p ≡ parts_of m → letter_or blank p can e ≡ m
  unfolding letter_or
  or_is m p true e same = equal_letters _ m (ap (λ q. q.stamp) same) (ap (λ q. q.poster) same) (ap (λ q. q.body) same)
  or_is m p false e same = absurd (both_ways (are_letter_parts p) e (ap are_letter_parts same ∙ can_be m))

  read_is : (m : Letter B) (p : Parts B) (f : Option ℕ) → f ≡ None → p ≡ parts_of m → letter_read blank p f ≡ m
  unfolding letter_read
  read_is m p None e same = or_is m p (are_letter_parts p) refl same
  read_is m p (Some place) e same = some_none place e

  read_bad : (p : Parts B) (f : Option ℕ) (place : ℕ) → f ≡ Some place → letter_read blank p f ≡ blank_letter blank
  unfolding letter_read
  read_bad p None place e = some_none place (sym e)
  read_bad p (Some other) place e = refl

  module _ (form : Form B) (laws : LawfulForm form) where
    -- reading undoes writing
    pub letter_back : (m : Letter B) → letter_of form blank (record_of form m) ≡ m
    letter_back m = read_is m _ _ (record_right form laws m) (written_back form laws (parts_of m) m.sized)

    module _ (bs : List ℕ) (long : length bs ≡ RECORD_SIZE) where
      whole : take RECORD_SIZE bs ≡ bs
      whole = take_all RECORD_SIZE bs (omega arith)

      -- what a read that is accepted fills
      pub letter_read_right : {A : Type 0} (filled : Parts B) → Undoes form bs A filled → A → filled ≡ parts_of (letter_of form blank bs)
      letter_read_right filled undoes yea =
          let found = undoes.only yea in
          let is : bs ≡ record_of form found.0 = sym whole ∙ found.2.1 in
          found.1 ∙ sym (ap (λ l. parts_of (letter_of form blank l)) is ∙ ap parts_of (letter_back found.0))

      -- bytes that are no record stand for the blank letter
      pub letter_read_wrong : (fault : Fault) → Err (fault_reason fault) ≡ read_answer (wrong_front form bs) → letter_of form blank bs ≡ blank_letter blank
      letter_read_wrong fault e =
          let front : wrong_front form bs ≡ wrong_byte form bs = front_whole form laws bs (omega arith) ∙ ap (wrong_byte form) whole in
          read_bad _ _ fault.byte (sym front ∙ answered_wrong fault _ e)
