-- What stands before the body, when nothing of it is wrong.
use Rattle.std.proofs.Common.{◌≡◌, ℕ, ◌*◌, ◌<◌, true, eqb, ltb, List, None}
use Rattle.std.proofs.lemmas.Bool.{eqb-true, ltb-true, lt-ltb, eq-eqb}
use Rattle.records.specs.declared.record.TheConstants.{KIND_PLACE, LENGTH_PLACE, POSTER_PLACE, ZERO_PLACE}
use Rattle.letters.specs.Forms.{Form}
use Rattle.letters.specs.Numbers.{number_16}
use Rattle.letters.specs.ChecksLemmas.{passed}
use Rattle.records.specs.Records.{kind_byte, length_byte, poster_byte, wrong_header, zero_byte}

pub record RightHeader {B : Type 0} (form : Form B) (bs : List ℕ) : Type 0 where
  pub seated : poster_byte bs < 16
  pub counted : 0 < number_16 (2 * poster_byte bs) bs
  pub kind : form.has_kind (kind_byte bs) ≡ true
  pub sized : form.has_length (kind_byte bs) (length_byte bs) ≡ true
  pub blank : zero_byte bs ≡ 0

module _ {B : Type 0} (form : Form B) (bs : List ℕ) where
  pub right_header : wrong_header form bs ≡ None → RightHeader form bs
  right_header e =
      let a = passed (ltb (poster_byte bs) 16) POSTER_PLACE _ e in
      let b = passed (ltb 0 (number_16 (2 * poster_byte bs) bs)) (2 * poster_byte bs) _ a.1 in
      let c = passed (form.has_kind (kind_byte bs)) KIND_PLACE _ b.1 in
      let d = passed (form.has_length (kind_byte bs) (length_byte bs)) LENGTH_PLACE _ c.1 in
      let f = passed (eqb (zero_byte bs) 0) ZERO_PLACE _ d.1 in
      record {
        seated = ltb-true (poster_byte bs) 16 a.0;
        counted = ltb-true 0 (number_16 (2 * poster_byte bs) bs) b.0;
        kind = c.0;
        sized = d.0;
        blank = eqb-true (zero_byte bs) 0 f.0;
      }

  pub header_right : RightHeader form bs → wrong_header form bs ≡ None
  header_right right =
      let a : ltb (poster_byte bs) 16 ≡ true = lt-ltb (poster_byte bs) 16 right.seated in
      let b : ltb 0 (number_16 (2 * poster_byte bs) bs) ≡ true = lt-ltb 0 (number_16 (2 * poster_byte bs) bs) right.counted in
      let c = right.kind in
      let d = right.sized in
      let e : eqb (zero_byte bs) 0 ≡ true = eq-eqb (zero_byte bs) 0 right.blank in
      rw (a, b, c, d, e)
