-- What stands where in the record of a letter's parts.
use Rattle.std.proofs.Common.{◌≡◌, ℕ, ◌+◌, ◌-◌, ◌*◌, ◌≤◌, List, ◌∷◌, ◌++◌, length, get_or, take, drop, replicate, None, sym, refl, ap, ◌∙◌, arith}
use Rattle.std.proofs.lemmas.List.{take_all, take_at, drop_at, drop-drop, drop_more, get_or-append_right, length-append, length-replicate, length-take-le, length-drop, take-append-drop, ext_get_or, get_or-replicate}
use Rattle.std.proofs.lemmas.Bool.{eqb-true, eq-eqb}
use Rattle.records.specs.declared.record.TheConstants.{BODY_END, BODY_PLACE, KIND_PLACE, LENGTH_PLACE, POSTER_PLACE, RECORD_SIZE, ZERO_PLACE}
use Rattle.records.specs.declared.stamps.TheConstants.{STAMP_SIZE}
use Rattle.letters.specs.Checks.{first_failing}
use Rattle.letters.specs.declared.body.TheConstants.{BODY_SPACE}
use Rattle.letters.specs.Forms.{Form, LawfulForm}
use Rattle.letters.specs.declared.parts.Parts.{Parts}
use Rattle.letters.specs.Numbers.{padded}
use Rattle.letters.specs.ChecksLemmas.{each_passes, none_fails}
use Rattle.records.specs.Records.{body_part, is_zero, kind_byte, length_byte, padding, parts_record, poster_byte, stamp_bytes, zero_byte}
use Rattle.records.proofs.Entries.{length_written}
use Rattle.records.proofs.Headers.{RightHeader}
use Rattle.records.proofs.Padding.{drop-of-take, padding_last, padding_long}

-- padding that is not wrong is zeros
pub zeros : (place : ℕ) (bs : List ℕ) → first_failing is_zero place bs ≡ None → bs ≡ replicate (length bs) 0
zeros place bs e =
    let each = each_passes is_zero place bs e in
    ext_get_or 0 bs (replicate (length bs) 0) (sym (length-replicate (length bs) 0))
    (λ k h. eqb-true (get_or bs k 0) 0 (each k h) ∙ sym (get_or-replicate (length bs) k 0 0 h))

pub zeros_right : (place n : ℕ) → first_failing is_zero place (replicate n 0) ≡ None
zeros_right place n =
    none_fails is_zero place (replicate n 0)
    (λ k h. eq-eqb (get_or (replicate n 0) k 0) 0 (get_or-replicate n k 0 0 (omega (arith, length-replicate {A = ℕ} n 0))))

module _ {B : Type 0} (form : Form B) (p : Parts B) where
  abbrev body : List ℕ
  body = form.bytes p.body

  abbrev tail : List ℕ
  tail = p.poster ∷ form.kind p.body ∷ length body ∷ 0 ∷ padded BODY_SPACE body

  abbrev bs : List ℕ
  bs = parts_record form p

  -- how long a record is; with the sixteen entries of a stamp, as long as all are
  pub parts-length : LawfulForm form → length bs ≡ 2 * length p.stamp.entries + (RECORD_SIZE - STAMP_SIZE)
  parts-length laws =
      let short : length body ≤ BODY_SPACE = laws.short (form.kind p.body) (length body) (laws.length_right p.body) in
      let pad = length-append body (replicate {A = ℕ} (BODY_SPACE - length body) 0) in
      let none = length-replicate {A = ℕ} (BODY_SPACE - length body) 0 in
      let all = length-append (stamp_bytes p.stamp) tail in
      let front = length_written p.stamp.entries in
      omega arith

  module _ (sixteen : length p.stamp.entries ≡ 16) where
    stamp_long : length (stamp_bytes p.stamp) ≡ STAMP_SIZE
    stamp_long = length_written p.stamp.entries ∙ ap (λ n. 2 * n) sixteen

    pub stamp_is : take STAMP_SIZE bs ≡ stamp_bytes p.stamp
    stamp_is = take_at (stamp_bytes p.stamp) tail STAMP_SIZE stamp_long

    after : (k : ℕ) → get_or bs (STAMP_SIZE + k) 0 ≡ get_or tail k 0
    after k =
        let less : STAMP_SIZE + k - STAMP_SIZE ≡ k = omega arith in
        get_or-append_right (stamp_bytes p.stamp) tail STAMP_SIZE (STAMP_SIZE + k) 0 stamp_long (omega arith) ∙ ap (λ n. get_or tail n 0) less

    pub poster_is : poster_byte bs ≡ p.poster
    poster_is = after 0

    pub kind_is : kind_byte bs ≡ form.kind p.body
    kind_is = after 1

    pub length_is : length_byte bs ≡ length body
    length_is = after 2

    pub blank_is : zero_byte bs ≡ 0
    blank_is = after 3

    area : drop BODY_PLACE bs ≡ padded BODY_SPACE body
    area = sym (drop-drop 4 STAMP_SIZE bs) ∙ ap (drop 4) (drop_at (stamp_bytes p.stamp) tail STAMP_SIZE stamp_long)

    pub body_is : body_part bs ≡ body
    body_is = ap (λ n. take n (drop BODY_PLACE bs)) length_is ∙ ap (take (length body)) area ∙ take_at body _ (length body) refl

    pub padding_is : padding bs ≡ replicate (BODY_SPACE - length body) 0
    padding_is =
        let zeros : List ℕ = replicate (BODY_SPACE - length body) 0 in
        drop-of-take (BODY_PLACE + length_byte bs) BODY_END bs
        ∙ ap (λ n. take (BODY_END - (BODY_PLACE + n)) (drop (BODY_PLACE + n) bs)) length_is
        ∙ ap (take (BODY_END - (BODY_PLACE + length body)))
        (sym (drop-drop (length body) BODY_PLACE bs) ∙ ap (drop (length body)) area ∙ drop_at body zeros (length body) refl)
        ∙ take_all (BODY_END - (BODY_PLACE + length body)) zeros (omega (arith, length-replicate {A = ℕ} (BODY_SPACE - length body) 0))

-- the parts of a whole record
split : (bs : List ℕ) → length bs ≡ RECORD_SIZE
    → bs ≡ take STAMP_SIZE bs ++ (poster_byte bs ∷ kind_byte bs ∷ length_byte bs ∷ zero_byte bs ∷ (body_part bs ++ padding bs))
split bs n =
    let len : ℕ = length_byte bs in
    let a = drop_more bs POSTER_PLACE 0 (omega arith) in
    let b = drop_more bs KIND_PLACE 0 (omega arith) in
    let c = drop_more bs LENGTH_PLACE 0 (omega arith) in
    let d = drop_more bs ZERO_PLACE 0 (omega arith) in
    let front : bs ≡ take STAMP_SIZE bs ++ drop STAMP_SIZE bs = sym (take-append-drop STAMP_SIZE bs) in
    let back : take len (drop BODY_PLACE bs) ++ drop len (drop BODY_PLACE bs) ≡ drop BODY_PLACE bs = take-append-drop len (drop BODY_PLACE bs) in
    let rest : drop len (drop BODY_PLACE bs) ≡ padding bs = drop-drop len BODY_PLACE bs ∙ sym (padding_last bs n) in
    cc

-- bytes in which nothing is wrong are the record of the parts that they write
pub record_back : {B : Type 0} (form : Form B) (p : Parts B) (bs : List ℕ) → length bs ≡ RECORD_SIZE → RightHeader form bs → length_byte bs ≤ BODY_SPACE
    → stamp_bytes p.stamp ≡ take STAMP_SIZE bs → p.poster ≡ poster_byte bs → form.kind p.body ≡ kind_byte bs → form.bytes p.body ≡ body_part bs
    → first_failing is_zero (BODY_PLACE + length_byte bs) (padding bs) ≡ None → parts_record form p ≡ bs
record_back form p bs n header short stamp poster kind same blank =
    let body : List ℕ = form.bytes p.body in
    let len : ℕ = length_byte bs in
    let after : length (drop BODY_PLACE bs) ≡ BODY_SPACE = simp length-drop (omega arith) in
    let sized : length (body_part bs) ≡ len = length-take-le len (drop BODY_PLACE bs) (omega arith) in
    let left : length (padding bs) ≡ BODY_SPACE - len = padding_long bs n ∙ omega arith in
    let pad : padding bs ≡ replicate (BODY_SPACE - len) 0 = zeros (BODY_PLACE + len) (padding bs) blank ∙ ap (λ k. replicate k 0) left in
    let all = split bs n in
    let gap = header.blank in
    let bodies : padded BODY_SPACE body ≡ body_part bs ++ padding bs = cc in
    cc
