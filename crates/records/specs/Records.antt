-- A letter's record: the stamp, the poster, the kind, the body's length, a zero, and the space for the body.
use Rattle.std.specs.Prelude.{ℕ, ◌+◌, ◌*◌, Bool, List, [], ◌∷◌, ◌++◌, length, take, drop, Some, None, Option, ◌==◌, nat_le, nat_lt, slice_index}
use Rattle.std.specs.List.{flat_map}
use Rattle.letters.specs.declared.letter.Letter.{Letter}
use Rattle.letters.specs.declared.stamp.Stamp.{Stamp}
use Rattle.letters.specs.Checks.{check, first_failing}
use Rattle.letters.specs.declared.body.TheConstants.{BODY_SPACE}
use Rattle.letters.specs.Forms.{Form}
use Rattle.records.specs.declared.record.TheConstants.{BODY_END, BODY_PLACE, KIND_PLACE, LENGTH_PLACE, POSTER_PLACE, RECORD_SIZE, ZERO_PLACE}
use Rattle.records.specs.declared.stamps.TheConstants.{STAMP_SIZE}
use Rattle.letters.specs.declared.parts.Parts.{Parts}
use Rattle.letters.specs.Letters.{parts, parts_of}
use Rattle.letters.specs.Numbers.{bytes_of_16, number_16, padded}

-- the entries one after another, the low byte of each first
abbrev pub stamp_bytes : Stamp → List ℕ
stamp_bytes s = flat_map bytes_of_16 s.entries

-- the numbers that pairs of bytes write
abbrev pub paired : List ℕ → List ℕ
paired [] = []
paired (low ∷ []) = []
paired (low ∷ high ∷ bs) = (low + high * 256) ∷ paired bs

-- the stamp that bytes write
abbrev pub stamp_of : List ℕ → Stamp
stamp_of bs = record { entries = paired bs }

-- what stands where in a record
abbrev pub poster_byte : List ℕ → ℕ
poster_byte bs = slice_index bs POSTER_PLACE

abbrev pub kind_byte : List ℕ → ℕ
kind_byte bs = slice_index bs KIND_PLACE

abbrev pub length_byte : List ℕ → ℕ
length_byte bs = slice_index bs LENGTH_PLACE

abbrev pub zero_byte : List ℕ → ℕ
zero_byte bs = slice_index bs ZERO_PLACE

-- the body's bytes, as many as the length says
abbrev pub body_part : List ℕ → List ℕ
body_part bs = take (length_byte bs) (drop BODY_PLACE bs)

-- what stands after the body, to the end of its space
abbrev pub padding : List ℕ → List ℕ
padding bs = drop (BODY_PLACE + length_byte bs) (take BODY_END bs)

abbrev pub is_zero : ℕ → Bool
is_zero b = b == 0

-- the first of two answers, the first of which counts its places from a start
abbrev pub first_of : ℕ → Option ℕ → Option ℕ → Option ℕ
first_of start None later = later
first_of start (Some place) later = Some (start + place)

module _ {B : Type 0} (form : Form B) where
  -- the record of a letter's parts
  abbrev pub parts_record : Parts B → List ℕ
  parts_record p =
      stamp_bytes p.stamp
      ++ (p.poster ∷ form.kind p.body ∷ length (form.bytes p.body) ∷ 0 ∷ padded BODY_SPACE (form.bytes p.body))

  abbrev pub record_of : Letter B → List ℕ
  record_of m = parts_record (parts_of m)

  -- the parts that a record writes
  abbrev pub parts_written : List ℕ → Parts B
  parts_written bs = parts (stamp_of (take STAMP_SIZE bs)) (poster_byte bs) (form.body (kind_byte bs) (body_part bs))

  -- the first wrong byte before the body
  abbrev pub wrong_header : List ℕ → Option ℕ
  wrong_header bs =
      check (nat_lt (poster_byte bs) 16) POSTER_PLACE
      (check (nat_lt 0 (number_16 (2 * poster_byte bs) bs)) (2 * poster_byte bs)
      (check (form.has_kind (kind_byte bs)) KIND_PLACE
      (check (form.has_length (kind_byte bs) (length_byte bs)) LENGTH_PLACE
      (check (zero_byte bs == 0) ZERO_PLACE None))))

  -- the first wrong byte of a whole record, in the order of the checks: the header, the body, the padding
  abbrev pub wrong_byte : List ℕ → Option ℕ
  wrong_byte bs =
      first_of 0 (wrong_header bs)
      (first_of BODY_PLACE (form.wrong (kind_byte bs) (body_part bs))
      (first_failing is_zero (BODY_PLACE + length_byte bs) (padding bs)))

  -- the first wrong byte of the record at the front of some bytes: where they are too few, how many there are
  abbrev pub wrong_front : List ℕ → Option ℕ
  wrong_front bs = check (nat_le RECORD_SIZE (length bs)) (length bs) (wrong_byte (take RECORD_SIZE bs))
