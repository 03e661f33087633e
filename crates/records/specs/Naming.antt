-- Which byte of a refused record is named, defined by the records of letters and not by the checks.
use Rattle.std.specs.Prelude.{◌≡◌, ℕ, ◌+◌, ◌-◌, ◌/◌, ◌<◌, ◌≤◌, cond, List, length, take, ◌==◌, nat_lt, slice_index}
use Rattle.letters.specs.declared.letter.Letter.{Letter}
use Rattle.letters.specs.Forms.{Form}
use Rattle.records.specs.declared.record.TheConstants.{BODY_PLACE, POSTER_PLACE, RECORD_SIZE}
use Rattle.records.specs.declared.stamps.TheConstants.{STAMP_SIZE}
use Rattle.records.specs.Records.{kind_byte, length_byte, poster_byte, record_of}

module _ {B : Type 0} (form : Form B) where
  -- The turn at which a place of a record is looked at: the poster first, then the two bytes of the poster's number in the stamp,
  -- and then the kind and all that follows, byte after byte, but two bytes of a body that are one number both at the first one's
  -- turn. The rest of the stamp is not looked at, and has a turn behind all others.
  abbrev pub turn : List ℕ → ℕ → ℕ
  turn bs k =
      cond (k == POSTER_PLACE) 0
      (cond (nat_lt k STAMP_SIZE) (cond (k / 2 == poster_byte bs) 1 RECORD_SIZE)
      (cond (nat_lt k BODY_PLACE) k
      (cond (nat_lt k (BODY_PLACE + length_byte bs)) (BODY_PLACE + form.starts (kind_byte bs) (length_byte bs) (k - BODY_PLACE)) k)))

  -- the letter's record has the same bytes, wherever they are looked at before a turn
  abbrev pub AgreesBefore : List ℕ → ℕ → Letter B → Type 0
  AgreesBefore bs t m = (k : ℕ) → turn bs k < t → slice_index (record_of form m) k ≡ slice_index bs k

  -- The byte is the first wrong one of a record: the record of some letter agrees with all that is looked at before its turn, and no
  -- letter's agrees with that and with what is looked at in its turn. Of two bytes that are looked at together it is the first.
  pub record FirstWrongByte (bs : List ℕ) (byte : ℕ) : Type 0 where
    pub looked_at : turn bs byte < RECORD_SIZE
    pub first : (k : ℕ) → turn bs k ≡ turn bs byte → byte ≤ k
    pub before : (m : Letter B) × AgreesBefore bs (turn bs byte) m
    pub never : (m : Letter B) → ¬ (AgreesBefore bs (turn bs byte + 1) m)

  -- the byte that is named where the record at the front of some bytes is refused; where they are too few, how many there are
  pub record NamedByte (bs : List ℕ) (byte : ℕ) : Type 0 where
    pub whole : RECORD_SIZE ≤ length bs → FirstWrongByte (take RECORD_SIZE bs) byte
    pub short : length bs < RECORD_SIZE → byte ≡ length bs
