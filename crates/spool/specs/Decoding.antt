-- The letter that any bytes stand for, so that each row has one: some fixed letter where they are no record.
use Rattle.std.specs.Prelude.{◌≡◌, ℕ, Bool, true, false, ◌&&◌, List, length, Some, None, Option, ◌==◌, nat_lt, refl}
use Rattle.std.proofs.lemmas.Bool.{and_parts, eqb-true, ltb-true}
use Rattle.letters.specs.declared.letter.Letter.{Letter}
use Rattle.letters.specs.Forms.{Form}
use Rattle.letters.specs.declared.parts.Parts.{Parts}
use Rattle.letters.specs.Letters.{blank_letter, entry_at, is_letter}
use Rattle.records.specs.Records.{parts_written, wrong_byte}

module _ {B : Type 0} where
  -- whether some letter has these parts
  abbrev pub are_letter_parts : Parts B → Bool
  are_letter_parts p = length p.stamp.entries == 16 && is_letter p

  -- the letter with these parts, and the blank one where there is none
  unfoldable pub letter_or : B → (p : Parts B) (can : Bool) → are_letter_parts p ≡ can → Letter B
  letter_or blank p true e =
      let both = and_parts (length p.stamp.entries == 16) (is_letter p) e in
      let rest = and_parts (nat_lt p.poster 16) (nat_lt 0 (entry_at p.stamp p.poster)) both.1 in
      record {
        stamp = p.stamp;
        poster = p.poster;
        body = p.body;
        sized = eqb-true (length p.stamp.entries) 16 both.0;
        seated = ltb-true p.poster 16 rest.0;
        counted = ltb-true 0 (entry_at p.stamp p.poster) rest.1;
      }
  letter_or blank p false e = blank_letter blank

  -- by what is wrong in the bytes that the parts were read from
  unfoldable pub letter_read : B → Parts B → Option ℕ → Letter B
  letter_read blank p None = letter_or blank p (are_letter_parts p) refl
  letter_read blank p (Some place) = blank_letter blank

  -- the letter of which the bytes are the record, and the blank one where there is none
  abbrev pub letter_of : Form B → B → List ℕ → Letter B
  letter_of form blank bs = letter_read blank (parts_written form bs) (wrong_byte form bs)
