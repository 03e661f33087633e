-- What a letter is made of.
use Rattle.std.specs.Prelude.{ℕ, Bool, Ok, Result, replicate, slice_index, refl}
use Rattle.std.proofs.lemmas.Bool.{ltb-true}
use Rattle.letters.specs.declared.letter.Letter.{Letter}
use Rattle.letters.specs.declared.parts.Parts.{Parts}
use Rattle.letters.specs.declared.stamp.Stamp.{Stamp}
use Rattle.letters.specs.Names.{Name, is_name, name_from}
use Rattle.letters.specs.Refusals.{Reason, unless}

-- a stamp's entry at a seat, and 0 past the sixteen
abbrev pub entry_at : Stamp → ℕ → ℕ
entry_at s p = slice_index s.entries p

module _ {B : Type 0} where
  abbrev pub parts : Stamp → ℕ → B → Parts B
  parts s p b = record { stamp = s; poster = p; body = b }

  abbrev pub parts_of : Letter B → Parts B
  parts_of m = parts m.stamp m.poster m.body

  -- a letter's number is its stamp's entry at its poster
  abbrev pub number_of : Letter B → ℕ
  number_of m = entry_at m.stamp m.poster

  abbrev pub letter_name : Letter B → Name
  letter_name m = name_from m.poster (number_of m)

  -- whether some letter has these parts, where the stamp has sixteen entries: the poster is a seat, and its entry is not 0
  abbrev pub is_letter : Parts B → Bool
  is_letter p = is_name p.poster (entry_at p.stamp p.poster)

  -- what the check of a letter's parts answers
  abbrev pub letter_check : Parts B → Result (Unit {0}) Reason
  letter_check p = unless (is_letter p) 20 (Ok tt)

  -- what making a letter of any parts answers
  abbrev pub letter_answer : Parts B → Result (Parts B) Reason
  letter_answer p = unless (is_letter p) 20 (Ok p)

  -- the plainest letter with a body: 0.1, stamped 1 throughout
  abbrev pub blank_letter : B → Letter B
  blank_letter body = record {
    stamp = record { entries = replicate 16 1 };
    poster = 0;
    body = body;
    sized = refl;
    seated = ltb-true 0 16 refl;
    counted = ltb-true 0 1 refl;
  }
