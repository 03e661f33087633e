-- A letter's parts pass the check that comes before a letter is made.
use Rattle.std.proofs.Common.{◌≡◌, true, Ok, ap}
use Rattle.std.proofs.lemmas.Bool.{and_from, lt-ltb}
use Rattle.letters.specs.declared.letter.Letter.{Letter}
use Rattle.letters.specs.Letters.{is_letter, letter_check, parts_of}
use Rattle.letters.specs.Refusals.{unless}

module _ {B : Type 0} (m : Letter B) where
  pub letter_is : is_letter (parts_of m) ≡ true
  letter_is = and_from _ _ (lt-ltb _ _ m.seated) (lt-ltb _ _ m.counted)

  pub letter_passes : letter_check (parts_of m) ≡ Ok tt
  letter_passes = ap (λ b. unless b 20 (Ok tt)) letter_is
