-- Lists of letters, as boxes keep them in their logs.
use Rattle.std.specs.Prelude.{List}
use Rattle.letters.specs.declared.letter.Letter.{Letter}
use Rattle.letters.specs.Lists.{NoPair}
use Rattle.letters.specs.Order.{CoversLetter, SameLetter}

module _ {B : Type 0} where
  -- no letter stands twice in the list
  abbrev pub NoDuplicates : List (Letter B) → Type 0
  NoDuplicates = NoPair SameLetter

  -- no letter covers a later one: each stands below the letters of the list that its poster knew of (a causal order)
  abbrev pub CausallyOrdered : List (Letter B) → Type 0
  CausallyOrdered = NoPair CoversLetter
