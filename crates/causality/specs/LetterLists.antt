-- Properties of lists of letters.
use Rattle.std.specs.Prelude.{◌≡◌, List}
use Rattle.letters.specs.declared.letter.Letter.{Letter}
use Rattle.letters.specs.Letters.{letter_name}
use Rattle.letters.specs.Names.{Name}
use Rattle.letters.specs.Order.{SameLetter}
use Rattle.letters.specs.Lists.{◌∈◌}
use Rattle.letters.specs.Logs.{CausallyOrdered, NoDuplicates}

module _ {B : Type 0} where
  -- the letter of this name stands in the list
  pub record HasLetter (i : Name) (l : List (Letter B)) : Type 0 where
    pub letter : Letter B
    pub inside : letter ∈ l
    pub called : letter_name letter ≡ i

  -- what the sheets ask of two lists of letters: in neither a letter stands twice or covers a later one, and letters of
  -- the two that have poster and number in common are equal in every part
  pub record ForSheets (l l' : List (Letter B)) : Type 0 where
    pub once : NoDuplicates l
    pub once' : NoDuplicates l'
    pub onward : CausallyOrdered l
    pub onward' : CausallyOrdered l'
    pub equal : (m k : Letter B) → m ∈ l → k ∈ l' → SameLetter m k → m ≡ k
