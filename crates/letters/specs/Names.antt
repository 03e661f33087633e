-- The names of letters.
use Rattle.std.specs.Prelude.{ℕ, Bool, ◌&&◌, List, ◌++◌, Ok, Result, nat_lt, codes, decimal}
use Rattle.letters.specs.declared.letter_id.LetterId.{LetterId}
use Rattle.letters.specs.Refusals.{Reason, unless}

-- poster and number, of any values
pub record Name : Type 0 where
  pub poster : ℕ
  pub number : ℕ

abbrev pub name_from : ℕ → ℕ → Name
name_from p n = record { poster = p; number = n }

abbrev pub name_of : LetterId → Name
name_of id = name_from id.poster id.number

-- a name in print
abbrev pub name_text : ℕ → ℕ → List ℕ
name_text p n = decimal p ++ (codes "." ++ decimal n)

-- some letter can be called p.n: p is a seat, below 16, and n is not 0
abbrev pub is_name : ℕ → ℕ → Bool
is_name p n = nat_lt p 16 && nat_lt 0 n

-- a name is made of any poster and number that a letter can be called by
abbrev pub name_answer : ℕ → ℕ → Result Name Reason
name_answer p n = unless (is_name p n) 20 (Ok (name_from p n))
