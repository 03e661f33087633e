-- How the answer of a take is printed.
use Rattle.std.specs.Prelude.{ℕ, List, ◌++◌, codes, decimal}
use Rattle.letters.specs.declared.letter_id.LetterId.{LetterId}
use Rattle.seats.specs.declared.take_outcome.TakeOutcome.{TakeOutcome}
use Rattle.seats.specs.declared.take_outcome.TakeOutcome.TheVariants.{Stray, Repeat, Held}

-- a word and the letter's name, as in `held 2.5`
abbrev kind_and_name : List ℕ → LetterId → List ℕ
kind_and_name word id = word ++ (decimal id.poster ++ (codes "." ++ decimal id.number))

abbrev pub take_text : TakeOutcome → List ℕ
take_text (Stray id) = kind_and_name (codes "stray ") id
take_text (Repeat id) = kind_and_name (codes "repeat ") id
take_text (Held id) = kind_and_name (codes "held ") id
