use Rattle.std.proofs.Common.{rules}
use Rattle.letters.specs.Characters.{printable}
use Rattle.letters.specs.ChecksLemmas.{first_position}
use Rattle.letters.proofs.text.reading.first_wrong.Goals as goal

pub returns-in_err-place : goal.returns-in_err-place
returns-in_err-place c = search (rules, first_position printable)

pub returns : goal.returns
returns c = search (rules, first_position printable)
