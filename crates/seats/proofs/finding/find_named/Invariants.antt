use Rattle.std.proofs.Common.{◌≡◌, drop}
use Rattle.seats.specs.Outcomes.{first_passing, is_called}
use Rattle.seats.proofs.finding.find_named.Given as goal

abbrev pub invariant-loop-at : goal.invariant-loop-at
invariant-loop-at g l = first_passing (is_called l.poster l.number) l.at (drop l.at l.letters) ≡ first_passing (is_called l.poster l.number) 0 l.letters
