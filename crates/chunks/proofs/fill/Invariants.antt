use Rattle.std.proofs.Common.{length, ◌-◌}
use Rattle.chunks.proofs.Filling.{Filling}
use Rattle.chunks.proofs.fill.Given as goal

abbrev pub invariant-loop-at : goal.invariant-loop-at
invariant-loop-at g l = Filling (g.R.Read.remaining l.initial.input) (g.R.Read.remaining l.input) l.chunk l.at

abbrev pub decreases-loop-at : goal.decreases-loop-at
decreases-loop-at g l = length l.chunk - l.at
