use Rattle.branch.specs.Driving.{SessionEffect}
use Rattle.branch.proofs.Pieces.{Between}
use Rattle.branch.proofs.drive.Given as goal

-- the steps so far are made, and their lines written
abbrev pub invariant-loop : goal.invariant-loop
invariant-loop g l = Between (SessionEffect g.C.Carrier) (g.R.Read.remaining l.initial.input) (g.R.Read.remaining l.input)
    (g.W.Write.contents l.initial.output) (g.W.Write.contents l.output) l.initial.session l.session l.index
