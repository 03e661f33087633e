use Rattle.carriers.proofs.Sending.{Sent}
use Rattle.carriers.proofs.lines.carrying.LinesCarrier.put.Given as goal

abbrev pub invariant-loop-other : goal.invariant-loop-other
invariant-loop-other g l = Sent l.initial.self l.letter l.other l.self
