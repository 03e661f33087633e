use Rattle.chunks.proofs.Filling.{filling_on}
use Rattle.chunks.proofs.fill.Goals as goal

pub loop-at-preserved : goal.loop-at-preserved
loop-at-preserved g c = filling_on (g.R.Read.remaining c.args.input.now) (g.R.Read.remaining c.loop-at.input) (g.R.Read.remaining c.read.new.self) c.loop-at.chunk c.read.new.buf _
    c.loop-at.at c.in_ok-n.n c.loop-at.invariant c.in_ok-n.ensures.bound.0 c.in_ok-n.ensures.bytes.0
