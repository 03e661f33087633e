use Rattle.std.proofs.Common.{◌∙◌}
use Rattle.pair.proofs.Pairs.{waits_joined}
use Rattle.pair.proofs.PairCarrier.waits.Goals as goal

pub returns : goal.returns
returns g c =
    let m = g.C.Carrier.meaning c.args.self.now.first in
    let n = g.D.Carrier.meaning c.args.self.now.second in
    let level = c.args.self.now.level in
    c.saturating_add.ensures ∙ waits_joined m n c.args.seat _ _ level c.waits-ahead.ensures c.waits.ensures
