use Rattle.std.proofs.Common.{◌-◌, take, ap, ◌∙◌}
use Rattle.carriers.proofs.Closing.{closed_up}
use Rattle.carriers.proofs.queue.Queue.remove.Goals as goal

pub returns-clause-letters : goal.returns-clause-letters
returns-clause-letters g c =
    let q = c.args.self.now in
    ap (take (q.count - 1)) c.copy_within.ensures.after ∙ closed_up q.places.now c.args.place q.count c.requires q.within
