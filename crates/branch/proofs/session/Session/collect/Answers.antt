use Rattle.std.proofs.Common.{refl, ap}
use Rattle.std.proofs.lemmas.Result.{err_from_is_err_and}
use Rattle.lives.specs.declared.operation.Operation.TheVariants.{Collect}
use Rattle.lives.specs.Traces.{answer_with_docket}
use Rattle.rooms.specs.States.{id_of}
use Rattle.branch.proofs.Dispatching.{dispatch_follows}
use Rattle.branch.proofs.Leading.{one_call}
use Rattle.branch.proofs.session.Session.collect.Goals as goal

pub returns-in_err-docket : goal.returns-in_err-docket
returns-in_err-docket g c =
    let p = err_from_is_err_and c.from_residual.result c.from_residual.ensures.1 in
    let collected = c.in_err-docket.ensures in
    rw (p.1, p.2)
    (one_call g.C.Carrier.meaning g.C.Carrier.puts g.C.Carrier.rests (Collect c.args.seat) _ c.args.self.now _
    (record { answers = ap answer_with_docket collected.answer; room = collected.room; logs = refl; holds = refl; carrier = refl }) refl)

pub returns : goal.returns
returns g c =
    let collected = c.in_ok-docket.ensures in
    dispatch_follows g.C.Carrier.meaning g.C.Carrier.puts g.C.Carrier.rests (Collect c.args.seat) (id_of c.in_ok-docket.docket) c.args.self.now _ c.dispatch.new.self
    c.dispatch.result
    (one_call g.C.Carrier.meaning g.C.Carrier.puts g.C.Carrier.rests (Collect c.args.seat) _ c.args.self.now _
    (record { answers = ap answer_with_docket collected.answer; room = c.collect.ensures.room; logs = refl; holds = refl; carrier = refl }) refl)
    c.dispatch.ensures
