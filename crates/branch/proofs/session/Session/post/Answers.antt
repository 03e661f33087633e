use Rattle.std.proofs.Common.{refl, ap}
use Rattle.std.proofs.lemmas.Result.{err_from_is_err_and}
use Rattle.lives.specs.declared.operation.Operation.TheVariants.{Post}
use Rattle.lives.specs.Traces.{answer_with_docket}
use Rattle.rooms.specs.States.{id_of}
use Rattle.branch.proofs.Dispatching.{dispatch_follows}
use Rattle.branch.proofs.Leading.{one_call}
use Rattle.branch.proofs.session.Session.post.Goals as goal

pub returns-in_err-docket : goal.returns-in_err-docket
returns-in_err-docket g c =
    let p = err_from_is_err_and c.from_residual.result c.from_residual.ensures.1 in
    let posted = c.in_err-docket.ensures in
    rw (p.1, p.2)
    (one_call g.C.Carrier.meaning g.C.Carrier.puts g.C.Carrier.rests (Post c.args.seat c.args.job) _ c.args.self.now _
    (record { answers = ap answer_with_docket posted.answer; room = posted.room; logs = posted.logs; holds = refl; carrier = refl }) refl)

pub returns : goal.returns
returns g c =
    let posted = c.in_ok-docket.ensures in
    dispatch_follows g.C.Carrier.meaning g.C.Carrier.puts g.C.Carrier.rests (Post c.args.seat c.args.job) (id_of c.in_ok-docket.docket) c.args.self.now _ c.dispatch.new.self
    c.dispatch.result
    (one_call g.C.Carrier.meaning g.C.Carrier.puts g.C.Carrier.rests (Post c.args.seat c.args.job) _ c.args.self.now _
    (record { answers = ap answer_with_docket posted.answer; room = c.post.ensures.room; logs = c.post.ensures.logs; holds = refl; carrier = refl }) refl)
    c.dispatch.ensures
