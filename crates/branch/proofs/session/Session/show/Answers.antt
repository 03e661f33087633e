use Rattle.std.proofs.Common.{refl, ap}
use Rattle.std.proofs.lemmas.Result.{err_from_is_err_and}
use Rattle.lives.specs.declared.operation.Operation.TheVariants.{Show}
use Rattle.lives.specs.Traces.{answer_with_show}
use Rattle.branch.proofs.Leading.{one_call}
use Rattle.branch.proofs.session.Session.show.Goals as goal

pub returns-in_err-id : goal.returns-in_err-id
returns-in_err-id g c =
    let p = err_from_is_err_and c.from_residual.result c.from_residual.ensures.1 in
    let shown = c.in_err-id.ensures in
    rw (p.1, p.2)
    (one_call g.C.Carrier.meaning g.C.Carrier.puts g.C.Carrier.rests (Show c.args.seat) _ c.args.self.now _
    (record { answers = ap answer_with_show shown.answer; room = shown.room; logs = shown.logs; holds = shown.holds; carrier = refl }) refl)

pub returns : goal.returns
returns g c =
    let shown = c.in_ok-id.ensures in
    one_call g.C.Carrier.meaning g.C.Carrier.puts g.C.Carrier.rests (Show c.args.seat) _ c.args.self.now _
    (record { answers = ap answer_with_show shown.answer; room = shown.room; logs = shown.logs; holds = shown.holds; carrier = refl }) refl
