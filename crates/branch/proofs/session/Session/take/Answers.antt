use Rattle.std.proofs.Common.{Ok, Err, refl}
use Rattle.std.proofs.lemmas.Result.{err_from_is_err_and}
use Rattle.letters.specs.Refusals.{reason_of}
use Rattle.seats.specs.Outcomes.{take_as_answer}
use Rattle.lives.specs.declared.operation.Operation.TheVariants.{Take}
use Rattle.branch.proofs.Leading.{one_call}
use Rattle.branch.proofs.session.Session.take.Goals as goal

pub returns-in_err-taken : goal.returns-in_err-taken
returns-in_err-taken g c =
    let p = err_from_is_err_and c.from_residual.result c.from_residual.ensures.1 in
    let leaves = rw c.from.ensures at c.in_err-taken.ensures.take in
    let rests = rw c.from.ensures at c.in_err-taken.ensures.rests in
    rw (p.1, p.2)
    (one_call g.C.Carrier.meaning g.C.Carrier.puts g.C.Carrier.rests (Take c.args.seat c.args.place) _ c.args.self.now _
    (record { result = Err (reason_of c.in_err-taken.field-0.0); answers = refl; leaves = leaves; logs = refl }) rests)

pub returns : goal.returns
returns g c =
    let leaves = rw c.from.ensures at c.in_ok-taken.ensures.take in
    let rests = rw c.from.ensures at c.in_ok-taken.ensures.rests in
    one_call g.C.Carrier.meaning g.C.Carrier.puts g.C.Carrier.rests (Take c.args.seat c.args.place) _ c.args.self.now _
    (record { result = Ok (take_as_answer c.in_ok-taken.taken); answers = refl; leaves = leaves; logs = refl }) rests
