use Rattle.std.proofs.Common.{◌≡◌, refl, ap, sym, ◌∙◌, rules}
use Rattle.lives.specs.declared.operation.Operation.TheVariants.{Park, Send}
use Rattle.lives.specs.Traces.{answer_when_done}
use Rattle.rooms.specs.States.{docket_as_answer, id_of}
use Rattle.branch.specs.declared.session.Session.{Session}
use Rattle.branch.proofs.Leading.{driven_on, one_call}
use Rattle.branch.proofs.session.Session.dispatch.Goals as goal

pub returns-in-Ok : goal.returns-in-Ok
returns-in-Ok g c =
    let sent = c.in-Ok.ensures in (
      search rules,
      one_call g.C.Carrier.meaning g.C.Carrier.puts g.C.Carrier.rests (Send (id_of c.args.docket)) _ c.args.self.now _
          (record { answers = ap answer_when_done sent.answer; room = c.send.ensures.room; logs = refl; holds = refl; carrier = c.send.ensures.carrier }) c.send.ensures.once,
    )

pub returns-in-Err : goal.returns-in-Err
returns-in-Err g c =
    let sent = c.in-Err.ensures in
    let before = c.args.self.now in
    let between : Session g.row.C.Denot = record { room = c.send.new.self; logs = before.logs; holds = before.holds; carrier = c.send.new.carrier } in
    let back : id_of c.in-Err.field-0.docket ≡ id_of c.args.docket = ap id_of sent.docket in
    let parked = ap docket_as_answer (sym c.unwrap.ensures) ∙ c.park.ensures.answer in (
      search rules,
      driven_on g.C.Carrier.meaning g.C.Carrier.puts g.C.Carrier.rests
          (one_call g.C.Carrier.meaning g.C.Carrier.puts g.C.Carrier.rests (Send (id_of c.args.docket)) _ before between
          (record { answers = ap answer_when_done sent.answer; room = c.send.ensures.room; logs = refl; holds = refl; carrier = c.send.ensures.carrier }) c.send.ensures.once)
          (one_call g.C.Carrier.meaning g.C.Carrier.puts g.C.Carrier.rests (Park (id_of c.args.docket)) _ between _
          (rw (← back) (record { answers = ap answer_when_done parked; room = c.park.ensures.room; logs = refl; holds = refl; carrier = refl })) refl),
    )
