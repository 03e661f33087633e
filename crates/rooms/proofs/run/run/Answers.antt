use Rattle.std.proofs.Common.{[], length, subst, sym}
use Rattle.seats.specs.Rooms.{RoomState}
use Rattle.lives.specs.Traces.{answer_of, trace_after}
use Rattle.lives.specs.Reachability.{Execution, Reachable, configuration_of}
use Rattle.lives.proofs.Keeping.{always_keeps}
use Rattle.lives.proofs.Throughout.{keeps_throughout}
use Rattle.rooms.specs.Drafts.{opening_state, state_of_draft}
use Rattle.rooms.specs.Handing.{AreOut}
use Rattle.rooms.specs.Serving.{CarrierSteps}
use Rattle.rooms.specs.States.{state}
use Rattle.rooms.proofs.Handing.{out_are_good}
use Rattle.rooms.proofs.Running.{as_opened, runnable}
use Rattle.rooms.proofs.run.run.Goals as goal

pub returns : goal.returns
returns g c =
    let d = c.args.draft in
    let logs = c.args.logs.now in
    let holds = c.args.holds.now in
    let before = g.C.Carrier.meaning c.args.carrier.now in
    let now = c.step_all.new in
    let trace = trace_after answer_of [] c.args.steps.now now.responses in
    let after = configuration_of (state now.room) now.logs now.holds (g.C.Carrier.meaning now.carrier) in
    let can = runnable (state_of_draft d) (length logs) (length holds) before (length c.args.steps.now) (length c.args.responses.now) c.requires in
    let path = subst (λ (st : RoomState). Execution (configuration_of st logs holds before) trace after) c.open-room.ensures.room c.step_all.ensures.path in
    let first = configuration_of (opening_state (state_of_draft d)) logs holds before in
    let opens = as_opened d logs holds before (g.C.Carrier.lawful c.args.carrier.now) _ _ can in
    let reachable : Reachable trace after = record { first = first; opened = opens; led = path } in
    record {
      path = path;
      reachable = reachable;
      guarantees = always_keeps g.K.Sheet.kind g.met.K.Sheet.lawful trace after reachable;
      throughout = keeps_throughout g.K.Sheet.kind g.met.K.Sheet.lawful first trace after opens path;
      always = always_keeps g.K.Sheet.kind g.met.K.Sheet.lawful;
      carrier = subst (λ (st : RoomState). CarrierSteps g.C.Carrier.meaning g.C.Carrier.puts g.C.Carrier.rests (configuration_of st logs holds before) c.args.carrier.now trace after now.carrier) c.open-room.ensures.room c.step_all.ensures.carrier;
      serves = c.step_all.ensures.serves;
      dockets = c.of-dockets.ensures;
      good = subst (AreOut (state now.room)) (sym c.of-dockets.ensures) (out_are_good (state now.room) now.room.terms.few);
      rest = c.step_all.ensures.rest;
    }
