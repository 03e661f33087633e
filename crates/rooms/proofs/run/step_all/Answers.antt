use Rattle.std.proofs.Common.{[], length, refl, sym, subst, ◌∙◌, arith, drop-set-lt}
use Rattle.std.proofs.lemmas.List.{length-set}
use Rattle.lives.specs.Traces.{Trace, answer_of}
use Rattle.lives.specs.Reachability.{configuration_of, nowhere}
use Rattle.rooms.specs.States.{state}
use Rattle.lives.proofs.Tracing.{leads_all, leads_next, traced_all, traced_next}
use Rattle.carriers.specs.Serving.{nothing}
use Rattle.rooms.specs.Serving.{CarrierSteps, Serves, at_first, step_on}
use Rattle.rooms.proofs.Serving.{serves_on}
use Rattle.rooms.proofs.run.step_all.Goals as goal

pub loop-i-init : goal.loop-i-init
loop-i-init g c = record { led = nowhere; carried = at_first; serves = record { letters = []; served = nothing; named = refl }; rest = refl; long = refl }

pub loop-i-preserved : goal.loop-i-preserved
loop-i-preserved g c =
    let so_far = c.loop-i.invariant in
    let steps = c.args.steps.now in
    let responses = c.loop-i.responses in
    let i = c.loop-i.i in
    let response = c.step.result in
    record {
      led = leads_next answer_of _ steps responses _ i c.index-steps-i.result response _ _ so_far.led c.step.ensures.step
          (omega arith) (omega (arith, so_far.long, c.requires)) c.index-steps-i.is refl;
      carried = subst (λ (trace : Trace g.row.B.Denot). CarrierSteps g.C.Carrier.meaning g.C.Carrier.puts g.C.Carrier.rests (configuration_of (state c.args.room.now) c.args.logs.now c.args.holds.now (g.C.Carrier.meaning c.args.carrier.now)) c.args.carrier.now trace (configuration_of (state c.step.new.self) c.step.new.logs c.step.new.holds (g.C.Carrier.meaning c.step.new.carrier)) c.step.new.carrier)
          (sym (traced_next answer_of steps responses _ i c.index-steps-i.result response (omega arith) (omega (arith, so_far.long, c.requires)) c.index-steps-i.is refl))
          (step_on so_far.carried refl c.step.ensures.step refl c.step.ensures.carrier);
      serves = subst (λ (trace : Trace g.row.B.Denot). Serves g.C.Carrier.meaning g.C.Carrier.puts g.C.Carrier.rests c.args.carrier.now trace c.step.new.carrier)
          (sym (traced_next answer_of steps responses _ i c.index-steps-i.result response (omega arith) (omega (arith, so_far.long, c.requires)) c.index-steps-i.is refl))
          (serves_on g.C.Carrier.meaning g.C.Carrier.puts g.C.Carrier.rests _ _ _ _ _ _ refl refl c.step.ensures.step c.step.ensures.carrier _ _ so_far.serves);
      rest = drop-set-lt (length steps) responses i response (omega arith) ∙ so_far.rest;
      long = length-set responses i response ∙ so_far.long;
    }

pub returns : goal.returns
returns g c = record {
  path = leads_all answer_of _ c.args.steps.now c.loop-i.responses c.loop-i.i _ (omega arith) c.loop-i.invariant.led;
  carrier = subst (λ (trace : Trace g.row.B.Denot). CarrierSteps g.C.Carrier.meaning g.C.Carrier.puts g.C.Carrier.rests (configuration_of (state c.args.room.now) c.args.logs.now c.args.holds.now (g.C.Carrier.meaning c.args.carrier.now)) c.args.carrier.now trace (configuration_of (state c.loop-i.room) c.loop-i.logs c.loop-i.holds (g.C.Carrier.meaning c.loop-i.carrier)) c.loop-i.carrier)
      (traced_all answer_of [] c.args.steps.now c.loop-i.responses c.loop-i.i (omega arith)) c.loop-i.invariant.carried;
  serves = subst (λ (trace : Trace g.row.B.Denot). Serves g.C.Carrier.meaning g.C.Carrier.puts g.C.Carrier.rests c.args.carrier.now trace c.loop-i.carrier)
      (traced_all answer_of [] c.args.steps.now c.loop-i.responses c.loop-i.i (omega arith)) c.loop-i.invariant.serves;
  rest = c.loop-i.invariant.rest;
}
