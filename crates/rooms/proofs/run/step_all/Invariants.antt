use Rattle.std.proofs.Common.{◌≡◌, [], length, take, drop}
use Rattle.lives.specs.Traces.{answer_of, trace_after}
use Rattle.lives.specs.Reachability.{Execution, configuration_of}
use Rattle.rooms.specs.Serving.{CarrierSteps, Serves}
use Rattle.rooms.specs.States.{state}
use Rattle.rooms.proofs.run.step_all.Given as goal

-- the steps so far are made and their responses written, the carrier went through these steps, and no response past the last step is touched
abbrev pub invariant-loop-i : goal.invariant-loop-i
invariant-loop-i g l = record {
  led : Execution (configuration_of (state l.initial.room) l.initial.logs l.initial.holds (g.C.Carrier.meaning l.initial.carrier))
      (trace_after answer_of [] (take l.i l.steps) (take l.i l.responses))
      (configuration_of (state l.room) l.logs l.holds (g.C.Carrier.meaning l.carrier));
  carried : CarrierSteps g.C.Carrier.meaning g.C.Carrier.puts g.C.Carrier.rests (configuration_of (state l.initial.room) l.initial.logs l.initial.holds (g.C.Carrier.meaning l.initial.carrier)) l.initial.carrier
      (trace_after answer_of [] (take l.i l.steps) (take l.i l.responses)) (configuration_of (state l.room) l.logs l.holds (g.C.Carrier.meaning l.carrier)) l.carrier;
  serves : Serves g.C.Carrier.meaning g.C.Carrier.puts g.C.Carrier.rests l.initial.carrier (trace_after answer_of [] (take l.i l.steps) (take l.i l.responses)) l.carrier;
  rest : drop (length l.steps) l.responses ≡ drop (length l.steps) l.initial.responses;
  long : length l.responses ≡ length l.initial.responses;
}
