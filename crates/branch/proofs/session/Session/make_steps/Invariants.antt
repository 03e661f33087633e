use Rattle.std.proofs.Common.{◌≡◌, ◌*◌, ◌≤◌, length, drop, string_bytes}
use Rattle.std.specs.Slice.Iter.{chunks_rest, chunks_size}
use Rattle.branch.specs.StepRuns.{MadeSteps}
use Rattle.branch.specs.Driving.{SessionEffect}
use Rattle.branch.proofs.session.Session.make_steps.Given as goal

-- the steps so far are made, and the others are left
abbrev pub invariant-loop-step : goal.invariant-loop-step
invariant-loop-step g l = record {
  can : (goal.iterator-loop-step g).can_next l.step-iterator;
  finite : (goal.iterator-loop-step g).is_finite l.step-iterator;
  size : chunks_size l.step-iterator ≡ 8;
  rest : chunks_rest l.step-iterator ≡ drop (length l.yielded * 8) l.bytes;
  within : length l.yielded * 8 ≤ length l.bytes;
  made : MadeSteps (SessionEffect g.C.Carrier) l.bytes l.initial.index (string_bytes l.initial.lines) l.initial.self
      (length l.yielded) l.index (string_bytes l.lines) l.self;
}
