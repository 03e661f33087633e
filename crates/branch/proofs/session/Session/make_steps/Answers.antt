use Rattle.std.proofs.Common.{◌≡◌, ◌*◌, min, length, take, string_bytes, ap, ◌∙◌, arith, rules}
use Rattle.std.proofs.lemmas.List.{length-drop, length_push}
use Rattle.std.specs.Slice.Iter.{chunks_rest}
use Rattle.branch.specs.StepRuns.{none, step_bytes}
use Rattle.branch.proofs.Chunking.{chunk_front, chunk_later}
use Rattle.branch.proofs.Leading.{eight, made_more}
use Rattle.branch.proofs.session.Session.make_steps.Goals as goal

pub loop-step-init : goal.loop-step-init
loop-step-init g c = record { can = search rules; finite = tt; size = search rules; rest = search rules; within = omega arith; made = none }

pub loop-step-preserved : goal.loop-step-preserved
loop-step-preserved g c =
    let bs = c.args.bytes.now in
    let k = length c.loop-step.yielded in
    let before = c.loop-step.invariant in
    let chunk = c.in-Some.ensures.steps.1 in
    let sized : length c.in-Some.step.now ≡ min 8 (length (chunks_rest c.loop-step.step-iterator)) = chunk.1 ∙ ap (λ n. min n (length (chunks_rest c.loop-step.step-iterator))) before.size in
    let front : c.in-Some.step.now ≡ step_bytes bs k = chunk_front _ _ _ chunk.0 sized ∙ ap (take 8) before.rest in
    let stepped = rw c.in-Ok.is at c.in_ok-try_step.ensures in
    let whole = eight stepped.step c.in-Some.step.now stepped.read in
    let left = ap length before.rest ∙ length-drop (k * 8) bs in
    rw (length_push c.loop-step.yielded c.in-Some.step) (record {
      can = search rules;
      finite = tt;
      size = c.in-Some.ensures.steps.0 ∙ before.size;
      rest = chunk_later _ _ _ chunk.0 bs k before.rest whole;
      within = omega arith;
      made = made_more before.made c.saturating_add.ensures (rw front at stepped);
    })

pub returns-in-Err : goal.returns-in-Err
returns-in-Err g c =
    let bs = c.args.bytes.now in
    let before = c.loop-step.invariant in
    let chunk = c.in-Some.ensures.steps.1 in
    let sized : length c.in-Some.step.now ≡ min 8 (length (chunks_rest c.loop-step.step-iterator)) = chunk.1 ∙ ap (λ n. min n (length (chunks_rest c.loop-step.step-iterator))) before.size in
    let front : c.in-Some.step.now ≡ step_bytes bs (length c.loop-step.yielded) = chunk_front _ _ _ chunk.0 sized ∙ ap (take 8) before.rest in
    record {
      steps = length c.loop-step.yielded;
      left = (let some = chunk.2 in let rest = ap length before.rest ∙ length-drop (length c.loop-step.yielded * 8) bs in omega arith);
      before = string_bytes c.loop-step.lines;
      last = c.loop-step.self;
      made = before.made;
      stopped = rw front at (rw c.in-Err.is at c.in_ok-try_step.ensures);
    }
