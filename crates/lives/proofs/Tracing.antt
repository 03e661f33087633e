-- Steps made one after the other, and the trace of them.
use Rattle.std.proofs.Common.{◌≡◌, ℕ, zero, suc, ◌+◌, ◌<◌, ◌≤◌, List, [], ◌∷◌, ◌++◌, length, get_or, take, set, sym, refl, ap, ◌∙◌, subst, arith}
use Rattle.std.proofs.lemmas.List.{get_or-set_same, take-set-le, length-set}
use Rattle.seats.specs.declared.docket_id.DocketId.{DocketId}
use Rattle.lives.specs.declared.operation.Operation.{Operation}
use Rattle.lives.specs.Traces.{Answer, Trace, step_with_answer, trace_after}
use Rattle.lives.specs.Reachability.{Configuration, Execution, Reachable, RoomStep, further, nowhere}

-- one way after another
leads_after : {B : Type 0} {from w : Configuration B} {past : Trace B} → Execution from past w → {trace : Trace B} {w' : Configuration B} → Execution w trace w' → Execution from (trace ++ past) w'
leads_after before nowhere = before
leads_after before (further led step) = further (leads_after before led) step

-- where steps led from a reachable room is reachable by these too
pub worked_more : {B : Type 0} {past trace : Trace B} {w w' : Configuration B} → Reachable past w → Execution w trace w' → Reachable (trace ++ past) w'
worked_more was led = record { first = was.first; opened = was.opened; led = leads_after was.led led }

module _ {B X : Type 0} (f : X → Answer) where
  -- one step more
  traced_more : (past : Trace B) (steps : List (Operation B DocketId)) (answers : List X) (i : ℕ) (operation : Operation B DocketId) (answer : X) → i < length steps → i < length answers
      → operation ≡ get_or steps i operation → answer ≡ get_or answers i answer
      → trace_after f past (take (suc i) steps) (take (suc i) answers) ≡ step_with_answer operation (f answer) ∷ trace_after f past (take i steps) (take i answers)
  traced_more past [] answers i operation answer l k e g = absurd (omega arith)
  traced_more past (x ∷ steps) [] i operation answer l k e g = absurd (omega arith)
  traced_more past (x ∷ steps) (y ∷ answers) zero operation answer l k e g = λ j. step_with_answer (sym e j) (f (sym g j)) ∷ past
  traced_more past (x ∷ steps) (y ∷ answers) (suc i) operation answer l k e g =
      traced_more (step_with_answer x (f y) ∷ past) steps answers i operation answer (omega arith) (omega arith) e g

  -- all the steps
  pub traced_all : (past : Trace B) (steps : List (Operation B DocketId)) (answers : List X) (i : ℕ) → length steps ≤ i
      → trace_after f past (take i steps) (take i answers) ≡ trace_after f past steps answers
  traced_all past [] answers zero l = refl
  traced_all past [] answers (suc i) l = refl
  traced_all past (x ∷ steps) answers zero l = absurd (omega arith)
  traced_all past (x ∷ steps) [] (suc i) l = refl
  traced_all past (x ∷ steps) (y ∷ answers) (suc i) l = traced_all (step_with_answer x (f y) ∷ past) steps answers i (omega arith)

  -- the trace of the first i steps and one more, once its answer is written down
  pub traced_next : (steps : List (Operation B DocketId)) (answers answers' : List X) (i : ℕ) (operation : Operation B DocketId) (answer : X)
      → i < length steps → i < length answers → operation ≡ get_or steps i operation → answers' ≡ set answers i answer
      → trace_after f [] (take (i + 1) steps) (take (i + 1) answers') ≡ step_with_answer operation (f answer) ∷ trace_after f [] (take i steps) (take i answers)
  traced_next steps answers answers' i operation answer l k e write =
      ap (λ (o : List X). trace_after f [] (take (i + 1) steps) (take (i + 1) o)) write
      ∙ ap (λ (n : ℕ). trace_after f [] (take n steps) (take n (set answers i answer))) next
      ∙ traced_more [] steps (set answers i answer) i operation answer l long e at
      ∙ ap (λ (o : List X). step_with_answer operation (f answer) ∷ trace_after f [] (take i steps) o) (take-set-le i answers i answer (omega arith))
    where
      at : answer ≡ get_or (set answers i answer) i answer
      at = sym (get_or-set_same answers i answer answer k)

      long : i < length (set answers i answer)
      long = simp length-set k

      next : i + 1 ≡ suc i
      next = omega arith

  -- where the first i steps led, one more leads on
  pub leads_next : (from : Configuration B) (steps : List (Operation B DocketId)) (answers answers' : List X) (i : ℕ) (operation : Operation B DocketId) (answer : X) (w w' : Configuration B)
      → Execution from (trace_after f [] (take i steps) (take i answers)) w → RoomStep operation w (f answer) w'
      → i < length steps → i < length answers → operation ≡ get_or steps i operation → answers' ≡ set answers i answer
      → Execution from (trace_after f [] (take (i + 1) steps) (take (i + 1) answers')) w'
  leads_next from steps answers answers' i operation answer w w' led step l k e write =
      subst (λ (trace : Trace B). Execution from trace w') (sym (traced_next steps answers answers' i operation answer l k e write)) (further led step)

  -- and all of them in the end
  pub leads_all : (from : Configuration B) (steps : List (Operation B DocketId)) (answers : List X) (i : ℕ) (w : Configuration B) → length steps ≤ i
      → Execution from (trace_after f [] (take i steps) (take i answers)) w → Execution from (trace_after f [] steps answers) w
  leads_all from steps answers i w l led = subst (λ (trace : Trace B). Execution from trace w) (traced_all [] steps answers i l) led

  -- steps after a past
  traced_past : (past later : Trace B) (steps : List (Operation B DocketId)) (answers : List X) → trace_after f (past ++ later) steps answers ≡ trace_after f past steps answers ++ later
  traced_past past later [] answers = refl
  traced_past past later (x ∷ steps) [] = refl
  traced_past past later (x ∷ steps) (y ∷ answers) = traced_past (step_with_answer x (f y) ∷ past) later steps answers
