-- The steps of the program lead on and on.
use Rattle.std.proofs.Common.{◌≡◌, ℕ, ◌+◌, Bool, true, false, cond, List, [], ◌∷◌, ◌++◌, map, length, Some, None, Ok, Err, Option, Result, ◌==◌, sym, refl, ap, ◌∙◌, subst}
use Rattle.std.proofs.lemmas.Bool.{eqb-true}
use Rattle.std.proofs.lemmas.List.{map-append}
use Rattle.letters.specs.declared.job.Job.{Job}
use Rattle.letters.specs.declared.letter.Letter.{Letter}
use Rattle.letters.specs.declared.refusal.Refusal.{Refusal}
use Rattle.letters.specs.Letters.{letter_name}
use Rattle.letters.specs.Names.{Name}
use Rattle.carriers.specs.Meaning.{Meaning}
use Rattle.carriers.specs.Serving.{Served, nothing, one_draw, one_no, one_put}
use Rattle.seats.specs.declared.docket_id.DocketId.{DocketId}
use Rattle.lives.specs.declared.operation.Operation.{Operation}
use Rattle.lives.specs.declared.operation.Operation.TheVariants as operations
use Rattle.lives.specs.declared.operation.Operation.TheVariants.{Collect, Post, Show, Take}
use Rattle.lives.specs.Traces as traces
use Rattle.lives.specs.Traces.{Answer, Trace, names_sent, sent_after, step_with_answer}
use Rattle.lives.specs.Reachability.{Configuration, Execution, RoomStep, further, nowhere}
use Rattle.rooms.specs.Calls.{CarrierStep}
use Rattle.rooms.specs.Serving.{Serves}
use Rattle.rooms.proofs.Serving.{serves_on}
use Rattle.branch.specs.declared.session.Session.{Session}
use Rattle.branch.specs.declared.step.Call.{Call}
use Rattle.branch.specs.declared.step.Call.TheVariants as calls
use Rattle.branch.specs.declared.outcome.Outcome.{Outcome}
use Rattle.branch.specs.declared.step.NoStep.{NoStep}
use Rattle.branch.specs.declared.step.Step as steps
use Rattle.branch.specs.Sessions.{configuration_at}
use Rattle.branch.specs.StepRuns.{MadeSteps, Ran, Stepped, more, next_step_index, none, step_bytes}
use Rattle.branch.specs.ProgramSteps.{StepContent, bad, content_of_call, content_of_step, step_of}
use Rattle.branch.specs.StepEffects.{CallsMade, Driven, StepEffect, docket_calls, show_calls, take_calls}

leads_on : {a b c : Configuration Job} {t u : Trace Job} → Execution a t b → Execution b u c → Execution a (u ++ t) c
leads_on first nowhere = first
leads_on first (further led step) = further (leads_on first led) step

-- what a step sent stands in front of what was sent before it
answer_sent : (d : DocketId) (answer : Answer) (a b : List Name) → traces.by_send d answer (a ++ b) ≡ traces.by_send d answer a ++ b
answer_sent d (traces.docket other) a b = refl
answer_sent d traces.done a b = refl
answer_sent d (traces.taken how i) a b = refl
answer_sent d (traces.showed i) a b = refl
answer_sent d (traces.refused why) a b = refl

step_sent : (operation : Operation Job DocketId) (answer : Answer) (a b : List Name) → sent_after operation answer (a ++ b) ≡ sent_after operation answer a ++ b
step_sent (operations.Post s body) answer a b = refl
step_sent (operations.Send d) answer a b = answer_sent d answer a b
step_sent (operations.Park d) answer a b = refl
step_sent (operations.Collect s) answer a b = refl
step_sent (operations.Take s place) answer a b = refl
step_sent (operations.Show s) answer a b = refl

sent_both : (u t : Trace Job) → names_sent (u ++ t) ≡ names_sent u ++ names_sent t
sent_both [] t = refl
sent_both (x ∷ u) t = ap (sent_after x.operation x.answer) (sent_both u t) ∙ step_sent x.operation x.answer (names_sent u) (names_sent t)

module _ {C : Type 0} (meaning : C → Meaning (Letter Job)) (puts : C → Letter Job → C → Type 0) (rests : C → C → Type 0) where
  served_more : {a b c : C} {ls ms : List (Letter Job)} → Served meaning puts rests a ls b → Served meaning puts rests b ms c → Served meaning puts rests a (ms ++ ls) c
  served_more was nothing = was
  served_more was (one_put before put) = one_put (served_more was before) put
  served_more was (one_draw before draw) = one_draw (served_more was before) draw
  served_more was (one_no before rest) = one_no (served_more was before) rest

  unserved : (c : C) → Serves meaning puts rests c [] c
  unserved c = record { letters = []; served = nothing; named = refl }

  serves_more : {a b c : C} (t u : Trace Job) → Serves meaning puts rests a t b → Serves meaning puts rests b u c → Serves meaning puts rests a (u ++ t) c
  serves_more t u first then' = record {
    letters = then'.letters ++ first.letters;
    served = served_more first.served then'.served;
    named = map-append letter_name then'.letters first.letters ∙ ap (λ (l : List Name). l ++ map letter_name first.letters) then'.named
        ∙ ap (λ (l : List Name). names_sent u ++ l) first.named ∙ sym (sent_both u t);
  }

  -- no call
  pub idle : (d : Session C) → Driven meaning puts rests [] d d
  idle d = record { path = nowhere; serves = unserved d.carrier }

  -- one call, by what it answers and leaves and by what it does to the carrier
  pub one_call : (operation : Operation Job DocketId) (answer : Answer) (d d' : Session C) → RoomStep operation (configuration_at meaning d) answer (configuration_at meaning d')
      → CarrierStep puts rests operation (configuration_at meaning d) d.carrier d'.carrier → Driven meaning puts rests (step_with_answer operation answer ∷ []) d d'
  one_call operation answer d d' step carried = record {
    path = further nowhere step;
    serves = serves_on meaning puts rests d.carrier d'.carrier operation (configuration_at meaning d) (configuration_at meaning d') answer refl refl step carried d.carrier [] (unserved d.carrier);
  }

  -- further calls
  pub driven_on : {t u : Trace Job} {a b c : Session C} → Driven meaning puts rests t a b → Driven meaning puts rests u b c → Driven meaning puts rests (u ++ t) a c
  driven_on {t} {u} first then' = record { path = leads_on first.path then'.path; serves = serves_more t u first.serves then'.serves }

  -- some calls
  pub record Led (d d' : Session C) : Type 0 where
    pub trace : Trace Job
    pub driven : Driven meaning puts rests trace d d'

  led_nowhere : (d : Session C) → Led d d
  led_nowhere d = record { trace = []; driven = idle d }

  led_on : {a b c : Session C} → Led a b → Led b c → Led a c
  led_on first then' = record { trace = then'.trace ++ first.trace; driven = driven_on first.driven then'.driven }

  follows_led : (calls : Option (Trace Job)) (d d' : Session C) → CallsMade meaning puts rests calls d d' → Led d d'
  follows_led (Some trace) d d' driven = record { trace = trace; driven = driven }
  follows_led None d d' driven = absurd driven

  -- a step leads on
  turn_led : (s : ℕ) (call : Call) (d : Session C) (o : Result Outcome Refusal) (d' : Session C) → StepEffect meaning puts rests s call d o d' → Led d d'
  turn_led s (calls.Post (Ok job)) d o d' turn = follows_led (docket_calls (Post s job) o) d d' turn
  turn_led s (calls.Post (Err why)) d o d' turn = subst (Led d) (sym turn.1) (led_nowhere d)
  turn_led s calls.Collect d o d' turn = follows_led (docket_calls (Collect s) o) d d' turn
  turn_led s (calls.Take place) d o d' turn = follows_led (take_calls (Take s place) o) d d' turn
  turn_led s calls.Show d o d' turn = follows_led (show_calls (Show s) o) d d' turn

  made_led : {bs : List ℕ} {n : ℕ} {start : List ℕ} {d : Session C} {i index : ℕ} {lines : List ℕ} {e : Session C} → MadeSteps (StepEffect meaning puts rests) bs n start d i index lines e → Led d e
  made_led none = led_nowhere _
  made_led (more before step) = led_on (made_led before) (turn_led step.step.seat step.step.call _ step.outcome _ step.turn)

  -- whatever was read, the steps lead on
  pub ran_led : (step_with_answer : Result (Unit {0}) NoStep) (bs : List ℕ) (n : ℕ) (start : List ℕ) (d : Session C) (index : ℕ) (lines : List ℕ) (d' : Session C)
      → Ran (StepEffect meaning puts rests) step_with_answer bs n start d index lines d' → Led d d'
  ran_led (Ok done) bs n start d index lines d' ran = made_led ran.made
  ran_led (Err stop) bs n start d index lines d' ran = subst (Led d) (sym ran.stopped.session) (made_led ran.made)

-- one step more
pub made_more : {D : Type 0} {turns : ℕ → Call → D → Result Outcome Refusal → D → Type 0} {bs : List ℕ} {n : ℕ} {start : List ℕ} {d : D} {i index index' : ℕ} {lines lines' : List ℕ} {e e' : D}
    → MadeSteps turns bs n start d i index lines e → index' ≡ next_step_index index → Stepped turns (step_bytes bs i) index lines e lines' e' → MadeSteps turns bs n start d (i + 1) index' lines' e'
made_more {turns} {bs} {n} {start} {d} {i} {lines'} {e'} made' next step = subst (λ k. MadeSteps turns bs n start d (i + 1) k lines' e') (sym next) (more made' step)

-- only eight bytes are a step
not_bad : (seat : ℕ) (call : Call) → ¬ (content_of_call seat call ≡ bad)
not_bad seat (calls.Post (Ok job)) e = cc
not_bad seat (calls.Post (Err why)) e = cc
not_bad seat calls.Collect e = cc
not_bad seat (calls.Take place) e = cc
not_bad seat calls.Show e = cc

tested : (test : Bool) (seat : ℕ) (call : Call) (brought : StepContent) → content_of_call seat call ≡ cond test brought bad → test ≡ true
tested true seat call brought e = refl
tested false seat call brought e = absurd (not_bad seat call e)

pub eight : (step : steps.Step) (bs : List ℕ) → content_of_step (Ok step) ≡ step_of bs → length bs ≡ 8
eight step bs read = eqb-true (length bs) 8 (tested (length bs == 8) step.seat step.call _ read)
