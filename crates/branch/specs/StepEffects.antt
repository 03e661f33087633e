-- What a step of the program does at the room: the calls that it makes in turn, each by what it answers and leaves, and what
-- they do to the carrier itself.
use Rattle.std.specs.Prelude.{◌≡◌, ℕ, [], ◌∷◌, Some, None, Ok, Err, Option, Result}
use Rattle.letters.specs.declared.job.Job.{Job}
use Rattle.letters.specs.declared.letter.Letter.{Letter}
use Rattle.letters.specs.Names.{name_of}
use Rattle.letters.specs.declared.refusal.Refusal.{Refusal}
use Rattle.letters.specs.Refusals.{reason_of}
use Rattle.carriers.specs.Meaning.{Meaning}
use Rattle.seats.specs.declared.docket_id.DocketId.{DocketId}
use Rattle.seats.specs.Outcomes.{take_as_answer}
use Rattle.lives.specs.declared.operation.Operation.{Operation}
use Rattle.lives.specs.declared.operation.Operation.TheVariants.{Collect, Park, Post, Send, Show, Take}
use Rattle.lives.specs.Traces.{Trace, docket, done, refused, showed, step_with_answer, taken}
use Rattle.lives.specs.Reachability.{Execution}
use Rattle.rooms.specs.Serving.{Serves}
use Rattle.branch.specs.declared.step.Call.{Call}
use Rattle.branch.specs.declared.step.Call.TheVariants as calls
use Rattle.branch.specs.declared.outcome.Outcome.{Outcome}
use Rattle.branch.specs.declared.outcome.Outcome.TheVariants as outcomes
use Rattle.branch.specs.declared.session.Session.{Session}
use Rattle.branch.specs.Sessions.{configuration_at}

-- The calls on the room, with their answers and the newest first, by which a step has its outcome; none where it cannot have it.
-- A post or a collect answers a docket, which is sent, and parked where that is refused.
abbrev pub docket_calls : Operation Job DocketId → Result Outcome Refusal → Option (Trace Job)
docket_calls operation (Ok (outcomes.Sent d)) = Some (step_with_answer (Send d) done ∷ step_with_answer operation (docket d) ∷ [])
docket_calls operation (Ok (outcomes.Parked d why)) =
    Some (step_with_answer (Park d) done ∷ step_with_answer (Send d) (refused (reason_of why)) ∷ step_with_answer operation (docket d) ∷ [])
docket_calls operation (Ok (outcomes.Taken t)) = None
docket_calls operation (Ok (outcomes.Shown id)) = None
docket_calls operation (Err why) = Some (step_with_answer operation (refused (reason_of why)) ∷ [])

abbrev pub take_calls : Operation Job DocketId → Result Outcome Refusal → Option (Trace Job)
take_calls operation (Ok (outcomes.Sent d)) = None
take_calls operation (Ok (outcomes.Parked d why)) = None
take_calls operation (Ok (outcomes.Taken t)) = Some (step_with_answer operation (taken (take_as_answer t).0 (take_as_answer t).1) ∷ [])
take_calls operation (Ok (outcomes.Shown id)) = None
take_calls operation (Err why) = Some (step_with_answer operation (refused (reason_of why)) ∷ [])

abbrev pub show_calls : Operation Job DocketId → Result Outcome Refusal → Option (Trace Job)
show_calls operation (Ok (outcomes.Sent d)) = None
show_calls operation (Ok (outcomes.Parked d why)) = None
show_calls operation (Ok (outcomes.Taken t)) = None
show_calls operation (Ok (outcomes.Shown id)) = Some (step_with_answer operation (showed (name_of id)) ∷ [])
show_calls operation (Err why) = Some (step_with_answer operation (refused (reason_of why)) ∷ [])

-- C is the carrier, of which `meaning` says what it means, `puts` what one put of it does, and `rests` what a refusal of its own leaves
module _ {C : Type 0} (meaning : C → Meaning (Letter Job)) (puts : C → Letter Job → C → Type 0) (rests : C → C → Type 0) where
  -- these calls led from one configuration of the session to the other; of its carrier, the letter of each accepted send was put, once, in
  -- their order, and nothing else was
  pub record Driven (trace : Trace Job) (d d' : Session C) : Type 0 where
    pub path : Execution (configuration_at meaning d) trace (configuration_at meaning d')
    pub serves : Serves meaning puts rests d.carrier trace d'.carrier

  -- a docket that is out: its letter is sent, or parked where that is refused
  abbrev pub Dispatched : DocketId → Session C → Outcome → Session C → Type 0
  Dispatched docket_id d (outcomes.Sent sent) d' = (sent ≡ docket_id) × Driven (step_with_answer (Send docket_id) done ∷ []) d d'
  Dispatched docket_id d (outcomes.Parked parked why) d' =
      (parked ≡ docket_id) × Driven (step_with_answer (Park docket_id) done ∷ step_with_answer (Send docket_id) (refused (reason_of why)) ∷ []) d d'
  Dispatched docket_id d (outcomes.Taken t) d' = ⊥
  Dispatched docket_id d (outcomes.Shown id) d' = ⊥

  -- the calls by which a step has its outcome were made
  abbrev pub CallsMade : Option (Trace Job) → Session C → Session C → Type 0
  CallsMade (Some trace) d d' = Driven trace d d'
  CallsMade None d d' = ⊥

  -- a step and its outcome; a post of a bad form leaves all as it was
  abbrev pub StepEffect : ℕ → Call → Session C → Result Outcome Refusal → Session C → Type 0
  StepEffect s (calls.Post (Ok job)) d outcome d' = CallsMade (docket_calls (Post s job) outcome) d d'
  StepEffect s (calls.Post (Err why)) d outcome d' = (outcome ≡ Err why) × (d' ≡ d)
  StepEffect s calls.Collect d outcome d' = CallsMade (docket_calls (Collect s) outcome) d d'
  StepEffect s (calls.Take place) d outcome d' = CallsMade (take_calls (Take s place) outcome) d d'
  StepEffect s calls.Show d outcome d' = CallsMade (show_calls (Show s) outcome) d d'
