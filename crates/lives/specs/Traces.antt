-- What was asked of a room and what it answered, and what happened by that, without stamps.
use Rattle.std.specs.Prelude.{ℕ, List, [], ◌∷◌, Ok, Err, Result}
use Rattle.letters.specs.declared.refusal.Refusal.{Refusal}
use Rattle.letters.specs.Names.{Name, name_from, name_of}
use Rattle.letters.specs.Refusals.{Reason, reason_of}
use Rattle.causality.specs.History.{History, posted, shown}
use Rattle.seats.specs.declared.docket_id.DocketId.{DocketId}
use Rattle.seats.specs.Outcomes.{TakeKind, take_as_answer}
use Rattle.lives.specs.declared.operation.Operation.{Operation}
use Rattle.lives.specs.declared.operation.Operation.TheVariants as operations
use Rattle.lives.specs.declared.response.Response.{Response}
use Rattle.lives.specs.declared.response.Response.TheVariants as responses

-- what a step answers, as its caller sees it
pub data Answer : Type 0 where
  -- a docket, by post and collect
  docket : DocketId → Answer
  -- accepted, by send and park
  done : Answer
  -- stray, repeat or held, and which letter, by take
  taken : TakeKind → Name → Answer
  -- which letter, by show
  showed : Name → Answer
  refused : Reason → Answer

-- the answers of the calls
abbrev pub answer_with_docket : Result DocketId Reason → Answer
answer_with_docket (Ok d) = docket d
answer_with_docket (Err why) = refused why

abbrev pub answer_when_done : Result (Unit {0}) Reason → Answer
answer_when_done (Ok yes') = done
answer_when_done (Err why) = refused why

abbrev pub answer_with_take : Result (TakeKind × Name) Reason → Answer
answer_with_take (Ok t) = taken t.0 t.1
answer_with_take (Err why) = refused why

abbrev pub answer_with_show : Result Name Reason → Answer
answer_with_show (Ok i) = showed i
answer_with_show (Err why) = refused why

-- the answer of a step that was made; f gives the numbers of a docket
abbrev pub answer_of_response : {D : Type 0} → (D → DocketId) → Response D → Answer
answer_of_response f (responses.Docket d) = docket (f d)
answer_of_response f responses.Done = done
answer_of_response f (responses.Taken t) = taken (take_as_answer t).0 (take_as_answer t).1
answer_of_response f (responses.Shown id) = showed (name_of id)

-- an answer that a step gave by numbers
abbrev pub answer_of : Result (Response DocketId) Refusal → Answer
answer_of (Ok response) = answer_of_response (λ d. d) response
answer_of (Err why) = refused (reason_of why)

-- a step that was made, with its answer
pub record TraceStep (B : Type 0) : Type 0 where
  pub operation : Operation B DocketId
  pub answer : Answer

-- a run's trace: the steps that were made, the newest first
abbrev pub Trace : Type 0 → Type 0
Trace B = List (TraceStep B)

-- a letter as its poster gave it: its name and its body
pub record Posting (B : Type 0) : Type 0 where
  pub name : Name
  pub body : B

-- an accepted post posted a letter, whose number is in the docket
abbrev pub by_post : ℕ → Answer → History Name → History Name
by_post s (docket d) past = posted s (name_from s d.number) ∷ past
by_post s done past = past
by_post s (taken how i) past = past
by_post s (showed i) past = past
by_post s (refused why) past = past

-- an accepted show showed the letter that it answers
abbrev pub by_show : ℕ → Answer → History Name → History Name
by_show s (docket d) past = past
by_show s done past = past
by_show s (taken how i) past = past
by_show s (showed i) past = shown s i ∷ past
by_show s (refused why) past = past

-- an accepted send put the letter that its docket names
abbrev pub by_send : DocketId → Answer → List Name → List Name
by_send d (docket other) past = past
by_send d done past = name_from d.seat d.number ∷ past
by_send d (taken how i) past = past
by_send d (showed i) past = past
by_send d (refused why) past = past

module _ {B : Type 0} where
  abbrev pub step_with_answer : Operation B DocketId → Answer → TraceStep B
  step_with_answer operation answer = record { operation = operation; answer = answer }

  -- the trace after these steps were made in turn; f gives the answers
  abbrev pub trace_after : {X : Type 0} → (X → Answer) → Trace B → List (Operation B DocketId) → List X → Trace B
  trace_after f past [] answers = past
  trace_after f past (operation ∷ later) [] = past
  trace_after f past (operation ∷ later) (answer ∷ answers) = trace_after f (step_with_answer operation (f answer) ∷ past) later answers

  abbrev pub posting_of : Name → B → Posting B
  posting_of i body = record { name = i; body = body }

  -- the events after one step more
  abbrev pub events_after : Operation B DocketId → Answer → History Name → History Name
  events_after (operations.Post s body) answer past = by_post s answer past
  events_after (operations.Send d) answer past = past
  events_after (operations.Park d) answer past = past
  events_after (operations.Collect s) answer past = past
  events_after (operations.Take s place) answer past = past
  events_after (operations.Show s) answer past = by_show s answer past

  -- what happened in a room: its events, by the names of the letters, the newest first
  abbrev pub events : Trace B → History Name
  events [] = []
  events (step ∷ trace) = events_after step.operation step.answer (events trace)

  -- the letter of an accepted post
  abbrev pub postings_with_post : ℕ → B → Answer → List (Posting B) → List (Posting B)
  postings_with_post s body (docket d) past = posting_of (name_from s d.number) body ∷ past
  postings_with_post s body done past = past
  postings_with_post s body (taken how i) past = past
  postings_with_post s body (showed i) past = past
  postings_with_post s body (refused why) past = past

  -- the posted letters after one step more
  abbrev pub postings_after : Operation B DocketId → Answer → List (Posting B) → List (Posting B)
  postings_after (operations.Post s body) answer past = postings_with_post s body answer past
  postings_after (operations.Send d) answer past = past
  postings_after (operations.Park d) answer past = past
  postings_after (operations.Collect s) answer past = past
  postings_after (operations.Take s place) answer past = past
  postings_after (operations.Show s) answer past = past

  -- the posted letters, the newest first
  abbrev pub postings : Trace B → List (Posting B)
  postings [] = []
  postings (step ∷ trace) = postings_after step.operation step.answer (postings trace)

  -- the letters that were sent, after one step more
  abbrev pub sent_after : Operation B DocketId → Answer → List Name → List Name
  sent_after (operations.Post s body) answer past = past
  sent_after (operations.Send d) answer past = by_send d answer past
  sent_after (operations.Park d) answer past = past
  sent_after (operations.Collect s) answer past = past
  sent_after (operations.Take s place) answer past = past
  sent_after (operations.Show s) answer past = past

  -- the letters of the accepted sends, by their names, the newest first
  abbrev pub names_sent : Trace B → List Name
  names_sent [] = []
  names_sent (step ∷ trace) = sent_after step.operation step.answer (names_sent trace)
