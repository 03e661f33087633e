-- Opening a draft and working the room by a list of steps: when it can be done, and what it does.
use Rattle.std.specs.Prelude.{ℕ, List, [], length, Result, nat_le}
use Rattle.letters.specs.declared.letter.Letter.{Letter}
use Rattle.letters.specs.declared.refusal.Refusal.{Refusal}
use Rattle.letters.specs.Refusals.{Reason, unless}
use Rattle.carriers.specs.declared.carrier.Carrier.{Ghosts}
use Rattle.carriers.specs.Meaning.{Meaning}
use Rattle.sheets.specs.declared.sheet.Sheet as sheets
use Rattle.seats.specs.declared.docket_id.DocketId.{DocketId}
use Rattle.lives.specs.declared.operation.Operation.{Operation}
use Rattle.lives.specs.declared.response.Response.{Response}
use Rattle.lives.specs.Guarantees.{GuaranteedThroughout, Guarantees}
use Rattle.lives.specs.Traces.{Trace, answer_of, trace_after}
use Rattle.lives.specs.Reachability.{Configuration, Execution, Reachable, configuration_of}
use Rattle.rooms.specs.declared.draft.Draft.{Draft}
use Rattle.rooms.specs.declared.room.Room.{Room}
use Rattle.rooms.specs.Drafts.{DraftState, open_check, opening_state, state_of_draft}
use Rattle.rooms.specs.Serving.{CarrierSteps, Serves}
use Rattle.rooms.specs.WithCarrier.{room_configuration}

-- there is a place for every response, and the room may open
abbrev pub run_check : {L : Type 0} → DraftState → ℕ → ℕ → Meaning L → ℕ → ℕ → Result (Unit {0}) Reason
run_check d logs holds c steps responses = unless (nat_le steps responses) 5 (open_check d logs holds c)

-- the responses of some steps, in their order
abbrev pub StepResponses : Type 0
StepResponses = List (Result (Response DocketId) Refusal)

-- the trace of the steps that were made in turn, with their responses
abbrev pub steps_trace : {B : Type 0} → List (Operation B DocketId) → StepResponses → Trace B
steps_trace steps responses = trace_after answer_of [] steps responses

-- C is the carrier, of which `carrier` says what it means, what one put of it does, and what a refusal of its own leaves
module _ {C B : Type 0} (carrier : Ghosts C B) where
  -- the same check, of a draft and all that is brought to its run
  abbrev pub run_answer : Draft → List (Letter B) → List (Letter B) → C → List (Operation B DocketId) → StepResponses → Result (Unit {0}) Reason
  run_answer d logs holds c steps responses =
      run_check (state_of_draft d) (length logs) (length holds) (carrier.meaning c) (length steps) (length responses)

  -- the configuration in which the room of a draft opens
  abbrev pub opening_configuration : Draft → List (Letter B) → List (Letter B) → C → Configuration B
  opening_configuration d logs holds c = configuration_of (opening_state (state_of_draft d)) logs holds (carrier.meaning c)

  -- the steps, each accepted or refused, led from one configuration of the room to another
  abbrev pub StepsPath : Room → List (Letter B) → List (Letter B) → C → List (Operation B DocketId) → StepResponses
      → Room → List (Letter B) → List (Letter B) → C → Type 0
  StepsPath r logs holds c steps responses r' logs' holds' c' =
      Execution (room_configuration carrier r logs holds c) (steps_trace steps responses) (room_configuration carrier r' logs' holds' c')

  -- and took the carrier itself along, each doing to it what such a step does, and nothing else
  abbrev pub StepsCarry : Room → List (Letter B) → List (Letter B) → C → List (Operation B DocketId) → StepResponses
      → Room → List (Letter B) → List (Letter B) → C → Type 0
  StepsCarry r logs holds c steps responses r' logs' holds' c' =
      CarrierSteps carrier.meaning carrier.puts carrier.rests (room_configuration carrier r logs holds c) c (steps_trace steps responses)
      (room_configuration carrier r' logs' holds' c') c'

  -- the configuration after these steps is reachable by them
  abbrev pub StepsReach : List (Operation B DocketId) → StepResponses → Room → List (Letter B) → List (Letter B) → C → Type 0
  StepsReach steps responses r logs holds c = Reachable (steps_trace steps responses) (room_configuration carrier r logs holds c)

  -- of the carrier itself: the letter of each accepted send was put on it once, and nothing else was
  abbrev pub StepsServe : C → List (Operation B DocketId) → StepResponses → C → Type 0
  StepsServe c steps responses c' = Serves carrier.meaning carrier.puts carrier.rests c (steps_trace steps responses) c'

  -- the steps of a whole run led from the opening of the draft's room to its last configuration
  abbrev pub RunPath : Draft → List (Letter B) → List (Letter B) → C → List (Operation B DocketId) → StepResponses
      → Room → List (Letter B) → List (Letter B) → C → Type 0
  RunPath d logs holds c steps responses r logs' holds' c' =
      Execution (opening_configuration d logs holds c) (steps_trace steps responses) (room_configuration carrier r logs' holds' c')

  -- and took the carrier itself along from that opening on, each doing to it what such a step does, and nothing else
  abbrev pub RunCarries : Draft → List (Letter B) → List (Letter B) → C → List (Operation B DocketId) → StepResponses
      → Room → List (Letter B) → List (Letter B) → C → Type 0
  RunCarries d logs holds c steps responses r logs' holds' c' =
      CarrierSteps carrier.meaning carrier.puts carrier.rests (opening_configuration d logs holds c) c (steps_trace steps responses)
      (room_configuration carrier r logs' holds' c') c'

-- what is guaranteed for a kind of sheet after these steps
abbrev pub StepsGuarantee : {K C B : Type 0} → sheets.Ghosts K B → Ghosts C B → List (Operation B DocketId) → StepResponses
    → Room → List (Letter B) → List (Letter B) → C → Type 0
StepsGuarantee sheet carrier steps responses r logs holds c =
    Guarantees sheet.kind (steps_trace steps responses) (room_configuration carrier r logs holds c)

-- and after each step of a run
abbrev pub RunPromises : {K C B : Type 0} → sheets.Ghosts K B → Ghosts C B → Draft → List (Letter B) → List (Letter B) → C
    → List (Operation B DocketId) → StepResponses → Room → List (Letter B) → List (Letter B) → C → Type 0
RunPromises sheet carrier d logs holds c steps responses r logs' holds' c' =
    GuaranteedThroughout sheet.kind (opening_configuration carrier d logs holds c) (steps_trace steps responses)
    (room_configuration carrier r logs' holds' c')
