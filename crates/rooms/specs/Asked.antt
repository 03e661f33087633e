-- A step with a docket in hand, and its answer, as they stand in a trace: by the numbers of the docket.
use Rattle.std.specs.Prelude.{List, Some, None, Ok, Err, Option, Result}
use Rattle.letters.specs.declared.letter.Letter.{Letter}
use Rattle.letters.specs.Refusals.{reason_of}
use Rattle.carriers.specs.declared.carrier.Carrier.{Ghosts}
use Rattle.seats.specs.declared.docket_id.DocketId.{DocketId}
use Rattle.lives.specs.declared.operation.Operation.{Operation}
use Rattle.lives.specs.declared.operation.Operation.TheVariants as operations
use Rattle.lives.specs.declared.response.Response.{Response}
use Rattle.lives.specs.Traces as traces
use Rattle.lives.specs.Reachability.{StaysReachable}
use Rattle.rooms.specs.declared.declined.Declined.{Declined}
use Rattle.rooms.specs.declared.docket.Docket.{Docket}
use Rattle.rooms.specs.declared.room.Room.{Room}
use Rattle.rooms.specs.States.{id_of}
use Rattle.rooms.specs.WithCarrier.{StepMade, room_configuration}

-- what is asked
abbrev pub operation_of : {B : Type 0} → Operation B Docket → Operation B DocketId
operation_of (operations.Post s body) = operations.Post s body
operation_of (operations.Send d) = operations.Send (id_of d)
operation_of (operations.Park d) = operations.Park (id_of d)
operation_of (operations.Collect s) = operations.Collect s
operation_of (operations.Take s place) = operations.Take s place
operation_of (operations.Show s) = operations.Show s

-- what is answered: the case, with its values or its number
abbrev pub response_as_answer : Result (Response Docket) Declined → traces.Answer
response_as_answer (Ok response) = traces.answer_of_response id_of response
response_as_answer (Err back) = traces.refused (reason_of back.refusal)

-- the docket that a step brings
abbrev pub docket_brought : {B : Type 0} → Operation B Docket → Option Docket
docket_brought (operations.Post s body) = None
docket_brought (operations.Send d) = Some d
docket_brought (operations.Park d) = Some d
docket_brought (operations.Collect s) = None
docket_brought (operations.Take s place) = None
docket_brought (operations.Show s) = None

-- the docket that comes back
abbrev pub docket_returned : Result (Response Docket) Declined → Option Docket
docket_returned (Ok response) = None
docket_returned (Err back) = back.docket

-- where the step is refused, the docket that was brought comes back, and none otherwise
abbrev pub docket_to_return : Option Docket → traces.Answer → Option Docket
docket_to_return d (traces.docket docket_id) = None
docket_to_return d traces.done = None
docket_to_return d (traces.taken how i) = None
docket_to_return d (traces.showed i) = None
docket_to_return d (traces.refused why) = d

-- C is the carrier, of which `carrier` says what it means
module _ {C B : Type 0} (carrier : Ghosts C B) where
  -- the step that was asked, with what it answered, and what it left of the room, its tables and its carrier
  abbrev pub AskedStep : Operation B Docket → Room → List (Letter B) → List (Letter B) → C → Result (Response Docket) Declined
      → Room → List (Letter B) → List (Letter B) → C → Type 0
  AskedStep asked r logs holds c result r' logs' holds' c' =
      StepMade carrier (operation_of asked) r logs holds c (response_as_answer result) r' logs' holds' c'

  -- by whatever steps the room was reachable before, after the step that was asked it is reachable by those and this one
  abbrev pub AskedStaysReachable : Operation B Docket → Room → List (Letter B) → List (Letter B) → C → Result (Response Docket) Declined
      → Room → List (Letter B) → List (Letter B) → C → Type 0
  AskedStaysReachable asked r logs holds c result r' logs' holds' c' =
      StaysReachable (operation_of asked) (room_configuration carrier r logs holds c) (response_as_answer result)
      (room_configuration carrier r' logs' holds' c')
