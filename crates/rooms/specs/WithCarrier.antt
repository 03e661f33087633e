-- What those steps do that need the carrier, by the room, its two letter tables and the carrier itself.
use Rattle.std.specs.Prelude.{ℕ, List, length, Result}
use Rattle.letters.specs.declared.letter.Letter.{Letter}
use Rattle.letters.specs.Names.{Name}
use Rattle.letters.specs.Refusals.{Reason}
use Rattle.carriers.specs.declared.carrier.Carrier.{Ghosts}
use Rattle.carriers.specs.Meaning.{draw_answer}
use Rattle.seats.specs.declared.seat.DocketEvent.TheVariants.{Send}
use Rattle.seats.specs.declared.docket_id.DocketId.{DocketId}
use Rattle.seats.specs.Outcomes.{DrawRests, PutOf, PutsOnce, TakeKind, TakeLeaves, carrier_check, docket_room, send_answer, send_letter, take_check}
use Rattle.seats.specs.Rooms.{RoomState}
use Rattle.lives.specs.declared.operation.Operation.{Operation}
use Rattle.lives.specs.Traces.{Answer}
use Rattle.lives.specs.Reachability.{Configuration, RoomStep, configuration_of}
use Rattle.rooms.specs.declared.room.Room.{Room}
use Rattle.rooms.specs.Calls.{CarrierStep}
use Rattle.rooms.specs.States.{state}

-- C is the carrier, of which `carrier` says what it means, what one put of it does, and what a refusal of its own leaves
module _ {C B : Type 0} (carrier : Ghosts C B) where
  -- the configuration of a room with its tables and its carrier
  abbrev pub room_configuration : Room → List (Letter B) → List (Letter B) → C → Configuration B
  room_configuration r logs holds c = configuration_of (state r) logs holds (carrier.meaning c)

  -- what a send by the numbers of a docket answers
  abbrev pub send_outcome : Room → List (Letter B) → List (Letter B) → C → DocketId → Result (Unit {0}) Reason
  send_outcome r logs holds c d = send_answer (state r) logs (length holds) (carrier.meaning c) d

  -- the room after it: where the send is accepted, the docket of its seat is sent
  abbrev pub send_room : Room → List (Letter B) → List (Letter B) → C → DocketId → RoomState
  send_room r logs holds c d = docket_room (state r) d.seat Send (send_outcome r logs holds c d)

  -- a send puts the letter of its docket on the carrier once, or the carrier refuses the letter and rests; where the room
  -- refuses the send, the carrier is as it was
  abbrev pub SendPuts : Room → List (Letter B) → List (Letter B) → C → DocketId → C → Type 0
  SendPuts r logs holds c d c' =
      PutsOnce carrier.puts carrier.rests (send_letter (state r) logs (length holds) (carrier.meaning c).seats d)
      (send_outcome r logs holds c d) c c'

  -- what the carrier means after a send: an accepted one put the docket's letter there, and a refused one changed nothing
  abbrev pub SendLeaves : Room → List (Letter B) → List (Letter B) → C → DocketId → C → Type 0
  SendLeaves r logs holds c d c' =
      PutOf (carrier.meaning c) (send_letter (state r) logs (length holds) (carrier.meaning c).seats d)
      (send_outcome r logs holds c d) (carrier.meaning c')

  -- a take for a seat of the letter at a place: what it answers, and what it leaves of the room, its holds and its carrier
  abbrev pub TakeMade : ℕ → ℕ → Room → List (Letter B) → List (Letter B) → C → Result (TakeKind × Name) Reason
      → Room → List (Letter B) → C → Type 0
  TakeMade s place r logs holds c result r' holds' c' =
      TakeLeaves (take_check (state r) (length logs) (length holds) (carrier.meaning c) s place) (state r) holds (carrier.meaning c) s place
      result (state r') holds' (carrier.meaning c')

  -- what a refused take leaves of the carrier itself
  abbrev pub TakeRests : ℕ → ℕ → Room → List (Letter B) → List (Letter B) → C → C → Type 0
  TakeRests s place r logs holds c c' =
      DrawRests carrier.rests (carrier_check (state r) (length logs) (length holds) (carrier.meaning c).seats)
      (draw_answer (carrier.meaning c) s place) c c'

  -- one step, accepted or refused: what it answers, and what it leaves of the room, its tables and its carrier
  abbrev pub StepMade : Operation B DocketId → Room → List (Letter B) → List (Letter B) → C → Answer
      → Room → List (Letter B) → List (Letter B) → C → Type 0
  StepMade operation r logs holds c answer r' logs' holds' c' =
      RoomStep operation (room_configuration r logs holds c) answer (room_configuration r' logs' holds' c')

  -- what one step does to the carrier itself
  abbrev pub StepCarries : Operation B DocketId → Room → List (Letter B) → List (Letter B) → C → C → Type 0
  StepCarries operation r logs holds c c' = CarrierStep carrier.puts carrier.rests operation (room_configuration r logs holds c) c c'
