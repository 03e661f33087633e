-- What the calls on a room leave.
use Rattle.std.specs.Prelude.{◌≡◌, ℕ, List, length, Some, None, Ok, Err, Option, Result, slice_index_or}
use Rattle.letters.specs.declared.letter.Letter.{Letter}
use Rattle.letters.specs.Letters.{letter_name}
use Rattle.letters.specs.Names.{Name}
use Rattle.letters.specs.Order.{Ready}
use Rattle.letters.specs.Refusals.{Reason, plain}
use Rattle.carriers.specs.Meaning.{Drawn, Meaning, draw_answer}
use Rattle.seats.specs.declared.docket_id.DocketId.{DocketId}
use Rattle.seats.specs.Outcomes.{DrawRests, PutsOnce, after_answer, carrier_check, room_with_post}
use Rattle.seats.specs.Rooms.{RoomState, hold_of, seat_at}
use Rattle.seats.specs.Scans.{FirstSuch}
use Rattle.seats.specs.Seats.{clock_at}
use Rattle.lives.specs.declared.operation.Operation.{Operation}
use Rattle.lives.specs.declared.operation.Operation.TheVariants as operations
use Rattle.lives.specs.Reachability.{Configuration, letter_at, send_at}

-- the room after a post
abbrev pub post_room : RoomState → Result DocketId Reason → ℕ → RoomState
post_room st answer s = after_answer answer (λ d. room_with_post st s) st

-- a letter that is taken off a carrier stood at its place there; where the draw is refused, the carrier is as it was
abbrev pub Draws : {L E : Type 0} → Result L E → Meaning L → ℕ → ℕ → Meaning L → Type 0
Draws (Ok m) c s place c' = Drawn c s place c' × (m ≡ slice_index_or (c.waiting s) place m)
Draws (Err why) c s place c' = c' ≡ c

-- what a step does to the carrier itself, C, of which `puts` says what one put does, and `rests` what a refusal of its own leaves:
-- a send puts the docket's letter once, or leaves the carrier as it was where there is none to put; a take that is refused before
-- it draws leaves the carrier as it was; where the carrier itself refuses, it rests; no other step touches it
abbrev pub CarrierStep : {B C : Type 0} → (C → Letter B → C → Type 0) → (C → C → Type 0) → Operation B DocketId → Configuration B → C → C → Type 0
CarrierStep puts rests (operations.Post s body) w c c' = c' ≡ c
CarrierStep puts rests (operations.Send d) w c c' = PutsOnce puts rests (letter_at w d) (send_at w d) c c'
CarrierStep puts rests (operations.Park d) w c c' = c' ≡ c
CarrierStep puts rests (operations.Collect s) w c c' = c' ≡ c
CarrierStep puts rests (operations.Take s place) w c c' =
    DrawRests rests (carrier_check w.room (length w.logs) (length w.holds) w.carrier.seats) (draw_answer w.carrier s place) c c'
CarrierStep puts rests (operations.Show s) w c c' = c' ≡ c

-- the first letter of the hold that is ready at the seat, with its place; or none is
abbrev pub FirstHeldReady : {B : Type 0} → RoomState → List (Letter B) → ℕ → Option (ℕ × Letter B) → Type 0
FirstHeldReady st holds s found = FirstSuch (Ready st.count st.quota s (clock_at (seat_at st s))) (hold_of st holds s) found

-- a show answers the name of the first held letter that is ready, and 15 only where none is
abbrev pub ShowsReady : {B : Type 0} → RoomState → List (Letter B) → ℕ → Result Name Reason → Type 0
ShowsReady {B} st holds s (Ok i) = (found : ℕ × Letter B) × FirstHeldReady st holds s (Some found) × (letter_name found.1 ≡ i)
ShowsReady st holds s (Err why) = why ≡ plain 15 → FirstHeldReady st holds s None
