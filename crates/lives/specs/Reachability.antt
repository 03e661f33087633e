-- A room with its tables and its carrier, from its opening on: each step by what its call answers and leaves.
use Rattle.std.specs.Prelude.{◌≡◌, ℕ, ◌*◌, ◌≤◌, List, [], ◌∷◌, length, replicate, Result}
use Rattle.letters.specs.declared.letter.Letter.{Letter}
use Rattle.letters.specs.Names.{Name}
use Rattle.letters.specs.Refusals.{Reason}
use Rattle.carriers.specs.Meaning.{Empty, LawfulMeaning, Meaning}
use Rattle.seats.specs.declared.seat.DocketEvent.TheVariants.{Send, Park, Collect}
use Rattle.seats.specs.declared.docket_id.DocketId.{DocketId}
use Rattle.seats.specs.Outcomes.{PostLogs, PutOf, TakeKind, TakeLeaves, after_answer, collect_answer, docket_room, park_answer, post_answer, room_with_post, send_answer, send_letter, show_answer, show_holds, show_logs, show_outcome, show_room, take_check}
use Rattle.seats.specs.Rooms.{RoomState, start}
use Rattle.seats.specs.Seats.{fresh}
use Rattle.lives.specs.declared.operation.Operation.{Operation}
use Rattle.lives.specs.declared.operation.Operation.TheVariants as operations
use Rattle.lives.specs.Traces.{Answer, Trace, answer_when_done, answer_with_docket, answer_with_show, answer_with_take, step_with_answer}

-- a room at one moment (a configuration): what it holds, the two letter tables that are brought to it, and what its
-- carrier means
pub record Configuration (B : Type 0) : Type 0 where
  pub room : RoomState
  pub logs : List (Letter B)
  pub holds : List (Letter B)
  pub carrier : Meaning (Letter B)

module _ {B : Type 0} where
  abbrev pub configuration_of : RoomState → List (Letter B) → List (Letter B) → Meaning (Letter B) → Configuration B
  configuration_of st logs holds c = record { room = st; logs = logs; holds = holds; carrier = c }

  -- a room as it opens
  pub record InitialConfiguration (w : Configuration B) : Type 0 where
    pub some_seats : 1 ≤ w.room.count
    pub few_seats : w.room.count ≤ 16
    pub some_quota : 1 ≤ w.room.quota
    pub few_letters : w.room.count * w.room.quota ≤ 256
    -- nothing has happened at any seat
    pub seats : w.room.seats ≡ replicate 16 fresh
    -- both tables have all places
    pub logs : start w.room w.room.count ≤ length w.logs
    pub holds : start w.room w.room.count ≤ length w.holds
    -- the carrier serves the room's seats, and nothing waits
    pub served : w.carrier.seats ≡ w.room.count
    pub lawful : LawfulMeaning w.carrier
    pub empty : Empty w.carrier

  -- what a post answers, what there is to send and what a send answers, whether a take may draw, what there is to show
  abbrev pub post_at : Configuration B → ℕ → Result DocketId Reason
  post_at w s = post_answer w.room (length w.logs) (length w.holds) s

  abbrev pub letter_at : Configuration B → DocketId → Result (Letter B) Reason
  letter_at w d = send_letter w.room w.logs (length w.holds) w.carrier.seats d

  abbrev pub send_at : Configuration B → DocketId → Result (Unit {0}) Reason
  send_at w d = send_answer w.room w.logs (length w.holds) w.carrier d

  abbrev pub take_at : Configuration B → ℕ → ℕ → Result (Unit {0}) Reason
  take_at w s place = take_check w.room (length w.logs) (length w.holds) w.carrier s place

  abbrev pub show_at : Configuration B → ℕ → Result (ℕ × Letter B) Reason
  show_at w s = show_outcome w.room (length w.logs) w.holds s

  -- what a post at seat s answers, and what it leaves
  pub record PostStep (s : ℕ) (body : B) (w : Configuration B) (answer : Answer) (w' : Configuration B) : Type 0 where
    pub answers : answer ≡ answer_with_docket (post_at w s)
    pub room : w'.room ≡ after_answer (post_at w s) (λ d. room_with_post w.room s) w.room
    pub logs : PostLogs w.room (post_at w s) s body w.logs w'.logs
    pub holds : w'.holds ≡ w.holds
    pub carrier : w'.carrier ≡ w.carrier

  -- the same of a send: the docket's letter goes on the carrier
  pub record SendStep (d : DocketId) (w : Configuration B) (answer : Answer) (w' : Configuration B) : Type 0 where
    pub answers : answer ≡ answer_when_done (send_at w d)
    pub room : w'.room ≡ docket_room w.room d.seat Send (send_at w d)
    pub logs : w'.logs ≡ w.logs
    pub holds : w'.holds ≡ w.holds
    pub carrier : PutOf w.carrier (letter_at w d) (send_at w d) w'.carrier

  -- of a park: the docket is left for later
  pub record ParkStep (d : DocketId) (w : Configuration B) (answer : Answer) (w' : Configuration B) : Type 0 where
    pub answers : answer ≡ answer_when_done (park_answer w.room d)
    pub room : w'.room ≡ docket_room w.room d.seat Park (park_answer w.room d)
    pub logs : w'.logs ≡ w.logs
    pub holds : w'.holds ≡ w.holds
    pub carrier : w'.carrier ≡ w.carrier

  -- of a collect: the docket is taken up again
  pub record CollectStep (s : ℕ) (w : Configuration B) (answer : Answer) (w' : Configuration B) : Type 0 where
    pub answers : answer ≡ answer_with_docket (collect_answer w.room s)
    pub room : w'.room ≡ docket_room w.room s Collect (collect_answer w.room s)
    pub logs : w'.logs ≡ w.logs
    pub holds : w'.holds ≡ w.holds
    pub carrier : w'.carrier ≡ w.carrier

  -- of a take: the letter that waits at a place is drawn
  pub record TakeStep (s place : ℕ) (w : Configuration B) (answer : Answer) (w' : Configuration B) : Type 0 where
    pub result : Result (TakeKind × Name) Reason
    pub answers : answer ≡ answer_with_take result
    pub leaves : TakeLeaves (take_at w s place) w.room w.holds w.carrier s place result w'.room w'.holds w'.carrier
    pub logs : w'.logs ≡ w.logs

  -- of a show: the first ready letter of the hold goes to the foot of the log
  pub record ShowStep (s : ℕ) (w : Configuration B) (answer : Answer) (w' : Configuration B) : Type 0 where
    pub answers : answer ≡ answer_with_show (show_answer (show_at w s))
    pub room : w'.room ≡ show_room w.room (show_at w s) s
    pub logs : w'.logs ≡ show_logs w.room (show_at w s) s w.logs
    pub holds : w'.holds ≡ show_holds w.room (show_at w s) s w.holds
    pub carrier : w'.carrier ≡ w.carrier

  -- one step, accepted or refused
  abbrev pub RoomStep : Operation B DocketId → Configuration B → Answer → Configuration B → Type 0
  RoomStep (operations.Post s body) w answer w' = PostStep s body w answer w'
  RoomStep (operations.Send d) w answer w' = SendStep d w answer w'
  RoomStep (operations.Park d) w answer w' = ParkStep d w answer w'
  RoomStep (operations.Collect s) w answer w' = CollectStep s w answer w'
  RoomStep (operations.Take s place) w answer w' = TakeStep s place w answer w'
  RoomStep (operations.Show s) w answer w' = ShowStep s w answer w'

  -- The steps of the trace, with these answers, led from one configuration to the other (an execution), each finding all as the
  -- one before it left it.
  pub data Execution (from : Configuration B) : Trace B → Configuration B → Type 0 where
    nowhere : Execution from [] from
    further : {trace : Trace B} {w w' : Configuration B} {operation : Operation B DocketId} {answer : Answer}
        → Execution from trace w → RoomStep operation w answer w' → Execution from (step_with_answer operation answer ∷ trace) w'

  -- The configuration is reachable: a room was opened and then made the steps of the trace with these answers.
  pub record Reachable (trace : Trace B) (w : Configuration B) : Type 0 where
    pub first : Configuration B
    pub opened : InitialConfiguration first
    pub led : Execution first trace w

  -- by whatever trace the room was reachable before, after this step it is reachable by that trace and this step
  abbrev pub StaysReachable : Operation B DocketId → Configuration B → Answer → Configuration B → Type 0
  StaysReachable operation w answer w' = (trace : Trace B) → Reachable trace w → Reachable (step_with_answer operation answer ∷ trace) w'
