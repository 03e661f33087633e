-- What each call on a room answers, and what it leaves: the checks in their order, by their numbers.
use Rattle.std.specs.Prelude.{◌≡◌, ℕ, ◌+◌, ◌-◌, ◌*◌, Bool, true, false, cond, ◌&&◌, ◌||◌, List, [], ◌∷◌, length, set, Some, None, Ok, Err, Option, Result, ◌==◌, nat_le, nat_lt, slice_index_or, slice_set}
use Rattle.letters.specs.declared.letter.Letter.{Letter}
use Rattle.letters.specs.Letters.{letter_name, number_of, parts, parts_of}
use Rattle.letters.specs.Names.{Name, name_of}
use Rattle.letters.specs.Order.{ready}
use Rattle.letters.specs.Refusals.{Reason, plain, unless}
use Rattle.carriers.specs.Meaning.{Drawn, Meaning, PutOn, draw_answer, put_answer}
use Rattle.seats.specs.declared.seat.Seat.{Seat}
use Rattle.seats.specs.declared.seat.DocketEvent.{DocketEvent}
use Rattle.seats.specs.declared.seat.DocketEvent.TheVariants.{Post, Send, Collect}
use Rattle.seats.specs.declared.docket_id.DocketId.{DocketId}
use Rattle.seats.specs.declared.take_outcome.TakeOutcome.{TakeOutcome}
use Rattle.seats.specs.declared.take_outcome.TakeOutcome.TheVariants as take_outcomes
use Rattle.seats.specs.Rooms.{RoomState, foot, hold_of, log_of, seat_at, start, suffice, table_closed_up, with_seat}
use Rattle.seats.specs.Seats.{allows, clock_at, with_clock_entry, with_clock_raised, with_docket_event, with_one_held_less, with_one_held_more}

-- an answer where a check accepts
abbrev pub answer_if : {X : Type 0} → Result (Unit {0}) Reason → X → Result X Reason
answer_if (Ok done) x = Ok x
answer_if (Err why) x = Err why

-- a further answer where a check accepts
abbrev pub answer_then : {X : Type 0} → Result (Unit {0}) Reason → Result X Reason → Result X Reason
answer_then (Ok done) r = r
answer_then (Err why) r = Err why

-- a table or a room after an answer: changed where it accepts, and as it was on refusal
abbrev pub after_answer : {X Y : Type 0} → Result X Reason → (X → Y) → Y → Y
after_answer (Ok x) changed was = changed x
after_answer (Err why) changed was = was

-- the first element that passes a test, with its place, counted from i
abbrev pub first_passing : {X : Type 0} → (X → Bool) → ℕ → List X → Option (ℕ × X)
first_passing test i [] = None
first_passing test i (x ∷ xs) = cond (test x) (Some (i, x)) (first_passing test (i + 1) xs)

-- Post.
abbrev pub post_check : RoomState → ℕ → ℕ → ℕ → Result (Unit {0}) Reason
post_check st logs holds s =
    unless (suffice st logs holds) 5
    (unless (nat_lt s st.count) 8
    (unless (allows (seat_at st s).docket Post) 10
    (unless (nat_lt (clock_at (seat_at st s) s) st.quota) 9 (Ok tt))))

-- the docket of a seat's newest letter
abbrev pub newest_docket : RoomState → ℕ → DocketId
newest_docket st s = record { room = st.number; seat = s; number = clock_at (seat_at st s) s }

-- the seat after it posted
abbrev pub seat_with_post : Seat → ℕ → Seat
seat_with_post seat s = with_clock_raised (with_docket_event seat Post) s

-- the room after an accepted post
abbrev pub room_with_post : RoomState → ℕ → RoomState
room_with_post st s = with_seat st s (seat_with_post (seat_at st s) s)

-- a post answers the docket of the letter that it posts
abbrev pub post_answer : RoomState → ℕ → ℕ → ℕ → Result DocketId Reason
post_answer st logs holds s = answer_if (post_check st logs holds s) (newest_docket (room_with_post st s) s)

-- the tables suffice and the seat is of the room
abbrev pub seat_check : RoomState → ℕ → ℕ → ℕ → Result (Unit {0}) Reason
seat_check st logs holds s = unless (suffice st logs holds) 5 (unless (nat_lt s st.count) 8 (Ok tt))

-- Dockets. One is good at a room: of this room, its seat's docket is out, and its number is the seat's own entry.
abbrev pub good_docket : RoomState → DocketId → Bool
good_docket st d =
    (d.room == st.number)
    && (nat_lt d.seat st.count
    && (allows (seat_at st d.seat).docket Send
    && d.number == clock_at (seat_at st d.seat) d.seat))

abbrev pub park_answer : RoomState → DocketId → Result (Unit {0}) Reason
park_answer st d = unless (good_docket st d) 12 (Ok tt)

abbrev pub collect_answer : RoomState → ℕ → Result DocketId Reason
collect_answer st s = unless (nat_lt s st.count) 8 (unless (allows (seat_at st s).docket Collect) 13 (Ok (newest_docket st s)))

-- the room after an accepted event at a seat's docket
abbrev pub docket_room : {X : Type 0} → RoomState → ℕ → DocketEvent → Result X Reason → RoomState
docket_room st s e answer = after_answer answer (λ x. with_seat st s (with_docket_event (seat_at st s) e)) st

-- the tables suffice and the carrier serves the room's seats
abbrev pub carrier_check : RoomState → ℕ → ℕ → ℕ → Result (Unit {0}) Reason
carrier_check st logs holds seats = unless (suffice st logs holds) 5 (unless (seats == st.count) 6 (Ok tt))

-- what a refused take leaves of the carrier itself, C: all of it where draw is not called, and where the carrier refuses,
-- what `rests` says that its refusal leaves
abbrev pub DrawRests : {C : Type 0} → (C → C → Type 0) → Result (Unit {0}) Reason → Result (Unit {0}) Reason → C → C → Type 0
DrawRests rests (Ok may) (Ok done) c c' = Unit {0}
DrawRests rests (Ok may) (Err why) c c' = rests c c'
DrawRests rests (Err why) drawn c c' = c' ≡ c

abbrev pub or_missing : {X : Type 0} → Option (ℕ × X) → Result X Reason
or_missing None = Err (plain 19)
or_missing (Some found) = Ok found.1

abbrev pub or_none_ready : {X : Type 0} → Option X → Result X Reason
or_none_ready None = Err (plain 15)
or_none_ready (Some x) = Ok x

abbrev pub is_some : {X : Type 0} → Option X → Bool
is_some None = false
is_some (Some x) = true

module _ {B : Type 0} where
  -- a letter by its name
  abbrev pub is_called : ℕ → ℕ → Letter B → Bool
  is_called p n m = m.poster == p && number_of m == n

  -- what an accepted post leaves in the log table: the letter, stamped with the raised clock, at the foot of the seat's log
  pub record Posted (st : RoomState) (s : ℕ) (body : B) (logs logs' : List (Letter B)) : Type 0 where
    pub letter : Letter B
    pub made : parts_of letter ≡ parts (seat_with_post (seat_at st s) s).clock s body
    pub table : logs' ≡ slice_set logs (foot st s) letter

  abbrev pub PostLogs : RoomState → Result DocketId Reason → ℕ → B → List (Letter B) → List (Letter B) → Type 0
  PostLogs st (Ok docket_id) s body logs logs' = Posted st s body logs logs'
  PostLogs st (Err why) s body logs logs' = logs' ≡ logs

  -- Send. The docket's letter: the first such in the log.
  abbrev pub docket_letter : RoomState → List (Letter B) → DocketId → Result (Letter B) Reason
  docket_letter st logs d = or_missing (first_passing (is_called d.seat d.number) 0 (log_of st logs d.seat))

  -- what there is to put on the carrier
  abbrev pub send_letter : RoomState → List (Letter B) → ℕ → ℕ → DocketId → Result (Letter B) Reason
  send_letter st logs holds seats d = answer_then (carrier_check st (length logs) holds seats) (answer_then (park_answer st d) (docket_letter st logs d))

  -- what the carrier answers to it
  abbrev pub put_letter : Meaning (Letter B) → Result (Letter B) Reason → Result (Unit {0}) Reason
  put_letter c (Ok m) = put_answer c m.poster
  put_letter c (Err why) = Err why

  abbrev pub send_answer : RoomState → List (Letter B) → ℕ → Meaning (Letter B) → DocketId → Result (Unit {0}) Reason
  send_answer st logs holds c d = put_letter c (send_letter st logs holds c.seats d)

  -- what a send leaves on the carrier
  abbrev pub PutOf : Meaning (Letter B) → Result (Letter B) Reason → Result (Unit {0}) Reason → Meaning (Letter B) → Type 0
  PutOf c (Ok m) (Ok done) c' = PutOn c m.poster m c'
  PutOf c (Ok m) (Err why) c' = c' ≡ c
  PutOf c (Err why) answer c' = c' ≡ c

  -- and of the carrier itself, C, of which `puts` says what one put does, and `rests` what its refusal leaves: one put of
  -- the docket's letter, or what the refusal leaves; where there is no letter to put, all as it was
  abbrev pub PutsOnce : {C : Type 0} → (C → Letter B → C → Type 0) → (C → C → Type 0) → Result (Letter B) Reason → Result (Unit {0}) Reason → C → C → Type 0
  PutsOnce puts rests (Ok m) (Ok done) c c' = puts c m c'
  PutsOnce puts rests (Ok m) (Err why) c c' = rests c c'
  PutsOnce puts rests (Err why) answer c c' = c' ≡ c

  -- Take. How a letter that is drawn is taken.
  abbrev pub is_stray : RoomState → ℕ → Letter B → Bool
  is_stray st s m =
      nat_le st.count m.poster
      || (m.poster == s
      || (nat_lt st.quota (number_of m)
      || nat_le (st.count * st.quota) (seat_at st s).held))

  abbrev pub is_repeat : RoomState → List (Letter B) → ℕ → Letter B → Bool
  is_repeat st holds s m =
      nat_le (number_of m) (clock_at (seat_at st s) m.poster)
      || is_some (first_passing (is_called m.poster (number_of m)) 0 (hold_of st holds s))

-- stray, repeat or held
pub data TakeKind : Type 0 where
  stray : TakeKind
  repeat : TakeKind
  held : TakeKind

-- an answer of a take as its caller sees it: the case, with poster and number
abbrev pub take_as_answer : TakeOutcome → TakeKind × Name
take_as_answer (take_outcomes.Stray id) = (stray, name_of id)
take_as_answer (take_outcomes.Repeat id) = (repeat, name_of id)
take_as_answer (take_outcomes.Held id) = (held, name_of id)

-- the room after a letter is taken
abbrev pub take_room : RoomState → TakeKind → ℕ → RoomState
take_room st stray s = st
take_room st repeat s = st
take_room st held s = with_seat st s (with_one_held_more (seat_at st s))

module _ {B : Type 0} where
  abbrev pub kind_of_take : RoomState → List (Letter B) → ℕ → Letter B → TakeKind
  kind_of_take st holds s m = cond (is_stray st s m) stray (cond (is_repeat st holds s m) repeat held)

  -- the hold table after a letter is taken
  abbrev pub take_holds : RoomState → TakeKind → ℕ → Letter B → List (Letter B) → List (Letter B)
  take_holds st stray s m holds = holds
  take_holds st repeat s m holds = holds
  take_holds st held s m holds = slice_set holds (start st s + (seat_at st s).held) m

  -- a take is accepted where the carrier, of the room's size, has a letter at the place
  abbrev pub take_check : RoomState → ℕ → ℕ → Meaning (Letter B) → ℕ → ℕ → Result (Unit {0}) Reason
  take_check st logs holds c s place = answer_then (carrier_check st logs holds c.seats) (draw_answer c s place)

  -- what an accepted take does with the letter that it draws
  pub record TakeAccepted (st : RoomState) (holds : List (Letter B)) (c : Meaning (Letter B)) (s place : ℕ) (r : Result (TakeKind × Name) Reason)
      (st' : RoomState) (holds' : List (Letter B)) (c' : Meaning (Letter B)) : Type 0 where
    pub letter : Letter B
    pub there : letter ≡ slice_index_or (c.waiting s) place letter
    pub drawn : Drawn c s place c'
    pub answer : r ≡ Ok (kind_of_take st holds s letter, letter_name letter)
    pub room : st' ≡ take_room st (kind_of_take st holds s letter) s
    pub hold : holds' ≡ take_holds st (kind_of_take st holds s letter) s letter holds

  -- what a refused one leaves
  pub record TakeRefused (why : Reason) (st : RoomState) (holds : List (Letter B)) (c : Meaning (Letter B)) (r : Result (TakeKind × Name) Reason)
      (st' : RoomState) (holds' : List (Letter B)) (c' : Meaning (Letter B)) : Type 0 where
    pub answer : r ≡ Err why
    pub room : st' ≡ st
    pub hold : holds' ≡ holds
    pub carrier : c' ≡ c

  abbrev pub TakeLeaves : Result (Unit {0}) Reason → RoomState → List (Letter B) → Meaning (Letter B) → ℕ → ℕ → Result (TakeKind × Name) Reason
      → RoomState → List (Letter B) → Meaning (Letter B) → Type 0
  TakeLeaves (Ok done) st holds c s place r st' holds' c' = TakeAccepted st holds c s place r st' holds' c'
  TakeLeaves (Err why) st holds c s place r st' holds' c' = TakeRefused why st holds c r st' holds' c'

  -- Show. The first ready letter of the seat's hold, with its place there.
  abbrev pub first_ready : RoomState → List (Letter B) → ℕ → Option (ℕ × Letter B)
  first_ready st holds s = first_passing (ready st.count st.quota s (seat_at st s).clock) 0 (hold_of st holds s)

  -- what there is to show
  abbrev pub show_outcome : RoomState → ℕ → List (Letter B) → ℕ → Result (ℕ × Letter B) Reason
  show_outcome st logs holds s = answer_then (seat_check st logs (length holds) s) (or_none_ready (first_ready st holds s))

  -- the seat after it showed a letter: one held letter less, and the poster's entry is the letter's number
  abbrev pub seat_with_show : Seat → Letter B → Seat
  seat_with_show seat m = with_one_held_less (with_clock_entry seat m.poster (number_of m))

  abbrev pub show_answer : Result (ℕ × Letter B) Reason → Result Name Reason
  show_answer (Ok found) = Ok (letter_name found.1)
  show_answer (Err why) = Err why

  abbrev pub show_room : RoomState → Result (ℕ × Letter B) Reason → ℕ → RoomState
  show_room st found s = after_answer found (λ f. with_seat st s (seat_with_show (seat_at st s) f.1)) st

  -- the letter goes to the foot of the log
  abbrev pub show_logs : RoomState → Result (ℕ × Letter B) Reason → ℕ → List (Letter B) → List (Letter B)
  show_logs st found s logs = after_answer found (λ f. set logs (foot st s) f.1) logs

  -- and the hold closes up; the place that is vacated keeps what stood there last
  abbrev pub show_holds : RoomState → Result (ℕ × Letter B) Reason → ℕ → List (Letter B) → List (Letter B)
  show_holds st found s holds = after_answer found (λ f. table_closed_up holds (start st s + f.0) ((seat_at st s).held - f.0 - 1)) holds
