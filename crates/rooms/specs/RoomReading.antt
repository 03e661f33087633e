-- What reading a room answers, and closing it.
use Rattle.std.specs.Prelude.{◌≡◌, ℕ, Bool, List, length, Ok, Result, nat_lt}
use Rattle.letters.specs.declared.letter.Letter.{Letter}
use Rattle.letters.specs.Order.{each_below}
use Rattle.letters.specs.Refusals.{Reason, unless}
use Rattle.sheets.specs.declared.sheet.Sheet.{Ghosts}
use Rattle.sheets.specs.Pages.{page_count}
use Rattle.sheets.specs.Sheets.{meaning_left}
use Rattle.seats.specs.declared.seat.DocketEvent.TheVariants.{Post}
use Rattle.seats.specs.Outcomes.{answer_if, seat_check}
use Rattle.seats.specs.Rooms.{RoomState, log_of, seat_at}
use Rattle.seats.specs.Seats.{allows, log_length}
use Rattle.lives.specs.Drawing.{sheet_outcome}
use Rattle.rooms.specs.declared.closed.ClosedRoom.{ClosedRoom}
use Rattle.rooms.specs.States.{state}

-- the letters of a seat's log
abbrev pub log_answer : {B : Type 0} → RoomState → List (Letter B) → ℕ → ℕ → Result (List (Letter B)) Reason
log_answer st logs holds s = answer_if (seat_check st (length logs) holds s) (log_of st logs s)

-- the pages of a seat's log; no tables are brought
abbrev pub pages_answer : RoomState → ℕ → Result ℕ Reason
pages_answer st s = unless (nat_lt s st.count) 8 (Ok (page_count (log_length (seat_at st s))))

-- what drawing up a seat's log leaves on a sheet of the kind K: what the letters result in, or where it is refused, what was there
abbrev pub SheetLeft : {K B : Type 0} → Ghosts K B → RoomState → List (Letter B) → List (Letter B) → ℕ → K → K → Type 0
SheetLeft sheet st logs holds s before after =
    sheet.meaning after ≡ meaning_left (sheet_outcome sheet.kind st logs (length holds) s) (sheet.meaning before)

-- every seat's docket is clear: each seat may post, but for the quota
unfoldable pub all_clear : RoomState → Bool
all_clear st = each_below (λ s. allows (seat_at st s).docket Post) st.count

-- a room closes where every docket is clear
abbrev pub close_check : RoomState → Result (Unit {0}) Reason
close_check st = unless (all_clear st) 16 (Ok tt)

-- what a closed room holds: the room as it closed
abbrev pub state_of_closed : ClosedRoom → RoomState
state_of_closed c = state c.room
