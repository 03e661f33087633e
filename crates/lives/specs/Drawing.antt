-- What drawing up a seat's log on a sheet results in.
use Rattle.std.specs.Prelude.{ℕ, ◌*◌, List, length, Ok, Result, nat_le}
use Rattle.letters.specs.declared.letter.Letter.{Letter}
use Rattle.letters.specs.Refusals.{Reason, unless}
use Rattle.sheets.specs.Sheets.{Kind, drawn_up}
use Rattle.seats.specs.Outcomes.{answer_then, seat_check}
use Rattle.seats.specs.Rooms.{RoomState, log_of}

module _ {M B : Type 0} (kind : Kind M B) where
  -- the sheet has places for as many letters as a log of the room can have
  abbrev pub places_check : RoomState → Result M Reason → Result M Reason
  places_check st later = unless (nat_le (st.count * st.quota) kind.places) 17 later

  -- what drawing up the seat's log answers: what the sheet means then, or the refusal
  abbrev pub sheet_outcome : RoomState → List (Letter B) → ℕ → ℕ → Result M Reason
  sheet_outcome st logs holds s = answer_then (seat_check st (length logs) holds s) (places_check st (Ok (drawn_up kind (log_of st logs s))))
