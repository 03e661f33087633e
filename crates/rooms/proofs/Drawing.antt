-- What drawing up a seat's log answers and leaves.
use Rattle.std.proofs.Common.{◌≡◌, ℕ, ◌*◌, ◌≤◌, List, length, drop, Ok, sym, ap, ◌∙◌, arith, length-take}
use Rattle.std.proofs.lemmas.Bool.{le-leb}
use Rattle.letters.specs.declared.letter.Letter.{Letter}
use Rattle.letters.specs.Refusals.{unless}
use Rattle.sheets.specs.Sheets.{Kind, draw_up_outcome, drawn_up}
use Rattle.seats.specs.Invariants.{RoomInvariant}
use Rattle.seats.specs.Outcomes.{answer_then, seat_check}
use Rattle.seats.specs.Rooms.{RoomState, log_of, seat_at, start}
use Rattle.seats.specs.Seats.{log_length}
use Rattle.seats.proofs.Clocks.{log_fits}
use Rattle.lives.specs.Drawing.{places_check, sheet_outcome}

-- a seat's log goes up on a sheet that has places for any log of the room
module _ {M B : Type 0} (kind : Kind M B) (st : RoomState) (ok : RoomInvariant st) (logs : List (Letter B)) (holds s : ℕ) (log : List (Letter B))
    (can : Ok tt ≡ seat_check st (length logs) holds s) (wide : st.count * st.quota ≤ kind.places) (is : log ≡ log_of st logs s) where
  short : length log ≤ kind.places
  short =
      let most = log_fits st ok s in
      let size = length-take (log_length (seat_at st s)) (drop (start st s) logs) in
      let same = ap length is in
      omega arith

  pub goes_up : draw_up_outcome kind log ≡ sheet_outcome kind st logs holds s
  goes_up =
      ap (λ b. unless b 17 (Ok (drawn_up kind log))) (le-leb _ _ short)
      ∙ ap (λ l. Ok (drawn_up kind l)) is
      ∙ sym (ap (λ b. unless b 17 (Ok (drawn_up kind (log_of st logs s)))) (le-leb _ _ wide))
      ∙ ap (λ k. answer_then k (places_check kind st (Ok (drawn_up kind (log_of st logs s))))) can
