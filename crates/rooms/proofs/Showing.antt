-- What an accepted show answers and leaves.
use Rattle.std.proofs.Common.{◌≡◌, ℕ, ◌+◌, ◌-◌, ◌<◌, ◌≤◌, cond, ltb, List, length, Some, Ok, sym, ap, ◌∙◌, subst, arith}
use Rattle.std.proofs.lemmas.Bool.{cond-true, lt-ltb}
use Rattle.letters.specs.declared.letter.Letter.{Letter}
use Rattle.letters.specs.Letters.{number_of}
use Rattle.letters.specs.Order.{ready}
use Rattle.seats.specs.declared.seat.Seat.{Seat}
use Rattle.seats.specs.Invariants.{RoomInvariant, SeatInvariant}
use Rattle.seats.specs.Outcomes.{answer_then, first_passing, first_ready, or_none_ready, seat_check, seat_with_show, show_holds, show_outcome}
use Rattle.seats.specs.Rooms.{RoomState, hold_of, seat_at, start, table_closed_up}
use Rattle.seats.specs.Seats.{with_clock_entry, with_one_held_less}
use Rattle.seats.proofs.Accepted.{Showable, showable, shown_kept, visited}

-- a table that has the places behind a letter closes up there
pub closed_up : {X : Type 0} (table table' : List X) (i j k n : ℕ) → i ≡ j → j + k + n < length table
    → table' ≡ cond (ltb (i + k + n) (length table)) (table_closed_up table (i + k) n) table → table' ≡ table_closed_up table (j + k) n
closed_up table table' i j k n at fits written =
    written ∙ cond-true _ _ _ (lt-ltb (i + k + n) (length table) (omega (arith, at, fits))) ∙ ap (λ p. table_closed_up table (p + k) n) at

-- a seat that is written for a letter that it shows
pub told_shown : {B : Type 0} (viewer : Seat) (m : Letter B) (p n : ℕ) (x y : Seat) → y ≡ with_one_held_less x → x ≡ with_clock_entry viewer p n → n ≡ number_of m → p ≡ m.poster
    → y ≡ seat_with_show viewer m
told_shown viewer m p n x y release set number poster =
    release ∙ ap with_one_held_less set ∙ (λ j. with_one_held_less (with_clock_entry viewer (poster j) (number j)))

-- the letter that is found in the hold of a seat
module _ {B : Type 0} (st : RoomState) (ok : RoomInvariant st) (logs s k : ℕ) (holds hold : List (Letter B)) (m : Letter B)
    (visits : Ok tt ≡ seat_check st logs (length holds) s)
    (of_hold : hold ≡ hold_of st holds s) (found : Some (k, m) ≡ first_passing (ready st.count st.quota s (seat_at st s).clock) 0 hold) where
  here : Some (k, m) ≡ first_ready st holds s
  here = found ∙ ap (first_passing (ready st.count st.quota s (seat_at st s).clock) 0) of_hold

  can : Showable st logs (length holds) s k m
  can = showable st ok logs s k holds m visits here

  -- it is there, and the hold ends within the table
  pub there : k < (seat_at st s).held
  there = can.there

  pub hold_end : start st s + (seat_at st s).held ≤ length holds
  hold_end = can.hold_end

  -- the seat keeps to the room's terms when it is written
  pub told_kept : (p n : ℕ) (y z : Seat) → z ≡ with_one_held_less y → y ≡ with_clock_entry (seat_at st s) p n → n ≡ number_of m → p ≡ m.poster → SeatInvariant st.count st.quota z × (s < 16)
  told_kept p n y z release set number poster =
      let told = told_shown (seat_at st s) m p n y z release set number poster in
      let at = visited st logs (length holds) s visits in
      (subst (SeatInvariant st.count st.quota) (sym told) (shown_kept st ok s m at.inside can.poster can.few), omega (arith, ok.few, at.inside))

  -- the hold closes up behind it
  pub show_held : (holds' : List (Letter B)) (i : ℕ) → i ≡ start st s
      → holds' ≡ cond (ltb (i + k + ((seat_at st s).held - k - 1)) (length holds)) (table_closed_up holds (i + k) ((seat_at st s).held - k - 1)) holds
      → holds' ≡ show_holds st (show_outcome st logs holds s) s holds
  show_held holds' i at written =
      closed_up holds holds' i (start st s) k ((seat_at st s).held - k - 1) at (omega (arith, there, hold_end)) written
      ∙ ap (λ o. show_holds st o s holds) (ap or_none_ready here ∙ ap (λ c. answer_then c (or_none_ready (first_ready st holds s))) visits)
