-- What a room holds, and where each seat's letters lie in the two letter tables.
use Rattle.std.specs.Prelude.{ℕ, ◌+◌, ◌*◌, Bool, ◌&&◌, List, take, drop, nat_le, slice_index_or, slice_set}
use Rattle.std.proofs.Math.Seq.{paste}
use Rattle.letters.specs.declared.letter.Letter.{Letter}
use Rattle.seats.specs.declared.seat.Seat.{Seat}
use Rattle.seats.specs.Seats.{blank, log_length}

-- a room by what it holds
pub record RoomState : Type 0 where
  pub number : ℕ
  pub names : List ℕ
  pub count : ℕ
  pub quota : ℕ
  pub seats : List Seat

abbrev pub seat_at : RoomState → ℕ → Seat
seat_at st s = slice_index_or st.seats s blank

-- the room with one seat written
abbrev pub with_seat : RoomState → ℕ → Seat → RoomState
with_seat st s x = record { number = st.number; names = st.names; count = st.count; quota = st.quota; seats = slice_set st.seats s x }

-- each seat has count * quota places in either letter table, one seat after the other
abbrev pub start : RoomState → ℕ → ℕ
start st s = s * (st.count * st.quota)

-- both tables have all places
abbrev pub suffice : RoomState → ℕ → ℕ → Bool
suffice st logs holds = nat_le (start st st.count) logs && nat_le (start st st.count) holds

-- the place after the last letter of a seat's log
abbrev pub foot : RoomState → ℕ → ℕ
foot st s = start st s + log_length (seat_at st s)

module _ {B : Type 0} where
  -- the letters of a seat's log, and of its hold
  abbrev pub log_of : RoomState → List (Letter B) → ℕ → List (Letter B)
  log_of st logs s = take (log_length (seat_at st s)) (drop (start st s) logs)

  abbrev pub hold_of : RoomState → List (Letter B) → ℕ → List (Letter B)
  hold_of st holds s = take (seat_at st s).held (drop (start st s) holds)

-- a table after the n elements behind the place `at` moved down by one
abbrev pub table_closed_up : {X : Type 0} → List X → ℕ → ℕ → List X
table_closed_up table at n = paste table at (drop (at + 1) table) n
