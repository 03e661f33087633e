-- What a room keeps to in each of its seats.
use Rattle.std.specs.Prelude.{◌≡◌, ℕ, ◌*◌, ◌<◌, ◌≤◌, length}
use Rattle.seats.specs.declared.seat.Seat.{Seat}
use Rattle.seats.specs.Rooms.{RoomState, seat_at}
use Rattle.seats.specs.Seats.{clock_at}

-- no entry of the clock is above the quota
abbrev pub Within : ℕ → Seat → Type 0
Within q seat = (p : ℕ) → clock_at seat p ≤ q

-- nobody has posted past the number of seats
abbrev pub Nobody : ℕ → Seat → Type 0
Nobody n seat = (p : ℕ) → n ≤ p → clock_at seat p ≡ 0

-- a seat of a room of n seats with the quota q
pub record SeatInvariant (n q : ℕ) (seat : Seat) : Type 0 where
  pub whole : length seat.clock.entries ≡ 16
  pub within : Within q seat
  pub nobody : Nobody n seat
  pub placed : seat.held ≤ n * q

-- a room whose seats are kept
pub record RoomInvariant (st : RoomState) : Type 0 where
  pub some : 1 ≤ st.count
  pub few : st.count ≤ 16
  pub quotaed : 1 ≤ st.quota
  pub small : st.count * st.quota ≤ 256
  pub table : length st.seats ≡ 16
  pub whole : (s : ℕ) → s < 16 → length (seat_at st s).clock.entries ≡ 16
  pub within : (s : ℕ) → Within st.quota (seat_at st s)
  pub nobody : (s : ℕ) → Nobody st.count (seat_at st s)
  pub placed : (s : ℕ) → (seat_at st s).held ≤ st.count * st.quota
