-- A seat's log that gains a letter, and a room of which one seat is written.
use Rattle.std.proofs.Common.{◌≡◌, ℕ, ◌+◌, ◌*◌, ◌<◌, ◌≤◌, length, arith}
use Rattle.std.proofs.lemmas.List.{length-set}
use Rattle.std.proofs.lemmas.List.Sums.{sum_by-set}
use Rattle.seats.specs.declared.seat.Seat.{Seat}
use Rattle.seats.specs.Invariants.{Nobody, RoomInvariant, SeatInvariant, Within}
use Rattle.seats.specs.Rooms.{RoomState, with_seat}
use Rattle.seats.specs.Seats.{blank, clock_at, log_length, with_clock_entry}
use Rattle.seats.proofs.Tables.{set_each, set-each_below}

-- one entry of its clock raised by one: the log is one longer
pub one_longer : (n q : ℕ) (few : n ≤ 16) (x : Seat) (kept : SeatInvariant n q x) (p : ℕ) → p < n → log_length (with_clock_entry x p (clock_at x p + 1)) ≡ log_length x + 1
one_longer n q few x kept p inside = let more = sum_by-set (λ e. e) x.clock.entries p (clock_at x p + 1) 0 (omega (arith, kept.whole)) in omega arith

-- a room stays sound while its seats are kept
pub still_sound : (st : RoomState) (ok : RoomInvariant st) (s : ℕ) (x : Seat) → SeatInvariant st.count st.quota x → RoomInvariant (with_seat st s x)
still_sound st ok s x kept = record {
  some = ok.some;
  few = ok.few;
  quotaed = ok.quotaed;
  small = ok.small;
  table = simp length-set ok.table;
  whole = set-each_below (λ (y : Seat). length y.clock.entries ≡ 16) blank 16 st.seats s x kept.whole ok.whole;
  within = set_each (Within st.quota) blank st.seats s x kept.within ok.within;
  nobody = set_each (Nobody st.count) blank st.seats s x kept.nobody ok.nobody;
  placed = set_each (λ (y : Seat). y.held ≤ st.count * st.quota) blank st.seats s x kept.placed ok.placed;
}
