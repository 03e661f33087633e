-- What an accepted check has tested.
use Rattle.std.proofs.Common.{◌≡◌, ℕ, ◌+◌, ◌*◌, ◌<◌, ◌≤◌, List, length, drop, Some, Ok, sym, arith, length-take}
use Rattle.std.proofs.lemmas.Bool.Decides.{nat_tests}
use Rattle.letters.specs.declared.letter.Letter.{Letter}
use Rattle.letters.specs.Letters.{number_of}
use Rattle.seats.specs.Invariants.{RoomInvariant, SeatInvariant}
use Rattle.seats.specs.Rooms.{RoomState, seat_at, start, foot, hold_of}
use Rattle.seats.specs.Seats.{clock_at}
use Rattle.seats.specs.Outcomes.{held, carrier_check, first_ready, seat_check, seat_with_show}
use Rattle.seats.proofs.Clocks.{seat_kept, clocked_kept, row_end}
use Rattle.seats.proofs.Searches.{found}

-- of a seat
pub record Visited (st : RoomState) (logs holds s : ℕ) : Type 0 where
  pub inside : s < st.count
  pub logs_long : start st st.count ≤ logs
  pub holds_long : start st st.count ≤ holds

-- an accepted check of a seat
pub visited : (st : RoomState) (logs holds s : ℕ) → Ok tt ≡ seat_check st logs holds s → Visited st logs holds s
visited st logs holds s can = record { inside = grind (arith, nat_tests); logs_long = grind (arith, nat_tests); holds_long = grind (arith, nat_tests) }

-- of a call that brings a carrier
pub record Served (st : RoomState) (logs holds seats : ℕ) : Type 0 where
  pub logs_long : start st st.count ≤ logs
  pub holds_long : start st st.count ≤ holds
  pub seats_same : seats ≡ st.count

-- an accepted check of tables and carrier
pub served : (st : RoomState) (logs holds seats : ℕ) → Ok tt ≡ carrier_check st logs holds seats → Served st logs holds seats
served st logs holds seats can = record { logs_long = grind (arith, nat_tests); holds_long = grind (arith, nat_tests); seats_same = grind (arith, nat_tests) }

-- of a show: what the first ready letter is like, and that there is a place for it
pub record Showable (st : RoomState) (logs holds s k : ℕ) {B : Type 0} (m : Letter B) : Type 0 where
  pub there : k < (seat_at st s).held
  pub poster : m.poster < st.count
  pub few : number_of m ≤ st.quota
  pub next : number_of m ≡ clock_at (seat_at st s) m.poster + 1
  pub hold_end : start st s + (seat_at st s).held ≤ holds

-- an accepted show
pub showable : {B : Type 0} (st : RoomState) (ok : RoomInvariant st) (logs s k : ℕ) (holds : List (Letter B)) (m : Letter B) → Ok tt ≡ seat_check st logs (length holds) s → Some (k, m) ≡ first_ready st holds s → Showable st logs (length holds) s k m
showable st ok logs s k holds m can e =
    let seat = seat_at st s in
    let at = visited st logs (length holds) s can in
    let h = found _ 0 (hold_of st holds s) k m (sym e) in
    let is = h.passes in
    let size = length-take seat.held (drop (start st s) holds) in
    let poster : m.poster < st.count = grind (arith, nat_tests) in
    let few : number_of m ≤ st.quota = grind (arith, nat_tests) in
    let next : number_of m ≡ clock_at seat m.poster + 1 = grind (arith, nat_tests) in
    record {
      there = omega (arith, h.within, size);
      poster = poster;
      few = few;
      next = next;
      hold_end = omega (arith, at.holds_long, row_end st ok s seat.held at.inside (ok.placed s));
    }

-- a seat that showed a letter is kept
pub shown_kept : {B : Type 0} (st : RoomState) (ok : RoomInvariant st) (s : ℕ) (m : Letter B) → s < st.count → m.poster < st.count → number_of m ≤ st.quota → SeatInvariant st.count st.quota (seat_with_show (seat_at st s) m)
shown_kept st ok s m inside poster few =
    let seat = seat_kept st ok s (omega (arith, ok.few)) in
    let kept = clocked_kept st.count st.quota ok.few _ seat m.poster poster (number_of m) few in
    record { whole = kept.whole; within = kept.within; nobody = kept.nobody; placed = omega (arith, kept.placed) }
