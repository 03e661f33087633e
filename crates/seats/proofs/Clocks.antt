-- What a seat keeps while its clock goes up, and that its log has a place for one letter more.
use Rattle.std.proofs.Common.{◌≡◌, ℕ, zero, suc, ◌+◌, ◌*◌, ◌<◌, ◌≤◌, ◌≢◌, List, [], ◌∷◌, length, get_or, sum, mul-le-mul_right, suc-mul, arith}
use Rattle.std.proofs.lemmas.List.{get_or-set_same, get_or-set_other, length-set}
use Rattle.std.proofs.lemmas.List.Sums.{sum_by-cons, sum_by-set}
use Rattle.seats.specs.declared.seat.Seat.{Seat}
use Rattle.seats.specs.Invariants.{RoomInvariant, SeatInvariant}
use Rattle.seats.specs.Seats.{clock_at, log_length, with_clock_entry}
use Rattle.seats.specs.Rooms.{RoomState, seat_at, start}
use Rattle.seats.proofs.Tables.{set_each}

-- n entries of at most q each, and zeros after them
pub sum_le : (xs : List ℕ) (n q : ℕ) → ((p : ℕ) → get_or xs p 0 ≤ q) → ((p : ℕ) → n ≤ p → get_or xs p 0 ≡ 0) → sum xs ≤ n * q
sum_le [] n q most none = omega arith
sum_le (x ∷ xs) zero q most none =
    let first : x ≡ 0 = none zero (omega arith) in
    let rest : sum xs ≤ zero * q = sum_le xs zero q (λ p. most (suc p)) (λ p h. none (suc p) (omega arith)) in
    let both = sum_by-cons (λ y. y) x xs in
    omega arith
sum_le (x ∷ xs) (suc n) q most none =
    let first : x ≤ q = most zero in
    let rest : sum xs ≤ n * q = sum_le xs n q (λ p. most (suc p)) (λ p h. none (suc p) (omega arith)) in
    let both = sum_by-cons (λ y. y) x xs in
    omega (arith, suc-mul n q)

-- each seat of a sound room is kept
pub seat_kept : (st : RoomState) (ok : RoomInvariant st) (s : ℕ) → s < 16 → SeatInvariant st.count st.quota (seat_at st s)
seat_kept st ok s lt = record { whole = ok.whole s lt; within = ok.within s; nobody = ok.nobody s; placed = ok.placed s }

-- a kept seat's log keeps to its places
pub kept_fits : (n q : ℕ) (x : Seat) → SeatInvariant n q x → log_length x ≤ n * q
kept_fits n q x kept = sum_le _ n q kept.within kept.nobody

module _ (n q : ℕ) (few : n ≤ 16) (x : Seat) (kept : SeatInvariant n q x) (p : ℕ) (inside : p < n) where
  pub clocked_kept : (v : ℕ) → v ≤ q → SeatInvariant n q (with_clock_entry x p v)
  clocked_kept v most = record {
    whole = simp length-set kept.whole;
    within = set_each (λ e. e ≤ q) 0 _ p _ most kept.within;
    nobody = λ k h. let ne : k ≢ p = omega arith in rw get_or-set_other (kept.nobody k h);
    placed = kept.placed;
  }

  pub clocked_own : (v : ℕ) → clock_at (with_clock_entry x p v) p ≡ v
  clocked_own v = let h : p < length x.clock.entries = omega (arith, kept.whole) in rw get_or-set_same

  pub log_short : clock_at x p < q → log_length x < n * q
  log_short left =
      let xs = x.clock.entries in
      let next = clocked_kept (get_or xs p 0 + 1) (omega arith) in
      let most = kept_fits n q (with_clock_entry x p (get_or xs p 0 + 1)) next in
      let more = sum_by-set (λ e. e) xs p (get_or xs p 0 + 1) 0 (omega (arith, kept.whole)) in
      omega arith

-- a seat's places lie within the table
pub row_end : (st : RoomState) (ok : RoomInvariant st) (s x : ℕ) → s < st.count → x ≤ st.count * st.quota → start st s + x ≤ start st st.count
row_end st ok s x inside few =
    let rows = mul-le-mul_right {m = suc s} {n = st.count} (st.count * st.quota) (omega arith) in
    omega (arith, rows, suc-mul s (st.count * st.quota))

-- so does the log of any seat of a sound room
pub log_fits : (st : RoomState) (ok : RoomInvariant st) (s : ℕ) → log_length (seat_at st s) ≤ st.count * st.quota
log_fits st ok s = sum_le _ st.count st.quota (ok.within s) (ok.nobody s)
