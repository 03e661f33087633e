-- What a write to a letter table leaves of each seat's log and hold.
use Rattle.std.proofs.Common.{◌≡◌, ℕ, suc, ◌+◌, ◌-◌, ◌*◌, ◌<◌, ◌≤◌, ◌≢◌, List, [], ◌∷◌, ◌++◌, length, set, sym, ap, ◌∙◌, inl, inr, ⊎_elim, mul-le-mul_right, suc-mul, arith}
use Rattle.std.specs.List.{remove}
use Rattle.std.proofs.lemmas.Nat.{mul-add-lt}
use Rattle.std.proofs.lemmas.List.{get_or-set_same, get_or-set_other}
use Rattle.std.proofs.lemmas.Bool.{cases_lt}
use Rattle.letters.specs.declared.letter.Letter.{Letter}
use Rattle.seats.specs.declared.seat.Seat.{Seat}
use Rattle.seats.specs.Invariants.{RoomInvariant}
use Rattle.seats.specs.Rooms.{RoomState, seat_at, with_seat, start, foot, log_of, hold_of, table_closed_up}
use Rattle.seats.specs.Seats.{blank, log_length}
use Rattle.seats.proofs.Clocks.{log_fits, row_end}
use Rattle.seats.proofs.Tables.{part, part_push, part_set_out, part_closed, part_closed_out, rows_apart}

module _ (st : RoomState) (ok : RoomInvariant st) (s : ℕ) (inside : s < st.count) (x : Seat) where
  -- the seat that was written, and the others
  pub written_seat : seat_at (with_seat st s x) s ≡ x
  written_seat = get_or-set_same st.seats s x blank (omega (arith, ok.few, ok.table))

  pub other_seat : (t : ℕ) → t ≢ s → seat_at (with_seat st s x) t ≡ seat_at st t
  other_seat t ne = get_or-set_other st.seats s t x blank ne

-- a letter at the foot of one log, whose length goes up by one: that log gains it, and the other logs stay
module _ {B : Type 0} (st : RoomState) (ok : RoomInvariant st) (logs : List (Letter B)) (s : ℕ) (inside : s < st.count) (x : Seat) (m : Letter B)
    (one_more : log_length x ≡ log_length (seat_at st s) + 1) (short : log_length (seat_at st s) < st.count * st.quota) (long : start st st.count ≤ length logs) where
  pub log_gains : log_of (with_seat st s x) (set logs (foot st s) m) s ≡ log_of st logs s ++ m ∷ []
  log_gains =
      ap (λ y. part (start st s) (log_length y) (set logs (foot st s) m)) (written_seat st ok s inside x)
      ∙ ap (λ n. part (start st s) n (set logs (foot st s) m)) one_more
      ∙ part_push logs (start st s) (log_length (seat_at st s)) m (omega (arith, mul-add-lt s (st.count * st.quota) (log_length (seat_at st s)) st.count inside short))

  pub log_stays : (t : ℕ) → t ≢ s → log_of (with_seat st s x) (set logs (foot st s) m) t ≡ log_of st logs t
  log_stays t ne =
      ap (λ y. part (start st t) (log_length y) (set logs (foot st s) m)) (other_seat st ok s inside x t ne)
      ∙ part_set_out logs (start st t) (log_length (seat_at st t)) (foot st s) m
      (rows_apart (st.count * st.quota) s t (log_length (seat_at st s)) (log_length (seat_at st t)) (λ e. ne (sym e)) short (log_fits st ok t))

-- a seat that loses the letter at k of its hold, and the other seats
module _ {B : Type 0} (st : RoomState) (ok : RoomInvariant st) (holds : List (Letter B)) (s k : ℕ) (inside : s < st.count) (x : Seat)
    (one_less : x.held ≡ (seat_at st s).held - 1) (there : k < (seat_at st s).held) (long : start st st.count ≤ length holds) where
  ends : start st s + (seat_at st s).held ≤ length holds
  ends = omega (arith, long, row_end st ok s (seat_at st s).held inside (ok.placed s))

  pub hold_loses : hold_of (with_seat st s x) (table_closed_up holds (start st s + k) ((seat_at st s).held - k - 1)) s ≡ remove (hold_of st holds s) k
  hold_loses =
      let table = table_closed_up holds (start st s + k) ((seat_at st s).held - k - 1) in
      ap (λ y. part (start st s) y.held table) (written_seat st ok s inside x)
      ∙ ap (λ n. part (start st s) n table) one_less
      ∙ part_closed holds (start st s) k (seat_at st s).held there ends

  pub hold_stays : (t : ℕ) → t < st.count → t ≢ s → hold_of (with_seat st s x) (table_closed_up holds (start st s + k) ((seat_at st s).held - k - 1)) t ≡ hold_of st holds t
  hold_stays t within ne =
      let held = (seat_at st s).held in
      let row = st.count * st.quota in
      let few = ok.placed s in
      let other = (seat_at st t).held in
      let last = ends in
      ap (λ y. part (start st t) y.held (table_closed_up holds (start st s + k) (held - k - 1))) (other_seat st ok s inside x t ne)
      ∙ part_closed_out holds (start st s + k) (held - k - 1) (start st t) other (omega arith) (omega (arith, long, row_end st ok t other within (ok.placed t)))
      (⊎_elim
      (λ lt. inl (omega (arith, suc-mul t row, ok.placed t, mul-le-mul_right {m = suc t} {n = s} row (omega arith))))
      (λ ge. inr (omega (arith, suc-mul s row, mul-le-mul_right {m = suc s} {n = t} row (omega arith))))
      (cases_lt t s))

-- a seat that keeps one letter more at the end of its hold, and the other seats
module _ {B : Type 0} (st : RoomState) (ok : RoomInvariant st) (holds : List (Letter B)) (s : ℕ) (inside : s < st.count) (x : Seat) (m : Letter B)
    (one_more : x.held ≡ (seat_at st s).held + 1) (short : (seat_at st s).held < st.count * st.quota) (long : start st st.count ≤ length holds) where
  pub hold_gains : hold_of (with_seat st s x) (set holds (start st s + (seat_at st s).held) m) s ≡ hold_of st holds s ++ m ∷ []
  hold_gains =
      let table = set holds (start st s + (seat_at st s).held) m in
      ap (λ y. part (start st s) y.held table) (written_seat st ok s inside x)
      ∙ ap (λ n. part (start st s) n table) one_more
      ∙ part_push holds (start st s) (seat_at st s).held m (omega (arith, mul-add-lt s (st.count * st.quota) (seat_at st s).held st.count inside short))

  pub hold_rests : (t : ℕ) → t ≢ s → hold_of (with_seat st s x) (set holds (start st s + (seat_at st s).held) m) t ≡ hold_of st holds t
  hold_rests t ne =
      ap (λ y. part (start st t) y.held (set holds (start st s + (seat_at st s).held) m)) (other_seat st ok s inside x t ne)
      ∙ part_set_out holds (start st t) (seat_at st t).held (start st s + (seat_at st s).held) m
      (rows_apart (st.count * st.quota) s t (seat_at st s).held (seat_at st t).held (λ e. ne (sym e)) short (ok.placed t))
