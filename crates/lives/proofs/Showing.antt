-- An accepted show is a step of a run.
use Rattle.std.proofs.Common.{◌≡◌, ℕ, suc, ◌+◌, ◌-◌, ◌*◌, ◌<◌, true, false, List, [], ◌∷◌, ◌++◌, length, take, drop, Some, None, Ok, Err, Option, Result, sym, refl, ap, ◌∙◌, arith}
use Rattle.std.proofs.lemmas.List.{get_or-set_other, length-set}
use Rattle.letters.specs.declared.letter.Letter.{Letter}
use Rattle.letters.specs.Letters.{number_of}
use Rattle.letters.specs.Order.{Ready, ready}
use Rattle.letters.specs.Refusals.{Reason}
use Rattle.letters.proofs.Readiness.{decides_ready}
use Rattle.causality.specs.Worlds.{Box}
use Rattle.causality.specs.WorldSteps.{WorldShow}
use Rattle.seats.specs.declared.seat.Seat.{Seat}
use Rattle.seats.specs.Outcomes.{answer_then, first_ready, or_none_ready, seat_check, seat_with_show, show_holds, show_logs, show_outcome}
use Rattle.seats.specs.Rooms.{RoomState, foot, hold_of, seat_at, start, with_seat}
use Rattle.seats.specs.Seats.{clock_at, log_length, with_clock_entry}
use Rattle.lives.specs.Reachability.{Configuration, configuration_of}
use Rattle.seats.specs.Invariants.{RoomInvariant, SeatInvariant}
use Rattle.seats.proofs.Accepted.{Visited, visited}
use Rattle.seats.proofs.Clocks.{clocked_kept, clocked_own, log_short, row_end, seat_kept}
use Rattle.seats.proofs.Tables.{length-closed, length_part}
use Rattle.seats.proofs.Views.{hold_loses, hold_stays, log_gains, log_stays, written_seat}
use Rattle.lives.proofs.Clocks.{one_longer}
use Rattle.lives.proofs.Splits.{First, first_at}
use Rattle.lives.proofs.Views.{at_seat, box_of, elsewhere, view}

-- a letter that fails the test is not ready
pub not_ready : {B : Type 0} (st : RoomState) (s : ℕ) (m : Letter B) → ready st.count st.quota s (seat_at st s).clock m ≡ false
    → ¬ (Ready st.count st.quota s (clock_at (seat_at st s)) m)
not_ready st s m is can =
    let clash : true ≡ false = sym ((decides_ready (seat_at st s).clock m st.count st.quota s).1 can) ∙ is in
    let z : ◌≡◌ {A = ℕ} 0 1 = cc in
    omega arith

both_yes : {X : Type 0} (c : Result (Unit {0}) Reason) (o : Option X) (x : X) → Ok x ≡ answer_then c (or_none_ready o) → (Ok tt ≡ c) × (Some x ≡ o)
both_yes (Ok yes') (Some y) x e = (refl, cc)
both_yes (Ok yes') None x e = absurd cc
both_yes (Err why) o x e = absurd cc

module _ {B : Type 0} (w : Configuration B) (fit : RoomInvariant w.room) (s k : ℕ) (m : Letter B)
    (e : Ok (k, m) ≡ show_outcome w.room (length w.logs) w.holds s) where
  abbrev st : RoomState
  st = w.room

  abbrev x : Seat
  x = seat_with_show (seat_at st s) m

  abbrev logs' : List (Letter B)
  logs' = show_logs st (Ok (k, m)) s w.logs

  abbrev holds' : List (Letter B)
  holds' = show_holds st (Ok (k, m)) s w.holds

  abbrev pub shown_moment : Configuration B
  shown_moment = configuration_of (with_seat st s x) logs' holds' w.carrier

  abbrev H : List (Letter B)
  H = hold_of st w.holds s

  was : (Ok tt ≡ seat_check st (length w.logs) (length w.holds) s) × (Some (k, m) ≡ first_ready st w.holds s)
  was = both_yes (seat_check st (length w.logs) (length w.holds) s) (first_ready st w.holds s) (k, m) e

  at : Visited st (length w.logs) (length w.holds) s
  at = visited st (length w.logs) (length w.holds) s was.0

  pub show_inside : s < st.count
  show_inside = at.inside

  seat : SeatInvariant st.count st.quota (seat_at st s)
  seat = seat_kept st fit s (omega (arith, at.inside, fit.few))

  told : seat_at (with_seat st s x) s ≡ x
  told = written_seat st fit s at.inside x

  first : First (ready st.count st.quota s (seat_at st s).clock) H k m
  first = first_at _ H k m (sym was.1)

  can : Ready st.count st.quota s (clock_at (seat_at st s)) m
  can = (decides_ready (seat_at st s).clock m st.count st.quota s).0 first.passes

  -- the poster's entry goes up by one
  clock_is : with_clock_entry (seat_at st s) m.poster (number_of m) ≡ with_clock_entry (seat_at st s) m.poster (clock_at (seat_at st s) m.poster + 1)
  clock_is = ap (with_clock_entry (seat_at st s) m.poster) can.next

  pub shown_kept : SeatInvariant st.count st.quota x
  shown_kept =
      let kept = clocked_kept st.count st.quota fit.few (seat_at st s) seat m.poster can.below (number_of m) can.within in
      record { whole = kept.whole; within = kept.within; nobody = kept.nobody; placed = omega (arith, kept.placed) }

  more : log_length x ≡ log_length (seat_at st s) + 1
  more = ap log_length clock_is ∙ one_longer st.count st.quota fit.few (seat_at st s) seat m.poster can.below

  short : log_length (seat_at st s) < st.count * st.quota
  short = log_short st.count st.quota fit.few (seat_at st s) seat m.poster can.below (omega (arith, can.next, can.within))

  held : k < (seat_at st s).held
  held =
      let size = length_part w.holds (start st s) (seat_at st s).held (omega (arith, at.holds_long, row_end st fit s (seat_at st s).held at.inside seat.placed)) in
      omega (arith, size, first.within)

  at_s : (P : Box B → Box B → Type 0) → P (box_of w s) (box_of shown_moment s) → P ((view w).box s) ((view shown_moment).box s)
  at_s = at_seat w fit s at.inside x logs' holds' w.carrier

  pub shows_step : WorldShow st.count st.quota s m (view w) (view shown_moment)
  shows_step = record {
    seat = at.inside;
    before = take k H;
    after = drop (suc k) H;
    found = at_s (λ b b'. b.hold ≡ take k H ++ (m ∷ drop (suc k) H)) first.whole;
    ready = at_s (λ b b'. Ready st.count st.quota s b.clock m) can;
    first = λ j i. at_s (λ b b'. ¬ (Ready st.count st.quota s b.clock j)) (not_ready st s j (first.before j i));
    own = at_s (λ b b'. b'.clock m.poster ≡ number_of m)
        (ap (λ (y : Seat). clock_at y m.poster) told ∙ clocked_own st.count st.quota fit.few (seat_at st s) seat m.poster can.below (number_of m));
    rest = λ p ne. at_s (λ b b'. b'.clock p ≡ b.clock p)
        (ap (λ (y : Seat). clock_at y p) told ∙ get_or-set_other (seat_at st s).clock.entries m.poster p (number_of m) 0 ne);
    log = at_s (λ b b'. b'.log ≡ b.log ++ (m ∷ [])) (log_gains st fit w.logs s at.inside x m more short at.logs_long);
    hold = at_s (λ b b'. b'.hold ≡ take k H ++ drop (suc k) H) (hold_loses st fit w.holds s k at.inside x refl held at.holds_long);
    docket = at_s (λ b b'. b'.docket ≡ b.docket) (ap (λ (y : Seat). y.docket) told);
    elsewhere = elsewhere w fit s at.inside x logs' holds' w.carrier
        (λ t lt. log_stays st fit w.logs s at.inside x m more short at.logs_long t)
        (hold_stays st fit w.holds s k at.inside x refl held at.holds_long);
    waiting = λ t. refl;
  }

  -- the tables keep their length
  pub show_logs_long : length logs' ≡ length w.logs
  show_logs_long = length-set w.logs (foot st s) m

  pub show_holds_long : length holds' ≡ length w.holds
  show_holds_long =
      length-closed w.holds (start st s + k) ((seat_at st s).held - k - 1)
      (omega (arith, held, at.holds_long, row_end st fit s (seat_at st s).held at.inside seat.placed))
