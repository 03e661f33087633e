-- A room with its tables and its carrier as a world of boxes, and how that changes when one seat is written.
use Rattle.std.proofs.Common.{◌≡◌, ℕ, ◌<◌, cond, ltb, List, [], take, drop, ap, ◌∙◌, arith}
use Rattle.letters.specs.declared.letter.Letter.{Letter}
use Rattle.carriers.specs.Meaning.{Meaning}
use Rattle.causality.specs.declared.docket.DocketState.{DocketState}
use Rattle.causality.specs.declared.docket.DocketState.TheVariants.{Clear}
use Rattle.causality.specs.Worlds.{Box, World, Elsewhere}
use Rattle.causality.specs.WorldSteps.{MovesDocket}
use Rattle.seats.specs.declared.seat.Seat.{Seat}
use Rattle.seats.specs.declared.seat.DocketEvent.{DocketEvent}
use Rattle.seats.specs.Rooms.{hold_of, log_of, seat_at, start, with_seat}
use Rattle.seats.specs.Seats.{clock_at, docket_after, log_length, with_docket_event}
use Rattle.lives.specs.Reachability.{Configuration, configuration_of}
use Rattle.seats.specs.Invariants.{RoomInvariant, SeatInvariant}
use Rattle.seats.proofs.Clocks.{seat_kept}
use Rattle.seats.proofs.Views.{other_seat, written_seat}
use Rattle.lives.proofs.Cut.{cut_same, cut_two}

module _ {B : Type 0} where
  abbrev pub box_of : Configuration B → ℕ → Box B
  box_of w s = record {
    clock = clock_at (seat_at w.room s);
    log = log_of w.room w.logs s;
    hold = hold_of w.room w.holds s;
    docket = (seat_at w.room s).docket;
  }

  -- where there is no box
  abbrev pub no_box : Box B
  no_box = record { clock = λ p. 0; log = []; hold = []; docket = Clear }

  -- a room has no boxes past its seats
  abbrev pub view : Configuration B → World B
  view w = record {
    box = λ s. cond (ltb s w.room.count) (box_of w s) no_box;
    waiting = λ s. cond (ltb s w.room.count) (w.carrier.waiting s) [];
  }

  same_box : (w w' : Configuration B) (t : ℕ) → seat_at w'.room t ≡ seat_at w.room t → log_of w'.room w'.logs t ≡ log_of w.room w.logs t
      → hold_of w'.room w'.holds t ≡ hold_of w.room w.holds t → box_of w' t ≡ box_of w t
  same_box w w' t q e f = λ j. record { clock = clock_at (q j); log = e j; hold = f j; docket = (q j).docket }

module _ {B : Type 0} (w : Configuration B) (fit : RoomInvariant w.room) (s : ℕ) (inside : s < w.room.count) (x : Seat) where
  -- a table that is not written
  pub log_else : (t : ℕ) → ¬ (t ≡ s) → log_of (with_seat w.room s x) w.logs t ≡ log_of w.room w.logs t
  log_else t ne = ap (λ (y : Seat). take (log_length y) (drop (start w.room t) w.logs)) (other_seat w.room fit s inside x t ne)

  pub hold_else : (t : ℕ) → ¬ (t ≡ s) → hold_of (with_seat w.room s x) w.holds t ≡ hold_of w.room w.holds t
  hold_else t ne = ap (λ (y : Seat). take y.held (drop (start w.room t) w.holds)) (other_seat w.room fit s inside x t ne)

  module _ (logs' holds' : List (Letter B)) (c' : Meaning (Letter B)) where
    -- the configuration after
    abbrev pub written : Configuration B
    written = configuration_of (with_seat w.room s x) logs' holds' c'

    pub at_seat : (P : Box B → Box B → Type 0) → P (box_of w s) (box_of written s) → P ((view w).box s) ((view written).box s)
    at_seat P p = cut_two w.room.count s P (box_of w s) (box_of written s) no_box inside p

    pub elsewhere : ((t : ℕ) → t < w.room.count → ¬ (t ≡ s) → log_of (with_seat w.room s x) logs' t ≡ log_of w.room w.logs t)
        → ((t : ℕ) → t < w.room.count → ¬ (t ≡ s) → hold_of (with_seat w.room s x) holds' t ≡ hold_of w.room w.holds t)
        → Elsewhere s (view w) (view written)
    elsewhere same_log same-hold t ne =
        cut_same w.room.count t (box_of w t) (box_of written t) no_box
        (λ lt. same_box w written t (other_seat w.room fit s inside x t ne) (same_log t lt ne) (same-hold t lt ne))

-- a seat's docket moves
module _ {B : Type 0} (w : Configuration B) (fit : RoomInvariant w.room) (s : ℕ) (inside : s < w.room.count) (event : DocketEvent) (c' : Meaning (Letter B)) where
  abbrev x : Seat
  x = with_docket_event (seat_at w.room s) event

  pub docketed_kept : SeatInvariant w.room.count w.room.quota x
  docketed_kept = let k = seat_kept w.room fit s (omega (arith, fit.few)) in record { whole = k.whole; within = k.within; nobody = k.nobody; placed = k.placed }

  abbrev pub docket_moment : Configuration B
  docket_moment = configuration_of (with_seat w.room s x) w.logs w.holds c'

  at_s : (P : Box B → Box B → Type 0) → P (box_of w s) (box_of docket_moment s) → P ((view w).box s) ((view docket_moment).box s)
  at_s = at_seat w fit s inside x w.logs w.holds c'

  pub docket_moves : (was is : DocketState) → (seat_at w.room s).docket ≡ was → docket_after (seat_at w.room s).docket event ≡ is
      → MovesDocket was is s (view w) (view docket_moment)
  docket_moves was is before after =
      let told = written_seat w.room fit s inside x in
      record {
        before = at_s (λ b b'. b.docket ≡ was) before;
        clock = at_s (λ b b'. b'.clock ≡ b.clock) (ap clock_at told);
        log = at_s (λ b b'. b'.log ≡ b.log) (ap (λ (y : Seat). take (log_length y) (drop (start w.room s) w.logs)) told);
        hold = at_s (λ b b'. b'.hold ≡ b.hold) (ap (λ (y : Seat). take y.held (drop (start w.room s) w.holds)) told);
        docket = at_s (λ b b'. b'.docket ≡ is) (ap (λ (y : Seat). y.docket) told ∙ after);
        elsewhere = elsewhere w fit s inside x w.logs w.holds c' (λ t lt. log_else w fit s inside x t) (λ t lt. hold_else w fit s inside x t);
      }
