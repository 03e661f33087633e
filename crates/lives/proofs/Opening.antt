-- A room that has just been opened has a run with no events.
use Rattle.std.proofs.Common.{◌≡◌, ℕ, zero, suc, ◌*◌, ◌<◌, ◌≤◌, List, [], length, get_or, take, drop, replicate, sym, refl, ap, subst, arith}
use Rattle.causality.specs.declared.docket.DocketState.TheVariants.{Clear}
use Rattle.causality.specs.Worlds as worlds
use Rattle.causality.specs.Runs as runs
use Rattle.seats.specs.declared.seat.Seat.{Seat}
use Rattle.seats.specs.Invariants.{Nobody, RoomInvariant, Within}
use Rattle.seats.specs.Rooms.{RoomState, seat_at, start}
use Rattle.seats.specs.Seats.{blank, clock_at, fresh, log_length}
use Rattle.lives.specs.Reachability.{Configuration, InitialConfiguration}
use Rattle.lives.proofs.Cut.{cut_any}
use Rattle.lives.proofs.Lives.{Lives}
use Rattle.lives.proofs.Views.{box_of, no_box, view}

-- what holds of an element and of the default holds at every place of a table of that element
replicate_each : {X : Type 0} (P : X → Type 0) (n : ℕ) (x d : X) → P x → P d → (i : ℕ) → P (get_or (replicate n x) i d)
replicate_each P zero x d at_x at-d i = at-d
replicate_each P (suc n) x d at_x at-d zero = at_x
replicate_each P (suc n) x d at_x at-d (suc i) = replicate_each P n x d at_x at-d i

-- the same, at the places of the table
replicate_below : {X : Type 0} (P : X → Type 0) (n : ℕ) (x d : X) → P x → (i : ℕ) → i < n → P (get_or (replicate n x) i d)
replicate_below P zero x d at_x i lt = absurd (omega arith)
replicate_below P (suc n) x d at_x zero lt = at_x
replicate_below P (suc n) x d at_x (suc i) lt = replicate_below P n x d at_x i (omega arith)

zeros : (p : ℕ) → clock_at fresh p ≡ 0
zeros p = replicate_each (λ n. n ≡ 0) 16 0 0 refl refl p

-- a room in which nothing has happened
pub fresh_sound : (st : RoomState) → 1 ≤ st.count → st.count ≤ 16 → 1 ≤ st.quota → st.count * st.quota ≤ 256 → st.seats ≡ replicate 16 fresh → RoomInvariant st
fresh_sound st some few quotaed small seats =
    record {
      some = some;
      few = few;
      quotaed = quotaed;
      small = small;
      table = ap length seats;
      whole = λ s lt. subst (λ (l : List Seat). length (get_or l s blank).clock.entries ≡ 16) (sym seats) (replicate_below (λ x. length x.clock.entries ≡ 16) 16 fresh blank refl s lt);
      within = each (Within st.quota) (λ p. let z = zeros p in omega arith) (λ p. omega arith);
      nobody = each (Nobody st.count) (λ p h. zeros p) (λ p h. refl);
      placed = each (λ x. x.held ≤ st.count * st.quota) (omega arith) (omega arith);
    }
  where
    each : (P : Seat → Type 0) → P fresh → P blank → (s : ℕ) → P (seat_at st s)
    each P f b s = subst (λ (l : List Seat). P (get_or l s blank)) (sym seats) (replicate_each P 16 fresh blank f b s)

module _ {B : Type 0} (w : Configuration B) (opens : InitialConfiguration w) where
  each : (P : Seat → Type 0) → P fresh → P blank → (s : ℕ) → P (seat_at w.room s)
  each P f b s = subst (λ (l : List Seat). P (get_or l s blank)) (sym opens.seats) (replicate_each P 16 fresh blank f b s)

  at_opening : worlds.InitialWorld (view w)
  at_opening = record {
    clock = λ s p. cut_any w.room.count s (λ b. b.clock p ≡ 0) (box_of w s) no_box (λ lt. each (λ x. clock_at x p ≡ 0) (zeros p) refl s) refl;
    log = λ s. cut_any w.room.count s (λ b. b.log ≡ []) (box_of w s) no_box
        (λ lt. ap (λ (n : ℕ). take n (drop (start w.room s) w.logs)) (each (λ x. log_length x ≡ 0) refl refl s)) refl;
    hold = λ s. cut_any w.room.count s (λ b. b.hold ≡ []) (box_of w s) no_box
        (λ lt. ap (λ (n : ℕ). take n (drop (start w.room s) w.holds)) (each (λ x. x.held ≡ 0) refl refl s)) refl;
    docket = λ s. cut_any w.room.count s (λ b. b.docket ≡ Clear) (box_of w s) no_box (λ lt. each (λ x. x.docket ≡ Clear) refl refl s) refl;
    waiting = λ s. cut_any w.room.count s (λ l. l ≡ []) (w.carrier.waiting s) [] (λ lt. opens.empty s) refl;
  }

  pub begins : Lives [] w
  begins = record {
    fit = fresh_sound w.room opens.some_seats opens.few_seats opens.some_quota opens.few_letters opens.seats;
    logs = opens.logs;
    holds = opens.holds;
    past = [];
    run = runs.opened at_opening;
    events_are = refl;
    postings_are = refl;
  }
