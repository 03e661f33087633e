-- An accepted post is a step of a run.
use Rattle.std.proofs.Common.{◌≡◌, ℕ, ◌+◌, ◌*◌, ◌<◌, ◌≤◌, true, List, [], ◌∷◌, ◌++◌, length, take, drop, Ok, sym, refl, ap, ◌∙◌, arith}
use Rattle.std.proofs.lemmas.List.{get_or-set_other}
use Rattle.std.proofs.lemmas.Bool.Decides.{nat_tests}
use Rattle.letters.specs.declared.letter.Letter.{Letter}
use Rattle.letters.specs.declared.parts.Parts.{Parts}
use Rattle.letters.specs.Letters.{entry_at, number_of}
use Rattle.causality.specs.declared.docket.DocketState.{DocketState}
use Rattle.causality.specs.declared.docket.DocketState.TheVariants.{Clear, Out, Parked}
use Rattle.causality.specs.Worlds.{Box}
use Rattle.causality.specs.WorldSteps.{WorldPost}
use Rattle.seats.specs.declared.seat.Seat.{Seat}
use Rattle.seats.specs.declared.seat.DocketEvent.TheVariants.{Post}
use Rattle.seats.specs.declared.docket_id.DocketId.{DocketId}
use Rattle.seats.specs.Outcomes.{Posted, newest_docket, post_answer, room_with_post, seat_with_post}
use Rattle.seats.specs.Rooms.{RoomState, log_of, seat_at, start, with_seat}
use Rattle.seats.specs.Seats.{allows, clock_at, docket_after, log_length, with_docket_event}
use Rattle.lives.specs.Reachability.{Configuration, configuration_of}
use Rattle.seats.specs.Invariants.{RoomInvariant, SeatInvariant}
use Rattle.seats.proofs.Clocks.{clocked_kept, clocked_own, log_short}
use Rattle.seats.proofs.Views.{log_gains, log_stays, written_seat}
use Rattle.lives.proofs.Clocks.{one_longer}
use Rattle.lives.proofs.Views.{at_seat, box_of, docketed_kept, elsewhere, hold_else, view}

was_clear : (k : DocketState) → allows k Post ≡ true → k ≡ Clear
was_clear Clear e = refl
was_clear Out e = absurd cc
was_clear Parked e = absurd cc

-- what a post that is accepted has tested, and what it answers
record Accepted (st : RoomState) (logs s : ℕ) (d : DocketId) : Type 0 where
  inside : s < st.count
  clear : allows (seat_at st s).docket Post ≡ true
  left : clock_at (seat_at st s) s < st.quota
  long : start st st.count ≤ logs
  docket_id : d ≡ newest_docket (room_with_post st s) s

accepted : (st : RoomState) (logs holds s : ℕ) (d : DocketId) → Ok d ≡ post_answer st logs holds s → Accepted st logs s d
accepted st logs holds s d e = record {
  inside = grind (arith, nat_tests);
  clear = grind (arith, nat_tests);
  left = grind (arith, nat_tests);
  long = grind (arith, nat_tests);
  docket_id = grind (arith, nat_tests);
}

module _ {B : Type 0} (w : Configuration B) (fit : RoomInvariant w.room) (logs' : List (Letter B)) (s : ℕ) (body : B) (d : DocketId)
    (e : Ok d ≡ post_answer w.room (length w.logs) (length w.holds) s) (added : Posted w.room s body w.logs logs') where
  abbrev st : RoomState
  st = w.room

  abbrev x : Seat
  x = seat_with_post (seat_at st s) s

  abbrev m : Letter B
  m = added.letter

  was : Accepted st (length w.logs) s d
  was = accepted st (length w.logs) (length w.holds) s d e

  inside : s < st.count
  inside = was.inside

  kept : SeatInvariant st.count st.quota (with_docket_event (seat_at st s) Post)
  kept = docketed_kept w fit s inside Post w.carrier

  pub posted_kept : SeatInvariant st.count st.quota x
  posted_kept = clocked_kept st.count st.quota fit.few (with_docket_event (seat_at st s) Post) kept s inside (clock_at (seat_at st s) s + 1) (omega (arith, was.left))

  own : clock_at x s ≡ clock_at (seat_at st s) s + 1
  own = clocked_own st.count st.quota fit.few (with_docket_event (seat_at st s) Post) kept s inside (clock_at (seat_at st s) s + 1)

  more : log_length x ≡ log_length (seat_at st s) + 1
  more = one_longer st.count st.quota fit.few (with_docket_event (seat_at st s) Post) kept s inside

  short : log_length (seat_at st s) < st.count * st.quota
  short = log_short st.count st.quota fit.few (with_docket_event (seat_at st s) Post) kept s inside was.left

  told : seat_at (with_seat st s x) s ≡ x
  told = written_seat st fit s inside x

  abbrev pub posted_moment : Configuration B
  posted_moment = configuration_of (room_with_post st s) logs' w.holds w.carrier

  at_s : (P : Box B → Box B → Type 0) → P (box_of w s) (box_of posted_moment s) → P ((view w).box s) ((view posted_moment).box s)
  at_s = at_seat w fit s inside x logs' w.holds w.carrier

  clear : (seat_at st s).docket ≡ Clear
  clear = was_clear _ was.clear

  poster : m.poster ≡ s
  poster = ap (λ (p : Parts B). p.poster) added.made

  pub its_body : m.body ≡ body
  its_body = ap (λ (p : Parts B). p.body) added.made

  stamp : (p : ℕ) → entry_at m.stamp p ≡ clock_at x p
  stamp p = ap (λ (q : Parts B). entry_at q.stamp p) added.made

  gains : log_of (with_seat st s x) logs' s ≡ log_of st w.logs s ++ (m ∷ [])
  gains = ap (λ l. log_of (with_seat st s x) l s) added.table ∙ log_gains st fit w.logs s inside x m more short was.long

  stays : (t : ℕ) → t < st.count → ¬ (t ≡ s) → log_of (with_seat st s x) logs' t ≡ log_of st w.logs t
  stays t lt ne = ap (λ l. log_of (with_seat st s x) l t) added.table ∙ log_stays st fit w.logs s inside x m more short was.long t ne

  pub posts_step : WorldPost st.count st.quota s m (view w) (view posted_moment)
  posts_step = record {
    seat = inside;
    quota = at_s (λ b b'. b.clock s < st.quota) was.left;
    before = at_s (λ b b'. b.docket ≡ Clear) clear;
    poster = poster;
    own = at_s (λ b b'. entry_at m.stamp s ≡ b.clock s + 1) (stamp s ∙ own);
    rest = λ p ne. at_s (λ b b'. entry_at m.stamp p ≡ b.clock p)
        (stamp p ∙ get_or-set_other (seat_at st s).clock.entries s p (clock_at (seat_at st s) s + 1) 0 ne);
    clock = λ p. at_s (λ b b'. b'.clock p ≡ entry_at m.stamp p) (ap (λ (y : Seat). clock_at y p) told ∙ sym (stamp p));
    log = at_s (λ b b'. b'.log ≡ b.log ++ (m ∷ [])) gains;
    hold = at_s (λ b b'. b'.hold ≡ b.hold) (ap (λ (y : Seat). take y.held (drop (start st s) w.holds)) told);
    docket = at_s (λ b b'. b'.docket ≡ Out) (ap (λ (y : Seat). y.docket) told ∙ ap (λ (k : DocketState). docket_after k Post) clear);
    elsewhere = elsewhere w fit s inside x logs' w.holds w.carrier stays (λ t lt. hold_else w fit s inside x t);
    waiting = λ t. refl;
  }

  -- the docket's number is the letter's
  pub post_number : number_of m ≡ d.number
  post_number =
      ap (entry_at m.stamp) poster ∙ stamp s
      ∙ sym (ap (λ (k : DocketId). k.number) was.docket_id ∙ ap (λ (y : Seat). clock_at y s) told)

  pub post_poster : m.poster ≡ s
  post_poster = poster

  pub post_inside : s < st.count
  post_inside = inside
