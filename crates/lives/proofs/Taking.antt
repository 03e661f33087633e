-- An accepted take is a step of a run.
use Rattle.std.proofs.Common.{◌≡◌, ℕ, suc, ◌+◌, ◌*◌, ◌<◌, ◌≤◌, true, false, leb, List, [], ◌∷◌, ◌++◌, length, take, drop, set, Some, None, Ok, Option, sym, refl, ap, ◌∙◌, inl, inr, arith}
use Rattle.std.proofs.lemmas.Bool.{or_cases, or_parts, and_from, eq-eqb, leb-true, ltb-true, eqb-true, leb-false}
use Rattle.std.proofs.lemmas.Bool.Decides.{nat_tests}
use Rattle.letters.specs.declared.letter.Letter.{Letter}
use Rattle.letters.specs.Letters.{number_of}
use Rattle.letters.specs.Order.{SameLetter}
use Rattle.carriers.specs.Meaning.{Drawn, Meaning, waits_at}
use Rattle.letters.specs.Lists.{◌∈◌}
use Rattle.causality.specs.Worlds.{Box}
use Rattle.causality.specs.WorldSteps.{Outcome, Repeat, Stray, WorldTake, among_held, covered, no_place, no_seat, own, past_quota}
use Rattle.causality.specs.WorldSteps as outcome
use Rattle.causality.proofs.Lists.{in_eq, in_middle}
use Rattle.seats.specs.declared.seat.Seat.{Seat}
use Rattle.seats.specs.Outcomes.{first_passing, is_called, is_repeat, is_some, is_stray, take_check}
use Rattle.seats.specs.Rooms.{RoomState, hold_of, seat_at, start, with_seat}
use Rattle.seats.specs.Seats.{clock_at, log_length, with_one_held_more}
use Rattle.lives.specs.Reachability.{Configuration, configuration_of}
use Rattle.seats.specs.Invariants.{RoomInvariant, SeatInvariant}
use Rattle.seats.proofs.Clocks.{row_end, seat_kept}
use Rattle.seats.proofs.Tables.{length_part}
use Rattle.seats.proofs.Views.{hold_gains, hold_rests, written_seat}
use Rattle.lives.proofs.Cut.{cut_one, cut_same}
use Rattle.lives.proofs.Sending.{called}
use Rattle.lives.proofs.Splits.{Nth, first_at, none_passes}
use Rattle.lives.proofs.Views.{at_seat, box_of, elsewhere, log_else, view}

-- what a check that accepts has tested
pub record Takeable {B : Type 0} (st : RoomState) (holds : ℕ) (c : Meaning (Letter B)) (s place : ℕ) : Type 0 where
  pub inside : s < st.count
  pub long : start st st.count ≤ holds
  pub waits : place < waits_at c s

pub takeable : {B : Type 0} (st : RoomState) (logs holds : ℕ) (c : Meaning (Letter B)) (s place : ℕ) → Ok tt ≡ take_check st logs holds c s place
    → Takeable st holds c s place
takeable st logs holds c s place e = record { inside = grind (arith, nat_tests); long = grind (arith, nat_tests); waits = grind (arith, nat_tests) }

-- what a letter that is no stray has been tested for
pub record Fine {B : Type 0} (st : RoomState) (s : ℕ) (m : Letter B) : Type 0 where
  pub poster : m.poster < st.count
  pub other : ¬ (m.poster ≡ s)
  pub quota : number_of m ≤ st.quota
  pub free : (seat_at st s).held < st.count * st.quota

pub fine : {B : Type 0} (st : RoomState) (s : ℕ) (m : Letter B) → is_stray st s m ≡ false → Fine st s m
fine st s m e = record { poster = grind (arith, nat_tests); other = grind (arith, nat_tests); quota = grind (arith, nat_tests); free = grind (arith, nat_tests) }

module _ {B : Type 0} (w : Configuration B) (fit : RoomInvariant w.room) (s : ℕ) (m : Letter B) (inside : s < w.room.count)
    (long : start w.room w.room.count ≤ length w.holds) where
  abbrev st : RoomState
  st = w.room

  abbrev b : Box B
  b = box_of w s

  abbrev H : List (Letter B)
  H = hold_of st w.holds s

  size : length H ≡ (seat_at st s).held
  size = length_part w.holds (start st s) (seat_at st s).held (omega (arith, long, row_end st fit s (seat_at st s).held inside (fit.placed s)))

  pub a_stray : is_stray st s m ≡ true → Stray st.count st.quota s b m
  a_stray e = elim (or_cases _ _ e) [
    | inl h ↦ no_seat (leb-true _ _ h)
    | inr h ↦ elim (or_cases _ _ h) [
      | inl i ↦ own (eqb-true _ _ i)
      | inr i ↦ elim (or_cases _ _ i) [
        | inl j ↦ past_quota (ltb-true _ _ j)
        | inr j ↦ no_place (let most = leb-true _ _ j in let z = size in omega arith)
      ]
    ]
  ]

  pub no_stray : is_stray st s m ≡ false → ¬ (Stray st.count st.quota s b m)
  no_stray e = λ why.
      let f = fine st s m e in
      let poster = f.poster in
      let quota = f.quota in
      let free = f.free in
      let z = size in
      elim why [
        | no_seat h ↦ omega arith
        | own h ↦ f.other h
        | past_quota h ↦ omega arith
        | no_place h ↦ omega arith
      ]

  new_here : is_repeat st w.holds s m ≡ false → clock_at (seat_at st s) m.poster < number_of m
  new_here e = leb-false (number_of m) (clock_at (seat_at st s) m.poster)
      (or_parts (leb (number_of m) (clock_at (seat_at st s) m.poster)) (is_some (first_passing (is_called m.poster (number_of m)) 0 H)) e).0

  not_held : is_repeat st w.holds s m ≡ false → is_some (first_passing (is_called m.poster (number_of m)) 0 H) ≡ false
  not_held e = (or_parts (leb (number_of m) (clock_at (seat_at st s) m.poster)) (is_some (first_passing (is_called m.poster (number_of m)) 0 H)) e).1

  hit : (o : Option (ℕ × Letter B)) → o ≡ first_passing (is_called m.poster (number_of m)) 0 H → is_some o ≡ true → Repeat b m
  hit (Some (i, k)) e yes' =
      let f = first_at (is_called m.poster (number_of m)) H i k (sym e) in
      let is = called m.poster (number_of m) k f.passes in
      among_held k (in_eq (sym f.whole) (in_middle k (take i H) (drop (suc i) H))) (record { poster = sym is.0; number = sym is.1 })
  hit None e yes' = absurd cc

  miss : (o : Option (ℕ × Letter B)) → o ≡ first_passing (is_called m.poster (number_of m)) 0 H → is_some o ≡ false → (k : Letter B) → k ∈ H → ¬ (SameLetter m k)
  miss (Some (i, k)) e no' j l same = absurd cc
  miss None e no' j l same =
      let clash : true ≡ false = sym (and_from _ _ (eq-eqb j.poster m.poster (sym same.poster)) (eq-eqb (number_of j) (number_of m) (sym same.number)))
      ∙ none_passes (is_called m.poster (number_of m)) 0 H (sym e) j l in
      let z : ◌≡◌ {A = ℕ} 0 1 = cc in
      omega arith

  pub a_repeat : is_repeat st w.holds s m ≡ true → Repeat b m
  a_repeat e = elim (or_cases _ _ e) [ inl h ↦ covered (leb-true _ _ h) | inr h ↦ hit (first_passing (is_called m.poster (number_of m)) 0 H) refl h ]

  pub no_repeat : is_repeat st w.holds s m ≡ false → ¬ (Repeat b m)
  no_repeat e = λ why.
      let new = new_here e in
      elim why [
        | covered h ↦ omega arith
        | among_held k i same ↦ miss (first_passing (is_called m.poster (number_of m)) 0 H) refl (not_held e) k i same
      ]

module _ {B : Type 0} (w : Configuration B) (fit : RoomInvariant w.room) (c' : Meaning (Letter B)) (s place : ℕ) (m : Letter B)
    (can : Takeable w.room (length w.holds) w.carrier s place) (there : Nth (w.carrier.waiting s) place m) (drawn : Drawn w.carrier s place c') where
  abbrev N : ℕ
  N = w.room.count

  abbrev Q : ℕ
  Q = w.room.quota

  abbrev W : List (Letter B)
  W = w.carrier.waiting s

  others : (t : ℕ) → ¬ (t ≡ s) → (view (configuration_of w.room w.logs w.holds c')).waiting t ≡ (view w).waiting t
  others t ne = cut_same N t (w.carrier.waiting t) (c'.waiting t) [] (λ lt. drawn.others t ne)

  -- a letter that is thrown away
  abbrev pub thrown_moment : Configuration B
  thrown_moment = configuration_of w.room w.logs w.holds c'

  pub thrown_step : Outcome N Q s m (box_of w s) (box_of w s) → WorldTake N Q s place m (view w) (view thrown_moment)
  thrown_step why = record {
    seat = can.inside;
    before = take place W;
    after = drop (suc place) W;
    at = there.at;
    drawn = cut_one N s (λ l. l ≡ take place W ++ (m ∷ drop (suc place) W)) W [] can.inside there.whole;
    left = cut_one N s (λ l. l ≡ take place W ++ drop (suc place) W) (c'.waiting s) [] can.inside drawn.own;
    others = others;
    clock = refl;
    log = refl;
    docket = refl;
    outcome = cut_one N s (λ k. Outcome N Q s m k k) (box_of w s) _ can.inside why;
    elsewhere = λ t ne. refl;
  }

  -- a letter that goes to the end of the hold
  abbrev x : Seat
  x = with_one_held_more (seat_at w.room s)

  abbrev holds' : List (Letter B)
  holds' = set w.holds (start w.room s + (seat_at w.room s).held) m

  abbrev pub held_moment : Configuration B
  held_moment = configuration_of (with_seat w.room s x) w.logs holds' c'

  pub holding_kept : Fine w.room s m → SeatInvariant N Q x
  holding_kept ok =
      let k = seat_kept w.room fit s (omega (arith, can.inside, fit.few)) in
      record { whole = k.whole; within = k.within; nobody = k.nobody; placed = omega (arith, ok.free) }

  at_s : (P : Box B → Box B → Type 0) → P (box_of w s) (box_of held_moment s) → P ((view w).box s) ((view held_moment).box s)
  at_s = at_seat w fit s can.inside x w.logs holds' c'

  pub held_step : is_stray w.room s m ≡ false → is_repeat w.room w.holds s m ≡ false → WorldTake N Q s place m (view w) (view held_moment)
  held_step ok new =
      let told = written_seat w.room fit s can.inside x in
      let free = (fine w.room s m ok).free in
      record {
        seat = can.inside;
        before = take place W;
        after = drop (suc place) W;
        at = there.at;
        drawn = cut_one N s (λ l. l ≡ take place W ++ (m ∷ drop (suc place) W)) W [] can.inside there.whole;
        left = cut_one N s (λ l. l ≡ take place W ++ drop (suc place) W) (c'.waiting s) [] can.inside drawn.own;
        others = others;
        clock = at_s (λ b b'. b'.clock ≡ b.clock) (ap clock_at told);
        log = at_s (λ b b'. b'.log ≡ b.log) (ap (λ (y : Seat). take (log_length y) (drop (start w.room s) w.logs)) told);
        docket = at_s (λ b b'. b'.docket ≡ b.docket) (ap (λ (y : Seat). y.docket) told);
        outcome = at_s (λ b b'. Outcome N Q s m b b')
            (outcome.held (no_stray w fit s m can.inside can.long ok) (no_repeat w fit s m can.inside can.long new)
            (hold_gains w.room fit w.holds s can.inside x m refl free can.long));
        elsewhere = elsewhere w fit s can.inside x w.logs holds' c' (λ t lt. log_else w fit s can.inside x t)
            (λ t lt. hold_rests w.room fit w.holds s can.inside x m refl free can.long t);
      }
