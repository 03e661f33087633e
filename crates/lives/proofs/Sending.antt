-- An accepted send is a step of a run.
use Rattle.std.proofs.Common.{◌≡◌, ℕ, suc, ◌<◌, true, false, List, [], ◌∷◌, ◌++◌, length, take, drop, Some, None, Ok, Err, Option, Result, sym, refl, ap, ◌∙◌, subst, arith}
use Rattle.std.proofs.lemmas.Bool.{and_from, eq-eqb}
use Rattle.std.proofs.lemmas.Bool.Decides.{nat_tests}
use Rattle.letters.specs.declared.letter.Letter.{Letter}
use Rattle.letters.specs.Letters.{letter_name, number_of}
use Rattle.letters.specs.Names.{name_from}
use Rattle.letters.specs.Refusals.{Reason}
use Rattle.carriers.specs.Meaning.{Meaning, PutOn}
use Rattle.carriers.specs.Putting.{Gains}
use Rattle.causality.specs.declared.docket.DocketState.{DocketState}
use Rattle.causality.specs.declared.docket.DocketState.TheVariants.{Clear, Out, Parked}
use Rattle.causality.specs.Worlds.{Box}
use Rattle.causality.specs.WorldSteps.{WorldSend}
use Rattle.seats.specs.declared.seat.DocketEvent.TheVariants.{Send}
use Rattle.seats.specs.declared.docket_id.DocketId.{DocketId}
use Rattle.seats.specs.Outcomes.{answer_then, carrier_check, first_passing, is_called, or_missing, park_answer, send_letter}
use Rattle.seats.specs.Rooms.{RoomState, log_of, seat_at}
use Rattle.seats.specs.Seats.{allows, clock_at, docket_after, with_docket_event}
use Rattle.lives.specs.Reachability.{Configuration, letter_at}
use Rattle.seats.specs.Invariants.{RoomInvariant}
use Rattle.lives.proofs.Cut.{cut_same, cut_two}
use Rattle.lives.proofs.Views.{at_seat, box_of, docket_moment, docket_moves, view}
use Rattle.lives.proofs.Splits.{First, first_at}

pub was_out : (k : DocketState) → allows k Send ≡ true → k ≡ Out
was_out Out e = refl
was_out Clear e = absurd cc
was_out Parked e = absurd cc

-- what a docket that is good has been tested for
pub record Good (st : RoomState) (d : DocketId) : Type 0 where
  pub inside : d.seat < st.count
  pub out : allows (seat_at st d.seat).docket Send ≡ true
  pub last : d.number ≡ clock_at (seat_at st d.seat) d.seat

pub good : (st : RoomState) (d : DocketId) → Ok tt ≡ park_answer st d → Good st d
good st d e = record { inside = grind (arith, nat_tests); out = grind (arith, nat_tests); last = grind (arith, nat_tests) }

served : (st : RoomState) (logs holds seats : ℕ) → Ok tt ≡ carrier_check st logs holds seats → seats ≡ st.count
served st logs holds seats e = grind (arith, nat_tests)

three_yes : {X : Type 0} (a b : Result (Unit {0}) Reason) (o : Option (ℕ × X)) (x : X) → Ok x ≡ answer_then a (answer_then b (or_missing o))
    → (Ok tt ≡ a) × (Ok tt ≡ b) × ((k : ℕ) × (o ≡ Some (k, x)))
three_yes (Ok yes') (Ok yes'') (Some (k, y)) x e = let is : x ≡ y = cc in (refl, refl, (k, ap (λ z. Some (k, z)) (sym is)))
three_yes (Ok yes') (Ok yes'') None x e = absurd cc
three_yes (Ok yes') (Err why) o x e = absurd cc
three_yes (Err why) b o x e = absurd cc

pub called : {B : Type 0} (p n : ℕ) (m : Letter B) → is_called p n m ≡ true → (m.poster ≡ p) × (number_of m ≡ n)
called p n m e = (grind (arith, nat_tests), grind (arith, nat_tests))

-- the letter that there is to send has the name that the docket gives
pub letter_called : {B : Type 0} (w : Configuration B) (d : DocketId) (m : Letter B) → Ok m ≡ letter_at w d → letter_name m ≡ name_from d.seat d.number
letter_called w d m e =
    let log = log_of w.room w.logs d.seat in
    let was = three_yes (carrier_check w.room (length w.logs) (length w.holds) w.carrier.seats) (park_answer w.room d) (first_passing (is_called d.seat d.number) 0 log) m e in
    let is = called d.seat d.number m (first_at (is_called d.seat d.number) log was.2.0 m was.2.1).passes in
    λ i. name_from (is.0 i) (is.1 i)

module _ {B : Type 0} (w : Configuration B) (fit : RoomInvariant w.room) (c' : Meaning (Letter B)) (d : DocketId) (m : Letter B)
    (e : Ok m ≡ send_letter w.room w.logs (length w.holds) w.carrier.seats d) (put : PutOn w.carrier m.poster m c') where
  abbrev st : RoomState
  st = w.room

  abbrev c : Meaning (Letter B)
  c = w.carrier

  abbrev L : List (Letter B)
  L = log_of st w.logs d.seat

  was : (Ok tt ≡ carrier_check st (length w.logs) (length w.holds) c.seats) × (Ok tt ≡ park_answer st d)
      × ((k : ℕ) × (first_passing (is_called d.seat d.number) 0 L ≡ Some (k, m)))
  was = three_yes (carrier_check st (length w.logs) (length w.holds) c.seats) (park_answer st d) (first_passing (is_called d.seat d.number) 0 L) m e

  pub ok : Good st d
  ok = good st d was.1

  pub send_inside : d.seat < st.count
  send_inside = ok.inside

  seats : c.seats ≡ st.count
  seats = served st (length w.logs) (length w.holds) c.seats was.0

  abbrev k : ℕ
  k = was.2.0

  found : First (is_called d.seat d.number) L k m
  found = first_at _ L k m was.2.1

  is : (m.poster ≡ d.seat) × (number_of m ≡ d.number)
  is = called d.seat d.number m found.passes

  abbrev pub sent_moment : Configuration B
  sent_moment = docket_moment w fit d.seat ok.inside Send c'

  at_s : (P : Box B → Box B → Type 0) → P (box_of w d.seat) (box_of sent_moment d.seat) → P ((view w).box d.seat) ((view sent_moment).box d.seat)
  at_s = at_seat w fit d.seat ok.inside (with_docket_event (seat_at st d.seat) Send) w.logs w.holds c'

  out : (seat_at st d.seat).docket ≡ Out
  out = was_out _ ok.out

  pub sends_step : WorldSend st.count st.quota d.seat m (view w) (view sent_moment)
  sends_step = record {
    seat = ok.inside;
    above = take k L;
    below = drop (suc k) L;
    found = at_s (λ b b'. b.log ≡ take k L ++ (m ∷ drop (suc k) L)) found.whole;
    is = record { poster = is.0; number = at_s (λ b b'. number_of m ≡ b.clock d.seat) (is.1 ∙ ok.last) };
    first = λ j i so.
        let last = at_s (λ b b'. number_of j ≡ b.clock d.seat → number_of j ≡ d.number) (λ q. q ∙ sym ok.last) so.number in
        let clash : true ≡ false = sym (and_from _ _ (eq-eqb j.poster d.seat so.poster) (eq-eqb (number_of j) d.number last)) ∙ found.before j i in
        let z : ◌≡◌ {A = ℕ} 0 1 = cc in
        omega arith;
    moves = docket_moves w fit d.seat ok.inside Send c' Out Clear out (ap (λ (y : DocketState). docket_after y Send) out);
    put = record {
      own = cut_same st.count d.seat (c.waiting d.seat) (c'.waiting d.seat) []
          (λ lt. subst (λ (t : ℕ). c'.waiting t ≡ c.waiting t) is.0 put.lists.own);
      others = λ t lt ne. cut_two st.count t (λ l l'. Gains m l l') (c.waiting t) (c'.waiting t) [] lt
          (put.lists.others t (omega (arith, seats)) (λ q. ne (q ∙ is.0)));
    };
  }
