-- Dockets that are out at a room: they are gathered seat after seat, and parked one after the other.
use Rattle.std.proofs.Common.{◌≡◌, ℕ, zero, suc, ◌<◌, ◌≤◌, Bool, true, false, cond, ◌&&◌, ◌↔◌, ◌⊎◌, List, [], ◌∷◌, ◌++◌, nat_lt, length, Some, None, Ok, Err, Result, IsOk, ◌==◌, sym, refl, ap, ◌∙◌, subst, inl, inr, ⊎_elim, append-nil, arith}
use Rattle.std.specs.Option.{option_to_list}
use Rattle.std.proofs.lemmas.List.{get_or-set_same, get_or-set_other}
use Rattle.std.proofs.lemmas.Bool.{and_right, both_ways, cases_lt, cond-true, cond-false}
use Rattle.std.proofs.lemmas.Bool.Decides.{nat_tests}
use Rattle.letters.specs.Lists.{◌∈◌, here, there, NoPair}
use Rattle.letters.specs.Refusals.{unless}
use Rattle.causality.specs.declared.docket.DocketState.{DocketState}
use Rattle.causality.specs.declared.docket.DocketState.TheVariants.{Clear, Out, Parked}
use Rattle.causality.proofs.Lists.{apart_last, by_seat, in_cons, in_last_cases, in_left, in_middle, in_none}
use Rattle.seats.specs.declared.seat.Seat.{Seat}
use Rattle.seats.specs.declared.seat.DocketEvent.TheVariants.{Send, Park}
use Rattle.seats.specs.declared.docket_id.DocketId.{DocketId}
use Rattle.seats.specs.Outcomes.{docket_room, good_docket, newest_docket, park_answer}
use Rattle.seats.specs.Rooms.{RoomState, seat_at, with_seat}
use Rattle.seats.specs.Seats.{allows, blank, clock_at, docket_after, with_docket_event}
use Rattle.rooms.specs.declared.docket.Returned.{Returned}
use Rattle.rooms.specs.States.{docket_as_answer}
use Rattle.rooms.specs.Handing.{AreOut, SameTerms, dockets_below, dockets_out, first_docket, is_out, seat_after_parking}

-- a later docket is not of a later seat
abbrev NotLater : DocketId → DocketId → Type 0
NotLater d k = k.seat ≤ d.seat

-- what a good docket is: that of its seat, which is out
module _ (st : RoomState) (d : DocketId) (good : good_docket st d ≡ true) where
  pub good_out : is_out st d.seat ≡ true
  good_out = grind (arith, nat_tests)

  good_room : d.room ≡ st.number
  good_room = grind (arith, nat_tests)

  good_number : d.number ≡ clock_at (seat_at st d.seat) d.seat
  good_number = grind (arith, nat_tests)

  pub good_is : d ≡ newest_docket st d.seat
  good_is = λ i. record { room = good_room i; seat = d.seat; number = good_number i }

  pub good_seat : d.seat < st.count
  good_seat = grind (arith, nat_tests)

pub out_good : (st : RoomState) (s : ℕ) → is_out st s ≡ true → good_docket st (newest_docket st s) ≡ true
out_good st s out = grind (arith, nat_tests)

-- the dockets are those of the seats below i
abbrev OutBelow : RoomState → ℕ → List DocketId → Type 0
OutBelow st i dockets = record {
  good : (d : DocketId) → (d ∈ dockets) ↔ ((good_docket st d ≡ true) × (d.seat < i));
  in_turn : NoPair NotLater dockets;
}

none_gathered : (st : RoomState) → OutBelow st 0 []
none_gathered st = record { good = λ d. (λ i. absurd (in_none i), λ g. absurd (omega (arith, g.1))); in_turn = tt }

module _ (st : RoomState) (i : ℕ) (l : List DocketId) (so_far : OutBelow st i l) where
  -- seat i has none out
  gathered_none : is_out st i ≡ false → OutBelow st (suc i) l
  gathered_none not_out = record { good = λ d. (λ j. into d ((so_far.good d).0 j), λ g. (so_far.good d).1 (g.0, below d g.0 g.1)); in_turn = so_far.in_turn }
    where
      into : (d : DocketId) → (good_docket st d ≡ true) × (d.seat < i) → (good_docket st d ≡ true) × (d.seat < suc i)
      into d g = (g.0, omega (arith, g.1))

      below : (d : DocketId) → good_docket st d ≡ true → d.seat < suc i → d.seat < i
      below d good under =
          ⊎_elim (λ lt. lt) (λ ge. absurd (both_ways (is_out st d.seat) (subst (λ s. is_out st s ≡ false) (omega arith) not_out) (good_out st d good))) (cases_lt d.seat i)

  -- seat i has one out
  gathered_one : is_out st i ≡ true → OutBelow st (suc i) (l ++ (newest_docket st i ∷ []))
  gathered_one out = record { good = λ d. (λ j. into d (in_last_cases (newest_docket st i) l j), λ g. back d g.0 (cases_lt d.seat i) g.1); in_turn = apart }
    where
      into : (d : DocketId) → (d ∈ l) ⊎ (d ≡ newest_docket st i) → (good_docket st d ≡ true) × (d.seat < suc i)
      into d (inl j) = let g = (so_far.good d).0 j in (g.0, omega (arith, g.1))
      into d (inr e) = (subst (λ k. good_docket st k ≡ true) (sym e) (out_good st i out), omega (arith, ap (λ (k : DocketId). k.seat) e))

      back : (d : DocketId) → good_docket st d ≡ true → (d.seat < i) ⊎ (i ≤ d.seat) → d.seat < suc i → d ∈ (l ++ (newest_docket st i ∷ []))
      back d good (inl lt) under = in_left (newest_docket st i ∷ []) ((so_far.good d).1 (good, lt))
      back d good (inr ge) under =
          subst (λ k. k ∈ (l ++ (newest_docket st i ∷ []))) (sym (good_is st d good ∙ ap (newest_docket st) (omega arith))) (in_middle (newest_docket st i) l [])

      apart : NoPair NotLater (l ++ (newest_docket st i ∷ []))
      apart = apart_last NotLater (newest_docket st i) l so_far.in_turn (λ k j le. absurd (omega (arith, ((so_far.good k).0 j).1, le)))

-- The dockets that are out are those that are good.
gathered_next : (st : RoomState) (i : ℕ) (l : List DocketId) → OutBelow st i l → (b : Bool) → is_out st i ≡ b
    → OutBelow st (suc i) (l ++ option_to_list (cond b (Some (newest_docket st i)) None))
gathered_next st i l so_far true out = gathered_one st i l so_far out
gathered_next st i l so_far false out = subst (OutBelow st (suc i)) (sym (append-nil l)) (gathered_none st i l so_far out)

gathered : (st : RoomState) (i : ℕ) → OutBelow st i (dockets_below st i)
gathered st zero = none_gathered st
gathered st (suc i) = gathered_next st i (dockets_below st i) (gathered st i) (is_out st i) refl

pub out_are_good : (st : RoomState) → st.count ≤ 16 → AreOut st (dockets_out st)
out_are_good st few =
    let all = gathered st 16 in
    record {
      good = λ d. (λ j. ((all.good d).0 j).0, λ good. (all.good d).1 (good, omega (arith, good_seat st d good)));
      in_turn = all.in_turn;
    }

-- the first of some dockets
pub some_first : (l others : List DocketId) (d : DocketId) → Some (d, others) ≡ first_docket l → l ≡ d ∷ others
some_first [] others d e = absurd cc
some_first (k ∷ l) others d e = let pair : ◌≡◌ {A = DocketId × List DocketId} (k, l) (d, others) = cc in λ j. (pair j).0 ∷ (pair j).1

pub fewer : (l others : List DocketId) (d : DocketId) → Some (d, others) ≡ first_docket l → length others < length l
fewer l others d e = omega (arith, ap (length {A = DocketId}) (some_first l others d e))

pub none_first : (l : List DocketId) → None ≡ first_docket l → l ≡ []
none_first [] e = refl
none_first (k ∷ l) e = absurd cc

-- Parking.
pub parks : (result : Result (Unit {0}) Returned) → docket_as_answer result ≡ Ok tt → IsOk result
parks (Ok done) e = refl
parks (Err back) e = absurd cc

parked_not_out : (e : DocketState) → allows (docket_after e Park) Send ≡ false
parked_not_out Clear = refl
parked_not_out Out = refl
parked_not_out Parked = refl

-- the dockets are those that are still out, and each seat whose docket is not is as parking leaves it
abbrev pub ParkedOthers : RoomState → RoomState → List DocketId → Type 0
ParkedOthers was st dockets = record {
  out : AreOut st dockets;
  seats : (s : ℕ) → seat_at st s ≡ cond (is_out st s) (seat_at was s) (seat_after_parking was s);
  terms : SameTerms was st;
}

pub none_parked : (was : RoomState) (l : List DocketId) → AreOut was l → ParkedOthers was was l
none_parked was l out = record { out = out; seats = λ s. same s (is_out was s); terms = record { number = refl; names = refl; count = refl; quota = refl } }
  where
    same : (s : ℕ) (b : Bool) → seat_at was s ≡ cond b (seat_at was s) (cond b (with_docket_event (seat_at was s) Park) (seat_at was s))
    same s true = refl
    same s false = refl

pub all_parked : (was st : RoomState) (l : List DocketId) → ParkedOthers was st l → l ≡ [] → (s : ℕ) → seat_at st s ≡ seat_after_parking was s
all_parked was st l p none s = p.seats s ∙ cond-false _ _ _ (not_out (is_out st s) refl)
  where
    not_out : (b : Bool) → is_out st s ≡ b → is_out st s ≡ false
    not_out false e = e
    not_out true e = absurd (in_none (subst (λ (k : List DocketId). newest_docket st s ∈ k) none ((p.out.good (newest_docket st s)).1 (out_good st s e))))

module _ (was st : RoomState) (d : DocketId) (others : List DocketId) (sized : length st.seats ≡ 16) (few : st.count ≤ 16) (p : ParkedOthers was st (d ∷ others)) where
  good : good_docket st d ≡ true
  good = (p.out.good d).0 (here refl)

  pub may_park : park_answer st d ≡ Ok tt
  may_park = ap (λ b. unless b 12 (Ok tt)) good

  abbrev pub st' : RoomState
  st' = with_seat st d.seat (with_docket_event (seat_at st d.seat) Park)

  elsewhere : (s : ℕ) → ¬ (s ≡ d.seat) → seat_at st' s ≡ seat_at st s
  elsewhere s ne = get_or-set_other st.seats d.seat s (with_docket_event (seat_at st d.seat) Park) blank ne

  at_seat : seat_at st' d.seat ≡ with_docket_event (seat_at st d.seat) Park
  at_seat = get_or-set_same st.seats d.seat (with_docket_event (seat_at st d.seat) Park) blank (omega (arith, sized, few, good_seat st d good))

  not_out : is_out st' d.seat ≡ false
  not_out = and_right _ _ (ap (λ (seat : Seat). allows seat.docket Send) at_seat ∙ parked_not_out (seat_at st d.seat).docket)

  same_out : (s : ℕ) → ¬ (s ≡ d.seat) → is_out st' s ≡ is_out st s
  same_out s ne = ap (λ (seat : Seat). nat_lt s st.count && allows seat.docket Send) (elsewhere s ne)

  same_good : (k : DocketId) → ¬ (k.seat ≡ d.seat) → good_docket st' k ≡ good_docket st k
  same_good k ne =
      ap (λ (seat : Seat). (k.room == st.number) && (nat_lt k.seat st.count && (allows seat.docket Send && k.number == clock_at seat k.seat))) (elsewhere k.seat ne)

  other_seat : (k : DocketId) → k ∈ others → ¬ (k.seat ≡ d.seat)
  other_seat k j e = p.out.in_turn.0 k j (omega (arith, e))

  still_good : (k : DocketId) → good_docket st' k ≡ true → ¬ (k.seat ≡ d.seat)
  still_good k g e = both_ways (is_out st' d.seat) not_out (subst (λ s. is_out st' s ≡ true) e (good_out st' k g))

  still_left : (k : DocketId) → good_docket st' k ≡ true → k ∈ others
  still_left k g = go (in_cons ((p.out.good k).1 (sym (same_good k (still_good k g)) ∙ g)))
    where
      go : (k ≡ d) ⊎ (k ∈ others) → k ∈ others
      go (inl e) = absurd (still_good k g (ap (λ (x : DocketId). x.seat) e))
      go (inr j) = j

  at_seat_parked : seat_at st' d.seat ≡ seat_after_parking was d.seat
  at_seat_parked =
      let here' = p.seats d.seat ∙ cond-true _ _ _ (good_out st d good) in
      let was_out = sym (λ j. nat_lt d.seat (p.terms.count j) && allows (here' j).docket Send) in
      at_seat ∙ ap (λ seat. with_docket_event seat Park) here' ∙ sym (cond-true (is_out was d.seat) _ _ (was_out ∙ good_out st d good))

  pub parked_one : ParkedOthers was st' others
  parked_one = record {
    out = record {
      good = λ k. (λ j. same_good k (other_seat k j) ∙ (p.out.good k).0 (there j), still_left k);
      in_turn = p.out.in_turn.1;
    };
    seats = by_seat d.seat (λ s. seat_at st' s ≡ cond (is_out st' s) (seat_at was s) (seat_after_parking was s))
        (at_seat_parked ∙ sym (cond-false _ _ _ not_out))
        (λ s ne. elsewhere s ne ∙ p.seats s ∙ ap (λ b. cond b (seat_at was s) (seat_after_parking was s)) (sym (same_out s ne)));
    terms = record { number = p.terms.number; names = p.terms.names; count = p.terms.count; quota = p.terms.quota };
  }

  pub parked_next : (now : RoomState) → now ≡ docket_room st d.seat Park (park_answer st d) → ParkedOthers was now others
  parked_next now is = subst (λ x. ParkedOthers was x others) (sym (is ∙ ap (docket_room st d.seat Park) may_park)) parked_one
