-- What each call leaves of a docket that is in hand, and of a room's number.
use Rattle.std.proofs.Common.{◌≡◌, ℕ, zero, suc, ◌<◌, ◌≤◌, ◌≢◌, Bool, true, List, length, Some, None, Option, Ok, Err, Result, ◌&&◌, ◌==◌, nat_lt, sym, refl, ap, ◌∙◌, subst, ⊎_elim, arith}
use Rattle.std.proofs.lemmas.List.{get_or-set_same, get_or-set_other}
use Rattle.std.proofs.lemmas.Bool.{cases_eq}
use Rattle.std.proofs.lemmas.Bool.Decides.{nat_tests}
use Rattle.causality.specs.declared.docket.DocketState.{DocketState}
use Rattle.causality.specs.declared.docket.DocketState.TheVariants.{Clear, Out, Parked}
use Rattle.letters.specs.declared.letter.Letter.{Letter}
use Rattle.letters.specs.Letters.{number_of}
use Rattle.letters.specs.Names.{Name}
use Rattle.letters.specs.Refusals.{Reason}
use Rattle.letters.specs.Order.{each_below}
use Rattle.carriers.specs.Meaning.{Meaning}
use Rattle.seats.specs.declared.seat.Seat.{Seat}
use Rattle.seats.specs.declared.seat.DocketEvent.TheVariants.{Send, Post}
use Rattle.seats.specs.declared.docket_id.DocketId.{DocketId}
use Rattle.seats.specs.Outcomes.{TakeKind, TakeLeaves, after_answer, answer_then, first_ready, good_docket, held, kind_of_take, or_none_ready, post_answer, repeat, seat_check, seat_with_post, seat_with_show, show_outcome, show_room, stray, take_room}
use Rattle.seats.specs.Rooms.{RoomState, hold_of, seat_at, with_seat}
use Rattle.seats.specs.Seats.{allows, blank, clock_at, with_one_held_more}
use Rattle.seats.proofs.Searches.{found}
use Rattle.rooms.specs.Calls.{post_room}
use Rattle.rooms.specs.RoomReading.{all_clear, close_check}
use Rattle.rooms.specs.declared.docket.Docket.{Docket}
use Rattle.rooms.specs.declared.room.Room.{Room}
use Rattle.rooms.specs.States.{id_of, state}
use Rattle.rooms_check.specs.Hands.{good_in}

-- no seat whose docket is out may post
posts_or_sends : (x : DocketState) → allows x Post ≡ true → allows x Send ≡ true → ⊥
posts_or_sends Clear post send = absurd cc
posts_or_sends Out post send = absurd cc
posts_or_sends Parked post send = absurd cc

-- the number of a room, after a call that writes a seat
number_after : {X : Type 0} (st : RoomState) (s : ℕ) (f : X → Seat) (answer : Result X Reason) → (after_answer answer (λ x. with_seat st s (f x)) st).number ≡ st.number
number_after st s f (Ok x) = refl
number_after st s f (Err why) = refl

-- a docket is good at a room by the room's terms and its seat
abbrev good_at : RoomState → DocketId → Seat → Bool
good_at st d seat = (d.room == st.number) && (nat_lt d.seat st.count && (allows seat.docket Send && d.number == clock_at seat d.seat))

good_out : (st : RoomState) (d : DocketId) → good_docket st d ≡ true → allows (seat_at st d.seat).docket Send ≡ true
good_out st d good = grind (arith, nat_tests)

good_seat : (st : RoomState) (d : DocketId) → good_docket st d ≡ true → d.seat < st.count
good_seat st d good = grind (arith, nat_tests)

module _ (st : RoomState) (d : DocketId) (good : good_docket st d ≡ true) where
  -- another seat is written
  other_keeps : (s : ℕ) (x : Seat) → d.seat ≢ s → good_docket (with_seat st s x) d ≡ true
  other_keeps s x ne = ap (good_at st d) (get_or-set_other st.seats s d.seat x blank ne) ∙ good

  -- a seat is written, with neither its docket nor its own entry moved
  same_keeps : st.count ≤ length st.seats → (s : ℕ) (x : Seat) → x.docket ≡ (seat_at st s).docket → clock_at x s ≡ clock_at (seat_at st s) s → good_docket (with_seat st s x) d ≡ true
  same_keeps few s x docket clock = ⊎_elim here (other_keeps s x) (cases_eq d.seat s)
    where
      here : d.seat ≡ s → good_docket (with_seat st s x) d ≡ true
      here e =
          let told : seat_at (with_seat st s x) s ≡ x = get_or-set_same st.seats s x blank (omega (arith, good_seat st d good)) in
          let there : seat_at (with_seat st s x) d.seat ≡ x = ap (seat_at (with_seat st s x)) e ∙ told in
          let was : good_at st d (seat_at st d.seat) ≡ true = good in
          let docket' : x.docket ≡ (seat_at st d.seat).docket = docket ∙ ap (λ t. (seat_at st t).docket) (sym e) in
          let clock' : clock_at x d.seat ≡ clock_at (seat_at st d.seat) d.seat = ap (clock_at x) e ∙ clock ∙ ap (λ t. clock_at (seat_at st t) t) (sym e) in
          ap (good_at st d) there
          ∙ (λ i. (d.room == st.number) && (nat_lt d.seat st.count && (allows (docket' i) Send && d.number == clock' i)))
          ∙ was

  posted_other : (s : ℕ) → allows (seat_at st s).docket Post ≡ true → d.seat ≢ s
  posted_other s can e = posts_or_sends (seat_at st s).docket can (ap (λ t. allows (seat_at st t).docket Send) (sym e) ∙ good_out st d good)

-- an accepted post
post_clear : (st : RoomState) (logs holds s : ℕ) (new : DocketId) → Ok new ≡ post_answer st logs holds s → allows (seat_at st s).docket Post ≡ true
post_clear st logs holds s new can = grind (arith, nat_tests)

-- what a call leaves of a docket that is good
post_keeps : (st : RoomState) (logs holds s : ℕ) (d : DocketId) → good_docket st d ≡ true → good_docket (post_room st (post_answer st logs holds s) s) d ≡ true
post_keeps st logs holds s d good = told (post_answer st logs holds s) refl
  where
    told : (r : Result DocketId Reason) → r ≡ post_answer st logs holds s → good_docket (post_room st r s) d ≡ true
    told (Ok new) can = other_keeps st d good s (seat_with_post (seat_at st s) s) (posted_other st d good s (post_clear st logs holds s new can))
    told (Err why) can = good

-- the room after a letter is taken
taken_keeps : (st : RoomState) (how : TakeKind) (s : ℕ) (d : DocketId) → st.count ≤ length st.seats → good_docket st d ≡ true → good_docket (take_room st how s) d ≡ true
taken_keeps st stray s d few good = good
taken_keeps st repeat s d few good = good
taken_keeps st held s d few good = same_keeps st d good few s (with_one_held_more (seat_at st s)) refl refl

module _ {B : Type 0} where
  take_keeps : (r : Result (Unit {0}) Reason) (st : RoomState) (holds : List (Letter B)) (c : Meaning (Letter B)) (s place : ℕ) (answer : Result (TakeKind × Name) Reason) (st' : RoomState) (holds' : List (Letter B)) (c' : Meaning (Letter B))
      → TakeLeaves r st holds c s place answer st' holds' c' → (d : DocketId) → st.count ≤ length st.seats → good_docket st d ≡ true → good_docket st' d ≡ true
  take_keeps (Ok done) st holds c s place answer st' holds' c' takes d few good =
      subst (λ (x : RoomState). good_docket x d ≡ true) (sym takes.room) (taken_keeps st (kind_of_take st holds s takes.letter) s d few good)
  take_keeps (Err why) st holds c s place answer st' holds' c' nothing d few good = subst (λ (x : RoomState). good_docket x d ≡ true) (sym nothing.room) good

  pub take_number : (r : Result (Unit {0}) Reason) (st : RoomState) (holds : List (Letter B)) (c : Meaning (Letter B)) (s place : ℕ) (answer : Result (TakeKind × Name) Reason) (st' : RoomState) (holds' : List (Letter B)) (c' : Meaning (Letter B))
      → TakeLeaves r st holds c s place answer st' holds' c' → st'.number ≡ st.number
  take_number (Ok done) st holds c s place answer st' holds' c' takes = ap (λ (x : RoomState). x.number) takes.room ∙ told (kind_of_take st holds s takes.letter)
    where
      told : (how : TakeKind) → (take_room st how s).number ≡ st.number
      told stray = refl
      told repeat = refl
      told held = refl
  take_number (Err why) st holds c s place answer st' holds' c' nothing = ap (λ (x : RoomState). x.number) nothing.room

  -- a letter that is shown is another seat's
  first_shown : (c : Result (Unit {0}) Reason) (o : Option (ℕ × Letter B)) (f : ℕ × Letter B) → Ok f ≡ answer_then c (or_none_ready o) → Some f ≡ o
  first_shown (Ok yes') (Some g) f e = cc
  first_shown (Ok yes') None f e = absurd cc
  first_shown (Err why) o f e = absurd cc

  shown_other : (st : RoomState) (logs : ℕ) (holds : List (Letter B)) (s k : ℕ) (m : Letter B) → Ok (k, m) ≡ show_outcome st logs holds s → s ≢ m.poster
  shown_other st logs holds s k m e =
      let h = found _ 0 (hold_of st holds s) k m (sym (first_shown (seat_check st logs (length holds) s) (first_ready st holds s) (k, m) e)) in
      let is = h.passes in
      grind (arith, nat_tests)

  show_keeps : (st : RoomState) (logs : ℕ) (holds : List (Letter B)) (s : ℕ) (d : DocketId) → st.count ≤ length st.seats → good_docket st d ≡ true → good_docket (show_room st (show_outcome st logs holds s) s) d ≡ true
  show_keeps st logs holds s d few good = told (show_outcome st logs holds s) refl
    where
      told : (r : Result (ℕ × Letter B) Reason) → r ≡ show_outcome st logs holds s → good_docket (show_room st r s) d ≡ true
      told (Ok (k, m)) e =
          same_keeps st d good few s (seat_with_show (seat_at st s) m) refl (get_or-set_other (seat_at st s).clock.entries m.poster s (number_of m) 0 (shown_other st logs holds s k m e))
      told (Err why) e = good

-- a test of each number below a bound, at one of them
each_there : (test : ℕ → Bool) (n k : ℕ) → k < n → each_below test n ≡ true → test k ≡ true
each_there test zero k lt all = absurd (omega arith)
each_there test (suc n) k lt all =
    let first : test n ≡ true = grind (arith, nat_tests) in
    let rest : each_below test n ≡ true = grind (arith, nat_tests) in
    ⊎_elim (λ (same : k ≡ n). ap test same ∙ first) (λ ne. each_there test n k (omega (arith, ne)) rest) (cases_eq k n)

-- no docket is good at a room that may close
clear_out : (st : RoomState) (d : DocketId) → good_docket st d ≡ true → all_clear st ≡ true → ⊥
unfolding all_clear
clear_out st d good clear = posts_or_sends (seat_at st d.seat).docket (each_there _ st.count d.seat (good_seat st d good) clear) (good_out st d good)

-- the number of a room after a post and after a show
module _ (room room' : Room) where
  pub post_number : (logs holds s : ℕ) → state room' ≡ post_room (state room) (post_answer (state room) logs holds s) s → (state room').number ≡ (state room).number
  post_number logs holds s is = ap (λ (x : RoomState). x.number) is ∙ number_after (state room) s (λ d. seat_with_post (seat_at (state room) s) s) (post_answer (state room) logs holds s)

  pub show_number : {B : Type 0} (logs : ℕ) (holds : List (Letter B)) (s : ℕ) → state room' ≡ show_room (state room) (show_outcome (state room) logs holds s) s → (state room').number ≡ (state room).number
  show_number logs holds s is = ap (λ (x : RoomState). x.number) is ∙ number_after (state room) s (λ f. seat_with_show (seat_at (state room) s) f.1) (show_outcome (state room) logs holds s)

-- of what a hand has
lift : (room room' : Room) (hand : Option Docket) → ((d : Docket) → good_docket (state room) (id_of d) ≡ true → good_docket (state room') (id_of d) ≡ true) → good_in (Some room) hand ≡ true → good_in (Some room') hand ≡ true
lift room room' None guarantees good = refl
lift room room' (Some d) guarantees good = guarantees d good

-- in a room that may close, no hand has anything
pub closed_in : (room : Room) (hand : Option Docket) → good_in (Some room) hand ≡ true → Ok tt ≡ close_check (state room) → good_in None hand ≡ true
closed_in room None good can = refl
closed_in room (Some d) good can =
    let clear : all_clear (state room) ≡ true = grind (arith, nat_tests) in
    absurd (clear_out (state room) (id_of d) good clear)

module _ (room room' : Room) (hand : Option Docket) (good : good_in (Some room) hand ≡ true) where
  by_state : ((d : DocketId) → good_docket (state room) d ≡ true → good_docket (state room') d ≡ true) → good_in (Some room') hand ≡ true
  by_state guarantees = lift room room' hand (λ d was. guarantees (id_of d) was) good

  few : (state room).count ≤ length (state room).seats
  few = omega (arith, room.table, room.terms.few)

  pub post_in : (logs holds s : ℕ) → state room' ≡ post_room (state room) (post_answer (state room) logs holds s) s → good_in (Some room') hand ≡ true
  post_in logs holds s is = by_state (λ d was. subst (λ (x : RoomState). good_docket x d ≡ true) (sym is) (post_keeps (state room) logs holds s d was))

  module _ {B : Type 0} where
    pub take_in : (r : Result (Unit {0}) Reason) (holds : List (Letter B)) (c : Meaning (Letter B)) (s place : ℕ) (answer : Result (TakeKind × Name) Reason) (holds' : List (Letter B)) (c' : Meaning (Letter B))
        → TakeLeaves r (state room) holds c s place answer (state room') holds' c' → good_in (Some room') hand ≡ true
    take_in r holds c s place answer holds' c' take = by_state (λ d was. take_keeps r (state room) holds c s place answer (state room') holds' c' take d few was)

    pub show_in : (logs : ℕ) (holds : List (Letter B)) (s : ℕ) → state room' ≡ show_room (state room) (show_outcome (state room) logs holds s) s → good_in (Some room') hand ≡ true
    show_in logs holds s is = by_state (λ d was. subst (λ (x : RoomState). good_docket x d ≡ true) (sym is) (show_keeps (state room) logs holds s d few was))
