-- Each step of a room is a step of the run behind it, or leaves all as it was.
use Rattle.std.proofs.Common.{◌≡◌, ℕ, ◌+◌, ◌-◌, ◌^◌, ◌<◌, ◌≤◌, min, Bool, true, false, cond, List, [], ◌∷◌, length, get_or, Ok, Err, Result, sym, refl, ap, ◌∙◌, arith}
use Rattle.std.proofs.lemmas.List.{length-set}
use Rattle.std.proofs.lemmas.Bool.Decides.{nat_tests}
use Rattle.letters.specs.declared.letter.Letter.{Letter}
use Rattle.letters.specs.Letters.{letter_name}
use Rattle.letters.specs.Names.{Name, name_from}
use Rattle.letters.specs.Refusals.{Reason}
use Rattle.carriers.specs.Meaning.{Meaning, put_answer}
use Rattle.causality.specs.declared.docket.DocketState.{DocketState}
use Rattle.causality.specs.declared.docket.DocketState.TheVariants.{Clear, Out, Parked}
use Rattle.causality.specs.History.{posted, shown}
use Rattle.causality.specs.Runs.{Run}
use Rattle.causality.specs.Runs as runs
use Rattle.causality.specs.WorldSteps as steps
use Rattle.seats.specs.declared.seat.DocketEvent.{DocketEvent}
use Rattle.seats.specs.declared.seat.DocketEvent.TheVariants.{Send, Park, Collect}
use Rattle.seats.specs.declared.docket_id.DocketId.{DocketId}
use Rattle.seats.specs.Outcomes.{PostLogs, PutOf, TakeLeaves, TakeAccepted, TakeKind, stray, repeat, held, after_answer, collect_answer, docket_room, park_answer, post_answer, room_with_post, put_letter, send_letter, show_answer, show_holds, show_logs, show_outcome, show_room, take_check, take_holds, take_room, kind_of_take}
use Rattle.seats.specs.Rooms.{RoomState, foot, seat_at, start, with_seat}
use Rattle.seats.specs.Seats.{allows, docket_after, with_docket_event}
use Rattle.lives.specs.declared.operation.Operation.{Operation}
use Rattle.lives.specs.declared.operation.Operation.TheVariants as operations
use Rattle.lives.specs.Traces.{Answer, Trace, done, docket, answer_with_docket, answer_when_done, events, events_after, step_with_answer, posting_of, postings, refused, showed, answer_with_show, answer_with_take, postings_after}
use Rattle.lives.specs.Reachability.{Configuration, Execution, Reachable, RoomStep, configuration_of, further, nowhere}
use Rattle.seats.specs.Invariants.{RoomInvariant}
use Rattle.lives.proofs.Clocks.{still_sound}
use Rattle.lives.proofs.Lives.{Lives, arrives}
use Rattle.lives.proofs.Opening.{begins}
use Rattle.lives.proofs.Posting.{its_body, post_inside, post_number, post_poster, posted_kept, posts_step}
use Rattle.lives.proofs.Sending.{good, send_inside, sends_step, was_out}
use Rattle.lives.proofs.Showing.{show_holds_long, show_inside, show_logs_long, shown_kept, shown_moment, shows_step}
use Rattle.lives.proofs.Splits.{Nth, nth_at}
use Rattle.lives.proofs.Taking.{a_repeat, a_stray, fine, held_moment, held_step, holding_kept, no_stray, takeable, thrown_step}
use Rattle.lives.proofs.Views.{docket_moment, docket_moves, docketed_kept, view}

-- a configuration by its parts
module _ {B : Type 0} where
  pub same_moment : (w : Configuration B) (st : RoomState) (logs holds : List (Letter B)) (c : Meaning (Letter B))
      → w.room ≡ st → w.logs ≡ logs → w.holds ≡ holds → w.carrier ≡ c → w ≡ configuration_of st logs holds c
  same_moment w st logs holds c a b d e = λ j. record { room = a j; logs = b j; holds = d j; carrier = e j }

stray_so : (a b : Bool) → stray ≡ cond a stray (cond b repeat held) → a ≡ true
stray_so true b e = refl
stray_so false true e = absurd cc
stray_so false false e = cc

repeat_so : (a b : Bool) → repeat ≡ cond a stray (cond b repeat held) → (a ≡ false) × (b ≡ true)
repeat_so true b e = absurd cc
repeat_so false true e = (refl, refl)
repeat_so false false e = absurd cc

held_so : (a b : Bool) → held ≡ cond a stray (cond b repeat held) → (a ≡ false) × (b ≡ false)
held_so true b e = absurd cc
held_so false true e = absurd cc
held_so false false e = (refl, refl)

-- where the letter that is drawn waits
drawn_at : {X : Type 0} (xs : List X) (place : ℕ) (x : X) → place < min (length xs) (2 ^ 32 - 1) → x ≡ get_or xs place x → Nth xs place x
drawn_at xs place x lt e = nth_at xs place x (omega arith) e

module _ {B : Type 0} (trace : Trace B) (w w' : Configuration B) (lives : Lives trace w) (answer : Answer) where
  abbrev st : RoomState
  st = w.room

  -- a step that leads to u, and neither posts nor shows
  quiet_on : (operation : Operation B DocketId) (answer' : Answer) → events_after operation answer' (events trace) ≡ events trace → postings_after operation answer' (postings trace) ≡ postings trace
      → (u : Configuration B) → RoomInvariant u.room → start u.room u.room.count ≤ length u.logs → start u.room u.room.count ≤ length u.holds
      → Run u.room.count u.room.quota (view u) lives.past
      → Lives (step_with_answer operation answer' ∷ trace) u
  quiet_on operation answer' no-event no-posting u fit logs holds run = record {
    fit = fit;
    logs = logs;
    holds = holds;
    past = lives.past;
    run = run;
    events_are = lives.events_are ∙ sym no-event;
    postings_are = lives.postings_are ∙ sym no-posting;
  }

  -- a docket that moves
  docket_on : (operation : Operation B DocketId) (answer' : Answer) → events_after operation answer' (events trace) ≡ events trace → postings_after operation answer' (postings trace) ≡ postings trace
      → (s : ℕ) (inside : s < st.count) (event : DocketEvent) (c' : Meaning (Letter B))
      → steps.WorldStep st.count st.quota (view w) (view (docket_moment w lives.fit s inside event c')) []
      → answer ≡ answer' → w'.room ≡ with_seat st s (with_docket_event (seat_at st s) event) → w'.logs ≡ w.logs → w'.holds ≡ w.holds → w'.carrier ≡ c'
      → Lives (step_with_answer operation answer ∷ trace) w'
  docket_on operation answer' no-event no-posting s inside event c' step is room logs holds carrier =
      arrives trace (docket_moment w lives.fit s inside event c') operation answer' answer w' is
      (same_moment w' (with_seat st s (with_docket_event (seat_at st s) event)) w.logs w.holds c' room logs holds carrier)
      (quiet_on operation answer' no-event no-posting (docket_moment w lives.fit s inside event c')
      (still_sound st lives.fit s _ (docketed_kept w lives.fit s inside event c')) lives.logs lives.holds
      (runs.more lives.run step))

  -- a step that was refused
  refused_on : (operation : Operation B DocketId) (why : Reason) → events_after operation (refused why) (events trace) ≡ events trace → postings_after operation (refused why) (postings trace) ≡ postings trace
      → answer ≡ refused why → w'.room ≡ st → w'.logs ≡ w.logs → w'.holds ≡ w.holds → w'.carrier ≡ w.carrier
      → Lives (step_with_answer operation answer ∷ trace) w'
  refused_on operation why no-event no-posting is room logs holds carrier =
      arrives trace w operation (refused why) answer w' is (same_moment w' st w.logs w.holds w.carrier room logs holds carrier)
      (quiet_on operation (refused why) no-event no-posting w lives.fit lives.logs lives.holds lives.run)

  posted_on : (s : ℕ) (body : B) (o : Result DocketId Reason) → o ≡ post_answer st (length w.logs) (length w.holds) s → answer ≡ answer_with_docket o
      → w'.room ≡ after_answer o (λ d. room_with_post st s) st → PostLogs st o s body w.logs w'.logs → w'.holds ≡ w.holds → w'.carrier ≡ w.carrier
      → Lives (step_with_answer (operations.Post s body) answer ∷ trace) w'
  posted_on s body (Ok d) e is room logs holds carrier =
      let m = logs.letter in
      let poster = post_poster w lives.fit w'.logs s body d e logs in
      let number = post_number w lives.fit w'.logs s body d e logs in
      let with_body = its_body w lives.fit w'.logs s body d e logs in
      let inside = post_inside w lives.fit w'.logs s body d e logs in
      let size = ap length logs.table ∙ length-set w.logs (foot st s) m in
      arrives trace (configuration_of (room_with_post st s) w'.logs w.holds w.carrier) (operations.Post s body) (docket d) answer w' is
      (same_moment w' (room_with_post st s) w'.logs w.holds w.carrier room refl holds carrier)
      (record {
        fit = still_sound st lives.fit s _ (posted_kept w lives.fit w'.logs s body d e logs);
        logs = omega (arith, lives.logs, size);
        holds = lives.holds;
        past = posted s m ∷ lives.past;
        run = runs.more lives.run (steps.posts (posts_step w lives.fit w'.logs s body d e logs));
        events_are = λ j. posted s (name_from (poster j) (number j)) ∷ lives.events_are j;
        postings_are = λ j. posting_of (name_from (poster j) (number j)) (with_body j) ∷ lives.postings_are j;
      })
  posted_on s body (Err why) e is room logs holds carrier = refused_on (operations.Post s body) why refl refl is room logs holds carrier

  parked_on : (d : DocketId) (o : Result (Unit {0}) Reason) → o ≡ park_answer st d → answer ≡ answer_when_done o
      → w'.room ≡ docket_room st d.seat Park o → w'.logs ≡ w.logs → w'.holds ≡ w.holds → w'.carrier ≡ w.carrier
      → Lives (step_with_answer (operations.Park d) answer ∷ trace) w'
  parked_on d (Ok yes') e is =
      let ok = good st d e in
      let out = was_out _ ok.out in
      docket_on (operations.Park d) done refl refl d.seat ok.inside Park w.carrier
      (steps.parks (record {
        seat = ok.inside;
        moves = docket_moves w lives.fit d.seat ok.inside Park w.carrier Out Parked out (ap (λ (y : DocketState). docket_after y Park) out);
        waiting = λ t. refl;
      })) is
  parked_on d (Err why) e is = refused_on (operations.Park d) why refl refl is

  was_parked : (k : DocketState) → allows k Collect ≡ true → k ≡ Parked
  was_parked Parked e = refl
  was_parked Clear e = absurd cc
  was_parked Out e = absurd cc

  collect_inside : (s : ℕ) (d : DocketId) → Ok d ≡ collect_answer st s → s < st.count
  collect_inside s d e = grind (arith, nat_tests)

  collect_parked : (s : ℕ) (d : DocketId) → Ok d ≡ collect_answer st s → allows (seat_at st s).docket Collect ≡ true
  collect_parked s d e = grind (arith, nat_tests)

  collected_on : (s : ℕ) (o : Result DocketId Reason) → o ≡ collect_answer st s → answer ≡ answer_with_docket o
      → w'.room ≡ docket_room st s Collect o → w'.logs ≡ w.logs → w'.holds ≡ w.holds → w'.carrier ≡ w.carrier
      → Lives (step_with_answer (operations.Collect s) answer ∷ trace) w'
  collected_on s (Ok d) e is =
      let inside = collect_inside s d e in
      let parked = was_parked _ (collect_parked s d e) in
      docket_on (operations.Collect s) (docket d) refl refl s inside Collect w.carrier
      (steps.collects (record {
        seat = inside;
        moves = docket_moves w lives.fit s inside Collect w.carrier Parked Out parked (ap (λ (y : DocketState). docket_after y Collect) parked);
        waiting = λ t. refl;
      })) is
  collected_on s (Err why) e is = refused_on (operations.Collect s) why refl refl is

  -- what a send put, or did not put, on the carrier
  put_on : (d : DocketId) (m : Letter B) → Ok m ≡ send_letter st w.logs (length w.holds) w.carrier.seats d
      → (o : Result (Unit {0}) Reason) → answer ≡ answer_when_done o → w'.room ≡ docket_room st d.seat Send o → w'.logs ≡ w.logs → w'.holds ≡ w.holds
      → PutOf w.carrier (Ok m) o w'.carrier → Lives (step_with_answer (operations.Send d) answer ∷ trace) w'
  put_on d m e (Ok yes') is at logs holds put =
      docket_on (operations.Send d) done refl refl d.seat (send_inside w lives.fit w'.carrier d m e put) Send w'.carrier
      (steps.sends (sends_step w lives.fit w'.carrier d m e put)) is at logs holds refl
  put_on d m e (Err why) is at logs holds same = refused_on (operations.Send d) why refl refl is at logs holds same

  sent_on : (d : DocketId) (o : Result (Letter B) Reason) → o ≡ send_letter st w.logs (length w.holds) w.carrier.seats d
      → answer ≡ answer_when_done (put_letter w.carrier o) → w'.room ≡ docket_room st d.seat Send (put_letter w.carrier o) → w'.logs ≡ w.logs → w'.holds ≡ w.holds
      → PutOf w.carrier o (put_letter w.carrier o) w'.carrier → Lives (step_with_answer (operations.Send d) answer ∷ trace) w'
  sent_on d (Ok m) e is at logs holds put = put_on d m e (put_answer w.carrier m.poster) is at logs holds put
  sent_on d (Err why) e is at logs holds same = refused_on (operations.Send d) why refl refl is at logs holds same

  shown_on : (s : ℕ) (o : Result (ℕ × Letter B) Reason) → o ≡ show_outcome st (length w.logs) w.holds s → answer ≡ answer_with_show (show_answer o)
      → w'.room ≡ show_room st o s → w'.logs ≡ show_logs st o s w.logs → w'.holds ≡ show_holds st o s w.holds → w'.carrier ≡ w.carrier
      → Lives (step_with_answer (operations.Show s) answer ∷ trace) w'
  shown_on s (Ok (k, m)) e is room logs holds carrier =
      let inside = show_inside w lives.fit s k m e in
      arrives trace (shown_moment w lives.fit s k m e) (operations.Show s) (showed (letter_name m)) answer w' is
      (same_moment w' (show_room st (Ok (k, m)) s) (show_logs st (Ok (k, m)) s w.logs) (show_holds st (Ok (k, m)) s w.holds) w.carrier room logs holds carrier)
      (record {
        fit = still_sound st lives.fit s _ (shown_kept w lives.fit s k m e);
        logs = omega (arith, lives.logs, show_logs_long w lives.fit s k m e);
        holds = omega (arith, lives.holds, show_holds_long w lives.fit s k m e);
        past = shown s m ∷ lives.past;
        run = runs.more lives.run (steps.shows (shows_step w lives.fit s k m e));
        events_are = λ j. shown s (letter_name m) ∷ lives.events_are j;
        postings_are = lives.postings_are;
      })
  shown_on s (Err why) e is room logs holds carrier = refused_on (operations.Show s) why refl refl is room logs holds carrier

  -- a letter that was drawn
  taken_on : (s place : ℕ) → Ok tt ≡ take_check st (length w.logs) (length w.holds) w.carrier s place
      → (r : Result (TakeKind × Name) Reason) (so : TakeAccepted st w.holds w.carrier s place r w'.room w'.holds w'.carrier) → w'.logs ≡ w.logs
      → (how : TakeKind) → how ≡ kind_of_take st w.holds s so.letter
      → w'.room ≡ take_room st how s → w'.holds ≡ take_holds st how s so.letter w.holds
      → Lives (step_with_answer (operations.Take s place) answer ∷ trace) w'
  taken_on s place e r so logs stray is room holds =
      let can = takeable st (length w.logs) (length w.holds) w.carrier s place e in
      let m = so.letter in
      let there = drawn_at (w.carrier.waiting s) place m can.waits so.there in
      arrives trace (configuration_of st w.logs w.holds w'.carrier) (operations.Take s place) answer answer w' refl
      (same_moment w' st w.logs w.holds w'.carrier room logs holds refl)
      (quiet_on (operations.Take s place) answer refl refl (configuration_of st w.logs w.holds w'.carrier) lives.fit lives.logs lives.holds
      (runs.more lives.run (steps.takes (thrown_step w lives.fit w'.carrier s place m can there so.drawn
      (steps.stray (a_stray w lives.fit s m can.inside can.long (stray_so _ _ is)) refl)))))
  taken_on s place e r so logs repeat is room holds =
      let can = takeable st (length w.logs) (length w.holds) w.carrier s place e in
      let m = so.letter in
      let there = drawn_at (w.carrier.waiting s) place m can.waits so.there in
      let ok = repeat_so _ _ is in
      arrives trace (configuration_of st w.logs w.holds w'.carrier) (operations.Take s place) answer answer w' refl
      (same_moment w' st w.logs w.holds w'.carrier room logs holds refl)
      (quiet_on (operations.Take s place) answer refl refl (configuration_of st w.logs w.holds w'.carrier) lives.fit lives.logs lives.holds
      (runs.more lives.run (steps.takes (thrown_step w lives.fit w'.carrier s place m can there so.drawn
      (steps.repeat (no_stray w lives.fit s m can.inside can.long ok.0) (a_repeat w lives.fit s m can.inside can.long ok.1) refl)))))
  taken_on s place e r so logs held is room holds =
      let can = takeable st (length w.logs) (length w.holds) w.carrier s place e in
      let m = so.letter in
      let there = drawn_at (w.carrier.waiting s) place m can.waits so.there in
      let ok = held_so _ _ is in
      let size = length-set w.holds (start st s + (seat_at st s).held) m in
      let u = held_moment w lives.fit w'.carrier s place m can there so.drawn in
      arrives trace u (operations.Take s place) answer answer w' refl
      (same_moment w' u.room w.logs u.holds w'.carrier room logs holds refl)
      (quiet_on (operations.Take s place) answer refl refl u
      (still_sound st lives.fit s _ (holding_kept w lives.fit w'.carrier s place m can there so.drawn (fine st s m ok.0)))
      lives.logs (omega (arith, lives.holds, size))
      (runs.more lives.run (steps.takes (held_step w lives.fit w'.carrier s place m can there so.drawn ok.0 ok.1))))

  took_on : (s place : ℕ) (k : Result (Unit {0}) Reason) → k ≡ take_check st (length w.logs) (length w.holds) w.carrier s place
      → (r : Result (TakeKind × Name) Reason) → answer ≡ answer_with_take r → TakeLeaves k st w.holds w.carrier s place r w'.room w'.holds w'.carrier → w'.logs ≡ w.logs
      → Lives (step_with_answer (operations.Take s place) answer ∷ trace) w'
  took_on s place (Ok yes') e r is so logs = taken_on s place e r so logs (kind_of_take st w.holds s so.letter) refl so.room so.hold
  took_on s place (Err why) e r is so logs =
      refused_on (operations.Take s place) why refl refl (is ∙ ap answer_with_take so.answer) so.room logs so.hold so.carrier

  pub goes_on : (operation : Operation B DocketId) → RoomStep operation w answer w' → Lives (step_with_answer operation answer ∷ trace) w'
  goes_on (operations.Post s body) p = posted_on s body _ refl p.answers p.room p.logs p.holds p.carrier
  goes_on (operations.Send d) p = sent_on d _ refl p.answers p.room p.logs p.holds p.carrier
  goes_on (operations.Park d) p = parked_on d _ refl p.answers p.room p.logs p.holds p.carrier
  goes_on (operations.Collect s) p = collected_on s _ refl p.answers p.room p.logs p.holds p.carrier
  goes_on (operations.Take s place) p = took_on s place _ refl p.result p.answers p.leaves p.logs
  goes_on (operations.Show s) p = shown_on s _ refl p.answers p.room p.logs p.holds p.carrier

leads_on : {B : Type 0} {w : Configuration B} → Lives [] w → {trace : Trace B} {w' : Configuration B} → Execution w trace w' → Lives trace w'
leads_on life nowhere = life
leads_on life (further {trace} {w} {w'} {operation} {answer} led step) = goes_on trace w w' (leads_on life led) answer operation step

-- every reachable room has a run behind it
pub lives : {B : Type 0} {trace : Trace B} {w : Configuration B} → Reachable trace w → Lives trace w
lives was = leads_on (begins was.first was.opened) was.led
