-- Each step does to the carrier itself what its trace says.
use Rattle.std.proofs.Common.{◌≡◌, ℕ, List, ◌∷◌, length, Ok, Err, Result, sym, refl, ◌∙◌, subst}
use Rattle.letters.specs.declared.letter.Letter.{Letter}
use Rattle.letters.specs.Letters.{letter_name}
use Rattle.letters.specs.Names.{Name, name_from}
use Rattle.letters.specs.Refusals.{Reason}
use Rattle.carriers.specs.Meaning.{Drawn, Meaning, draw_answer}
use Rattle.carriers.specs.Serving.{Served, one_draw, one_no, one_put}
use Rattle.seats.specs.declared.docket_id.DocketId.{DocketId}
use Rattle.seats.specs.Outcomes.{DrawRests, PutsOnce, TakeKind, TakeLeaves, answer_then, carrier_check, put_letter}
use Rattle.seats.specs.Rooms.{RoomState}
use Rattle.lives.specs.declared.operation.Operation.{Operation}
use Rattle.lives.specs.declared.operation.Operation.TheVariants as operations
use Rattle.lives.specs.Traces as traces
use Rattle.lives.specs.Traces.{Answer, Trace, answer_when_done, answer_with_take, names_sent, step_with_answer}
use Rattle.lives.specs.Reachability.{Configuration, RoomStep, letter_at}
use Rattle.lives.proofs.Sending.{letter_called}
use Rattle.rooms.specs.Calls.{CarrierStep}
use Rattle.rooms.specs.Serving.{ServesOn}

module _ {B C : Type 0} (meaning : C → Meaning (Letter B)) (puts : C → Letter B → C → Type 0) (rests : C → C → Type 0) (c c' : C) where
  abbrev On : Operation B DocketId → Answer → Type 0
  On operation answer = ServesOn meaning puts rests operation answer c c'

  -- a step that does not touch the carrier
  stays : (operation : Operation B DocketId) (answer : Answer) → ((trace : Trace B) → names_sent trace ≡ names_sent (step_with_answer operation answer ∷ trace)) → c' ≡ c → On operation answer
  stays operation answer none same from trace was = record {
    letters = was.letters;
    served = subst (λ k. Served meaning puts rests from was.letters k) (sym same) was.served;
    named = was.named ∙ none trace;
  }

  -- a send that has a letter to put, by what the carrier says
  puts_letter : (d : DocketId) (m : Letter B) (r : Result (Unit {0}) Reason) → letter_name m ≡ name_from d.seat d.number → PutsOnce puts rests (Ok m) r c c' → On (operations.Send d) (answer_when_done r)
  puts_letter d m (Ok done) called put from trace was = record {
    letters = m ∷ was.letters;
    served = one_put was.served put;
    named = λ i. called i ∷ was.named i;
  }
  puts_letter d m (Err why) called rest from trace was = record { letters = was.letters; served = one_no was.served rest; named = was.named }

  sends : (d : DocketId) (w : Configuration B) (l : Result (Letter B) Reason) → l ≡ letter_at w d → PutsOnce puts rests l (put_letter w.carrier l) c c' → On (operations.Send d) (answer_when_done (put_letter w.carrier l))
  sends d w (Ok m) is put = puts_letter d m (put_letter w.carrier (Ok m)) (letter_called w d m is) put
  sends d w (Err why) is same = stays (operations.Send d) (traces.refused why) (λ trace. refl) same

  -- a take, by whether it may draw and what the carrier says
  takes_on : (s place : ℕ) (st st' : RoomState) (holds holds' : List (Letter B)) (m m' : Meaning (Letter B)) (can drawn : Result (Unit {0}) Reason) (r : Result (TakeKind × Name) Reason)
      → m ≡ meaning c → m' ≡ meaning c' → TakeLeaves (answer_then can drawn) st holds m s place r st' holds' m' → DrawRests rests can drawn c c' → On (operations.Take s place) (answer_with_take r)
  takes_on s place st st' holds holds' m m' (Ok may) (Ok done) r before after took rest from trace was = record {
    letters = was.letters;
    served = one_draw was.served (subst (λ k. Drawn k s place (meaning c')) before (subst (λ k. Drawn m s place k) after took.drawn));
    named = was.named;
  }
  takes_on s place st st' holds holds' m m' (Ok may) (Err why) r before after took rest from trace was = record { letters = was.letters; served = one_no was.served rest; named = was.named }
  takes_on s place st st' holds holds' m m' (Err why) drawn r before after took same from trace was = stays (operations.Take s place) (answer_with_take r) (λ past. refl) same from trace was

  -- a step, by what it answers and leaves and by what it does to the carrier
  pub serves_on : (operation : Operation B DocketId) (w w' : Configuration B) (answer : Answer) → w.carrier ≡ meaning c → w'.carrier ≡ meaning c' → RoomStep operation w answer w' → CarrierStep puts rests operation w c c' → On operation answer
  serves_on (operations.Post s body) w w' answer before after step same = stays (operations.Post s body) answer (λ trace. refl) same
  serves_on (operations.Send d) w w' answer before after step put = subst (On (operations.Send d)) (sym step.answers) (sends d w (letter_at w d) refl put)
  serves_on (operations.Park d) w w' answer before after step same = stays (operations.Park d) answer (λ trace. refl) same
  serves_on (operations.Collect s) w w' answer before after step same = stays (operations.Collect s) answer (λ trace. refl) same
  serves_on (operations.Take s place) w w' answer before after step rest =
      subst (On (operations.Take s place)) (sym step.answers)
      (takes_on s place w.room w'.room w.holds w'.holds w.carrier w'.carrier (carrier_check w.room (length w.logs) (length w.holds) w.carrier.seats) (draw_answer w.carrier s place) step.result before after step.leaves rest)
  serves_on (operations.Show s) w w' answer before after step same = stays (operations.Show s) answer (λ trace. refl) same
