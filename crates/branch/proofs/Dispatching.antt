-- A docket that a post or a collect answers is out at the room: it is sent, and can be parked where that is refused.
use Rattle.std.proofs.Common.{◌∷◌, [], Ok, sym, subst}
use Rattle.letters.specs.declared.job.Job.{Job}
use Rattle.letters.specs.declared.letter.Letter.{Letter}
use Rattle.carriers.specs.Meaning.{Meaning}
use Rattle.seats.specs.declared.docket_id.DocketId.{DocketId}
use Rattle.lives.specs.declared.operation.Operation.{Operation}
use Rattle.lives.specs.declared.operation.Operation.TheVariants.{Park, Send}
use Rattle.lives.specs.Traces.{docket, done, refused, step_with_answer}
use Rattle.letters.specs.Refusals.{reason_of}
use Rattle.branch.specs.declared.session.Session.{Session}
use Rattle.branch.specs.declared.outcome.Outcome.{Outcome}
use Rattle.branch.specs.declared.outcome.Outcome.TheVariants as outcomes
use Rattle.branch.specs.StepEffects.{CallsMade, Dispatched, Driven, docket_calls}
use Rattle.branch.proofs.Leading.{driven_on}

module _ {C : Type 0} (meaning : C → Meaning (Letter Job)) (puts : C → Letter Job → C → Type 0) (rests : C → C → Type 0) where
  -- the calls of a step: the one that answers the docket, and those that spend it
  pub dispatch_follows : (operation : Operation Job DocketId) (s : DocketId) (d mid d' : Session C) (o : Outcome) → Driven meaning puts rests (step_with_answer operation (docket s) ∷ []) d mid
      → Dispatched meaning puts rests s mid o d' → CallsMade meaning puts rests (docket_calls operation (Ok o)) d d'
  dispatch_follows operation s d mid d' (outcomes.Sent e) call spent =
      subst (λ (x : DocketId). Driven meaning puts rests (step_with_answer (Send x) done ∷ step_with_answer operation (docket x) ∷ []) d d') (sym spent.0) (driven_on meaning puts rests call spent.1)
  dispatch_follows operation s d mid d' (outcomes.Parked e why) call spent =
      subst (λ (x : DocketId). Driven meaning puts rests (step_with_answer (Park x) done ∷ step_with_answer (Send x) (refused (reason_of why)) ∷ step_with_answer operation (docket x) ∷ []) d d') (sym spent.0)
      (driven_on meaning puts rests call spent.1)
  dispatch_follows operation s d mid d' (outcomes.Taken t) call spent = absurd spent
  dispatch_follows operation s d mid d' (outcomes.Shown id) call spent = absurd spent
