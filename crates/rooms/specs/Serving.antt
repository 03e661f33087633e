-- What the steps of a room did to the carrier itself, C, given by their trace.
use Rattle.std.specs.Prelude.{◌≡◌, [], ◌∷◌, List, map}
use Rattle.letters.specs.declared.letter.Letter.{Letter}
use Rattle.letters.specs.Letters.{letter_name}
use Rattle.carriers.specs.Meaning.{Meaning}
use Rattle.carriers.specs.Serving.{Served}
use Rattle.seats.specs.declared.docket_id.DocketId.{DocketId}
use Rattle.lives.specs.declared.operation.Operation.{Operation}
use Rattle.lives.specs.Traces.{Answer, Trace, names_sent, step_with_answer}
use Rattle.lives.specs.Reachability.{Configuration, RoomStep}
use Rattle.rooms.specs.Calls.{CarrierStep}

module _ {B C : Type 0} (meaning : C → Meaning (Letter B)) (puts : C → Letter B → C → Type 0) (rests : C → C → Type 0) where
  -- each accepted send put the letter of its docket once, and nothing else was put
  pub record Serves (from : C) (trace : Trace B) (c : C) : Type 0 where
    pub letters : List (Letter B)
    pub served : Served meaning puts rests from letters c
    pub named : map letter_name letters ≡ names_sent trace

  -- whatever steps the carrier went through before, after this step it went through those and this one
  abbrev pub ServesOn : Operation B DocketId → Answer → C → C → Type 0
  ServesOn operation answer c c' = (from : C) (trace : Trace B) → Serves from trace c → Serves from (step_with_answer operation answer ∷ trace) c'

  -- The steps of the trace led from one configuration to another and took the carrier itself along, each doing to it what such a step
  -- does, and nothing else.
  pub data CarrierSteps (first : Configuration B) (from : C) : Trace B → Configuration B → C → Type 0 where
    at_first : CarrierSteps first from [] first from
    step_on : {trace : Trace B} {w w' : Configuration B} {c c' : C} {operation : Operation B DocketId} {answer : Answer}
        → CarrierSteps first from trace w c → w.carrier ≡ meaning c → RoomStep operation w answer w' → w'.carrier ≡ meaning c'
        → CarrierStep puts rests operation w c c' → CarrierSteps first from (step_with_answer operation answer ∷ trace) w' c'
