-- In a room that is reachable by the steps of a trace, the guarantees held after each beginning of it.
use Rattle.std.proofs.Common.{◌≡◌, [], ◌∷◌, ◌++◌, subst}
use Rattle.sheets.specs.Sheets.{Kind, LawfulKind}
use Rattle.lives.specs.Traces.{Trace, TraceStep, step_with_answer}
use Rattle.lives.specs.Reachability.{Configuration, Execution, InitialConfiguration, further, nowhere}
use Rattle.lives.specs.Guarantees.{GuaranteedThroughout}
use Rattle.lives.proofs.Keeping.{always_keeps}

-- a way that is cut in two
record Cut {B : Type 0} (first : Configuration B) (earlier later : Trace B) (last : Configuration B) : Type 0 where
  here : Configuration B
  led : Execution first earlier here
  on : Execution here later last

module _ {B : Type 0} {first : Configuration B} where
  cut : {trace : Trace B} {last : Configuration B} → Execution first trace last → (later earlier : Trace B) → trace ≡ later ++ earlier → Cut first earlier later last
  cut nowhere [] earlier e = record { here = first; led = subst (λ (t : Trace B). Execution first t first) e nowhere; on = nowhere }
  cut nowhere (x ∷ later) earlier e = absurd cc
  cut {last} (further led step) [] earlier e = record { here = last; led = subst (λ (t : Trace B). Execution first t last) e (further led step); on = nowhere }
  cut {last} (further {trace} {operation} {answer} led step) (x ∷ later) earlier e =
      let before : trace ≡ later ++ earlier = cc in
      let newest : step_with_answer operation answer ≡ x = cc in
      let c = cut led later earlier before in
      record { here = c.here; led = c.led; on = subst (λ (y : TraceStep B). Execution c.here (y ∷ later) last) newest (further c.on step) }

pub keeps_throughout : {M B : Type 0} (kind : Kind M B) → LawfulKind kind → (first : Configuration B) (trace : Trace B) (last : Configuration B) → InitialConfiguration first → Execution first trace last
    → GuaranteedThroughout kind first trace last
keeps_throughout kind laws first trace last opens led later earlier e =
    let c = cut led later earlier e in
    record {
      here = c.here;
      led = c.led;
      on = c.on;
      guarantees = always_keeps kind laws earlier c.here (record { first = first; opened = opens; led = c.led });
    }
