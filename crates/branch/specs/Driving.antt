-- Making steps in a session, in terms of its carrier and of the text that holds the lines.
use Rattle.std.specs.Prelude.{ℕ, List, Option, Result, String, string_bytes}
use Rattle.letters.specs.declared.job.Job.{Job}
use Rattle.letters.specs.declared.refusal.Refusal.{Refusal}
use Rattle.carriers.specs.declared.carrier.Carrier.{Ghosts}
use Rattle.branch.specs.declared.session.Session.{Session}
use Rattle.branch.specs.declared.outcome.Outcome.{Outcome}
use Rattle.branch.specs.declared.step.Call.{Call}
use Rattle.branch.specs.declared.step.NoStep.{NoStep}
use Rattle.branch.specs.StepRuns.{Printed, Ran, Tried}
use Rattle.branch.specs.StepEffects.{StepEffect}

-- C is the carrier, of which `carrier` says what it means, what one put of it does, and what a refusal of its own leaves
module _ {C : Type 0} (carrier : Ghosts C Job) where
  -- a call at a seat, its outcome, and what it leaves of the session
  abbrev pub SessionEffect : ℕ → Call → Session C → Result Outcome Refusal → Session C → Type 0
  SessionEffect seat call d outcome d' = StepEffect carrier.meaning carrier.puts carrier.rests seat call d outcome d'

  -- one step is made that the bytes write, and its line added, or the line where they write none
  abbrev pub SessionTry : {A : Type 0} → Result (Unit {0}) NoStep → List ℕ → ℕ → String A → Session C → String A → Session C → Type 0
  SessionTry tried bs index lines d lines' d' = Tried SessionEffect tried bs index (string_bytes lines) d (string_bytes lines') d'

  -- the steps are made that the bytes write, and their lines added, up to the first that cannot be read
  abbrev pub SessionRun : {A : Type 0} → Result (Unit {0}) NoStep → List ℕ → ℕ → String A → Session C → ℕ → String A → Session C → Type 0
  SessionRun made bs n lines d index lines' d' = Ran SessionEffect made bs n (string_bytes lines) d index (string_bytes lines') d'

  -- the steps of an input are made, and their lines written, and nothing else
  abbrev pub SessionPrint : Option (List ℕ) → Session C → Option (List ℕ) → Option (List ℕ) → Session C → Type 0
  SessionPrint input d before after d' = Printed SessionEffect input d before after d'
