-- What the steps that were read so far have done.
use Rattle.std.specs.Prelude.{◌≡◌, ℕ, ◌+◌, ◌-◌, ◌*◌, ◌^◌, ◌<◌, min, List, [], ◌++◌, length, take, drop, IfSome, Ok, Err, Option, Result}
use Rattle.std.specs.Io.KnownBytes.{Appends}
use Rattle.letters.specs.declared.refusal.Refusal.{Refusal}
use Rattle.branch.specs.declared.outcome.Outcome.{Outcome}
use Rattle.branch.specs.declared.step.Call.{Call}
use Rattle.branch.specs.declared.step.NoStep.{NoStep}
use Rattle.branch.specs.declared.step.Step.{Step}
use Rattle.branch.specs.StepLines.{bad_line, step_line}
use Rattle.branch.specs.ProgramSteps.{bad, content_of_step, step_of}

-- the index of the next step; it stays at its largest value
abbrev pub next_step_index : ℕ → ℕ
next_step_index n = min (n + 1) (2 ^ 64 - 1)

-- the bytes of a step
abbrev pub step_bytes : List ℕ → ℕ → List ℕ
step_bytes bs i = take 8 (drop (i * 8) bs)

-- D is the session in which the steps are made, and `turns` says what a call at a seat does there, with its outcome
module _ {D : Type 0} (turns : ℕ → Call → D → Result Outcome Refusal → D → Type 0) where
  -- One step that was read from these bytes and made, with its line.
  pub record Stepped (bs : List ℕ) (index : ℕ) (before : List ℕ) (d : D) (lines : List ℕ) (d' : D) : Type 0 where
    pub step : Step
    pub outcome : Result Outcome Refusal
    pub read : content_of_step (Ok step) ≡ step_of bs
    pub turn : turns step.seat step.call d outcome d'
    pub line : lines ≡ before ++ step_line index step outcome

  -- No step was read: all is as it was, but for the line.
  pub record Stopped (bs : List ℕ) (index : ℕ) (before : List ℕ) (d : D) (lines : List ℕ) (d' : D) : Type 0 where
    pub read : step_of bs ≡ bad
    pub session : d' ≡ d
    pub line : lines ≡ before ++ bad_line index

  abbrev pub Tried : Result (Unit {0}) NoStep → List ℕ → ℕ → List ℕ → D → List ℕ → D → Type 0
  Tried (Ok made) bs index before d lines d' = Stepped bs index before d lines d'
  Tried (Err stop) bs index before d lines d' = Stopped bs index before d lines d'

  -- So many steps of the bytes were made in turn, each where the one before it left the session, with these lines and these indices.
  pub data MadeSteps (bs : List ℕ) (n : ℕ) (start : List ℕ) (d : D) : ℕ → ℕ → List ℕ → D → Type 0 where
    none : MadeSteps bs n start d 0 n start d
    more : {i index : ℕ} {lines lines' : List ℕ} {e e' : D} → MadeSteps bs n start d i index lines e → Stepped (step_bytes bs i) index lines e lines' e'
        → MadeSteps bs n start d (i + 1) (next_step_index index) lines' e'

  -- All steps of the bytes were made; or those before the first that cannot be read, or is short, which has its own line.
  pub record AllMade (bs : List ℕ) (n : ℕ) (start : List ℕ) (d : D) (index : ℕ) (lines : List ℕ) (d' : D) : Type 0 where
    pub steps : ℕ
    pub whole : length bs ≡ steps * 8
    pub made : MadeSteps bs n start d steps index lines d'

  pub record SomeMade (bs : List ℕ) (n : ℕ) (start : List ℕ) (d : D) (index : ℕ) (lines : List ℕ) (d' : D) : Type 0 where
    pub steps : ℕ
    pub left : steps * 8 < length bs
    pub before : List ℕ
    pub last : D
    pub made : MadeSteps bs n start d steps index before last
    pub stopped : Stopped (step_bytes bs steps) index before last lines d'

  abbrev pub Ran : Result (Unit {0}) NoStep → List ℕ → ℕ → List ℕ → D → ℕ → List ℕ → D → Type 0
  Ran (Ok made) bs n start d index lines d' = AllMade bs n start d index lines d'
  Ran (Err stop) bs n start d index lines d' = SomeMade bs n start d index lines d'

  -- An input's steps were made in turn, up to the first that cannot be read, with these lines. Where it is known what the input
  -- has, these are the steps of all of it.
  pub record AllRead (input : Option (List ℕ)) (d : D) (lines : List ℕ) (d' : D) : Type 0 where
    pub bytes : List ℕ
    pub known : IfSome input (λ held. bytes ≡ held)
    pub made : Result (Unit {0}) NoStep
    pub index : ℕ
    pub ran : Ran made bytes 0 [] d index lines d'

  -- and their lines were written behind what was written before, and nothing else
  pub record Printed (input : Option (List ℕ)) (d : D) (before after : Option (List ℕ)) (d' : D) : Type 0 where
    pub lines : List ℕ
    pub read : AllRead input d lines d'
    pub written : Appends before after lines
