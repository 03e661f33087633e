-- The lives of a room.
use Rattle.std.specs.Prelude.{ℕ, List, [], ◌∷◌, ◌++◌}
use Rattle.causality.specs.History.{Event, History}
use Rattle.letters.specs.declared.letter.Letter.{Letter}
use Rattle.letters.specs.Letters.{letter_name}
use Rattle.letters.specs.Names.{Name}
use Rattle.causality.specs.Worlds.{Box, World, InitialWorld}
use Rattle.causality.specs.WorldSteps.{Outcome, stray, repeat, held, WorldStep, refuses, posts, sends, parks, collects, takes, shows}

-- Any steps in any order and number, from the opening on, led to the world, and the history is what happened.
pub data Run {B : Type 0} (N Q : ℕ) : World B → History (Letter B) → Type 0 where
  opened : {w : World B} → InitialWorld w → Run N Q w []
  more : {w w' : World B} {h : History (Letter B)} {new : List (Event (Letter B))} → Run N Q w h → WorldStep N Q w w' new
      → Run N Q w' (new ++ h)

-- a statement holds at all times of every room's life
abbrev pub AtAllTimes : {B : Type 0} → (ℕ → ℕ → World B → History (Letter B) → Type 0) → Type 0
AtAllTimes {B} P = (N Q : ℕ) (w : World B) (h : History (Letter B)) → Run N Q w h → P N Q w h

-- what a step was: at which seat and with which letter, a take by what it answers
pub data StepLabel : Type 0 where
  a_refusal : StepLabel
  a_post : ℕ → Name → StepLabel
  a_send : ℕ → Name → StepLabel
  a_park : ℕ → StepLabel
  a_collect : ℕ → StepLabel
  a_stray : ℕ → Name → StepLabel
  a_repeat : ℕ → Name → StepLabel
  a_hold : ℕ → Name → StepLabel
  a_show : ℕ → Name → StepLabel

module _ {B : Type 0} {N Q : ℕ} where
  -- what a take was
  abbrev pub take_label : {s : ℕ} {m : Letter B} {b b' : Box B} → Outcome N Q s m b b' → StepLabel
  take_label {s} {m} (stray why same) = a_stray s (letter_name m)
  take_label {s} {m} (repeat placed why same) = a_repeat s (letter_name m)
  take_label {s} {m} (held placed fresh longer) = a_hold s (letter_name m)

  -- what a step was
  abbrev pub label_of : {w w' : World B} {new : List (Event (Letter B))} → WorldStep N Q w w' new → StepLabel
  label_of (refuses x) = a_refusal
  label_of (posts {s} {m} x) = a_post s (letter_name m)
  label_of (sends {s} {m} x) = a_send s (letter_name m)
  label_of (parks {s} x) = a_park s
  label_of (collects {s} x) = a_collect s
  label_of (takes x) = take_label x.outcome
  label_of (shows {s} {m} x) = a_show s (letter_name m)

  -- the steps of a run, the newest first
  abbrev pub labels_of : {w : World B} {h : History (Letter B)} → Run N Q w h → List StepLabel
  labels_of (opened o) = []
  labels_of (more run step) = label_of step ∷ labels_of run
