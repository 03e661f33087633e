-- The theorems are not empty: a run with every kind of step.
use Rattle.std.specs.Prelude.{◌≡◌, ℕ, ◌<◌, List, [], ◌∷◌, replicate}
use Rattle.letters.specs.declared.letter.Letter.{Letter}
use Rattle.letters.specs.declared.stamp.Stamp.{Stamp}
use Rattle.letters.specs.declared.parts.Parts.{Parts}
use Rattle.letters.specs.Letters.{parts}
use Rattle.letters.specs.Names.{name_from}
use Rattle.causality.specs.History.{History, LedTo}
use Rattle.causality.specs.Worlds.{World}
use Rattle.causality.specs.Runs.{Run, StepLabel, labels_of, a_refusal, a_post, a_send, a_park, a_collect, a_repeat, a_hold, a_show}
use Rattle.causality.specs.Theorems.{WorldQuiescent, WorldComplete}

-- the stamp of the first letter that seat 0 posts, where it has shown nothing
abbrev pub stamp_of_first : Stamp
stamp_of_first = record { entries = 1 ∷ replicate 15 0 }

-- what that letter is made of
abbrev pub first_parts : {B : Type 0} → B → Parts B
first_parts body = parts stamp_of_first 0 body

-- The sample run in a room of three, the newest step first. From the bottom: seat 0 posts 0.1, parks and collects its
-- docket and sends two copies to each seat; seat 1 takes one, shows it, takes the repeat, posts 1.1 and sends it; 1.1 comes
-- to seat 2 before 0.1 and cannot be shown; 0.1 is taken, and again as a repeat; both are shown; seat 0 shows 1.1.
abbrev pub sample_labels : List StepLabel
sample_labels =
    a_show 0 (name_from 1 1) ∷ a_hold 0 (name_from 1 1)
    ∷ a_show 2 (name_from 1 1) ∷ a_show 2 (name_from 0 1) ∷ a_repeat 2 (name_from 0 1) ∷ a_hold 2 (name_from 0 1) ∷ a_refusal ∷ a_hold 2 (name_from 1 1)
    ∷ a_send 1 (name_from 1 1) ∷ a_post 1 (name_from 1 1) ∷ a_repeat 1 (name_from 0 1) ∷ a_show 1 (name_from 0 1) ∷ a_hold 1 (name_from 0 1)
    ∷ a_send 0 (name_from 0 1) ∷ a_collect 0 ∷ a_park 0 ∷ a_post 0 (name_from 0 1) ∷ []

-- A run brings the letter m, and a letter that answers it, to every seat, in this order; then every seat is complete.
pub record Arrives {B : Type 0} (m : Letter B) : Type 0 where
  pub reply : Letter B
  pub world : World B
  pub history : History (Letter B)
  pub run : Run 3 1 world history
  pub did : labels_of run ≡ sample_labels
  pub led : LedTo history m reply
  pub quiescent : (s : ℕ) → s < 3 → WorldQuiescent 3 1 s world
  pub complete : (s : ℕ) → s < 3 → WorldComplete history (world.box s)
  pub log : (s : ℕ) → s < 3 → (world.box s).log ≡ m ∷ reply ∷ []
