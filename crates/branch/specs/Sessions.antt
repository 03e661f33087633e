-- A room at work, with its tables and its carrier.
use Rattle.std.specs.Prelude.{◌≡◌, ◌∷◌, List, ℕ, length, replicate}
use Rattle.letters.specs.declared.job.Job.{Job}
use Rattle.letters.specs.declared.letter.Letter.{Letter}
use Rattle.carriers.specs.declared.lines.Lines.{Lines}
use Rattle.carriers.specs.Lines.{lines_of}
use Rattle.carriers.specs.Meaning.{Empty, Meaning}
use Rattle.lives.specs.Reachability.{Configuration, configuration_of}
use Rattle.rooms.specs.Drafts.{DraftState, opening_state}
use Rattle.rooms.specs.States.{state}
use Rattle.branch.specs.declared.session.Session.{Session}
use Rattle.branch.specs.StepLines.{log_lines}

-- its configuration, by what its carrier means
abbrev pub configuration_at : {C : Type 0} → (C → Meaning (Letter Job)) → Session C → Configuration Job
configuration_at meaning d = configuration_of (state d.room) d.logs.now d.holds.now (meaning d.carrier)

-- the lines of the logs of all its seats
abbrev pub all_log_lines : {C : Type 0} → Session C → List ℕ
all_log_lines d = log_lines (state d.room) d.logs.now (length d.holds.now) (state d.room).count

-- the draft of the program's room: three boxes, each of which may post four letters
abbrev pub three_seats : DraftState
three_seats = record { number = 1; quota = 4; names = 1 ∷ 2 ∷ 3 ∷ replicate 13 0; count = 3 }

-- the program's room as it opens, on lines with four places for each seat, where nothing waits
pub record JustOpened (d : Session (Lines Job)) : Type 0 where
  pub room : state d.room ≡ opening_state three_seats
  pub seats : (lines_of d.carrier).seats ≡ 3
  pub places : d.carrier.size ≡ 4
  pub empty : Empty (lines_of d.carrier)
