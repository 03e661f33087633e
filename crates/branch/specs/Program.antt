-- What the room of the program keeps, and what the program as a whole does.
use Rattle.std.specs.Prelude.{◌≡◌, List, ◌++◌, ℕ, Option}
use Rattle.std.specs.Io.KnownBytes.{Appends}
use Rattle.letters.specs.declared.job.Job.{Job}
use Rattle.letters.specs.declared.letter.Letter.{Letter}
use Rattle.carriers.specs.declared.lines.Lines.{Lines}
use Rattle.carriers.specs.Lines.{lines_of}
use Rattle.carriers.specs.Appending as carriers
use Rattle.sheets.specs.Sheets.{Kind}
use Rattle.lives.specs.Traces.{Trace}
use Rattle.lives.specs.Reachability.{Reachable}
use Rattle.lives.specs.Guarantees.{GuaranteedThroughout, Guarantees}
use Rattle.branch.specs.declared.session.Session.{Session}
use Rattle.branch.specs.Sessions.{JustOpened, all_log_lines, configuration_at}
use Rattle.branch.specs.StepRuns.{AllRead}
use Rattle.branch.specs.StepEffects.{Driven, StepEffect}

-- one put of lines brings one copy of the letter behind each other list, and a refusal leaves them as they were
abbrev pub lines_put : Lines Job → Letter Job → Lines Job → Type 0
lines_put l m after = carriers.Appends (lines_of l) m.poster m (lines_of after)

abbrev pub lines_rest : Lines Job → Lines Job → Type 0
lines_rest l after = after ≡ l

-- The room is reachable by some calls from its opening on, and it has causal order, complete delivery and convergence, as it
-- did after each of them. The letters of their accepted sends, each once and in their order, and nothing else, were put on
-- its lines.
pub record GuaranteedBetween {M : Type 0} (kind : Kind M Job) (first last : Session (Lines Job)) : Type 0 where
  pub trace : Trace Job
  pub driven : Driven lines_of lines_put lines_rest trace first last
  pub reachable : Reachable trace (configuration_at lines_of last)
  pub guarantees : Guarantees kind trace (configuration_at lines_of last)
  pub throughout : GuaranteedThroughout kind (configuration_at lines_of first) trace (configuration_at lines_of last)

-- The program: its room was opened, the steps of all of the input were made there, and their lines were written, with those
-- of the logs of the room behind them, and nothing else.
pub record Finished {M : Type 0} (kind : Kind M Job) (input before after : Option (List ℕ)) : Type 0 where
  pub first : Session (Lines Job)
  pub opened : JustOpened first
  pub last : Session (Lines Job)
  pub lines : List ℕ
  pub read : AllRead (StepEffect lines_of lines_put lines_rest) input first lines last
  pub written : Appends before after (lines ++ all_log_lines last)
  pub kept : GuaranteedBetween kind first last
