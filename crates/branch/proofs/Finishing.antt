-- The program from its opening to the logs.
use Rattle.std.proofs.Common.{List, [], OnOk, Ok, Err, Option, Result, subst, append-nil}
use Rattle.std.specs.Io.KnownBytes.{Appends}
use Rattle.letters.specs.declared.job.Job.{Job}
use Rattle.carriers.specs.declared.lines.Lines.{Lines}
use Rattle.carriers.specs.Lines.{lines_of}
use Rattle.sheets.specs.Sheets.{Kind, LawfulKind}
use Rattle.lives.specs.Traces.{Trace}
use Rattle.lives.specs.Reachability.{Configuration, Execution, InitialConfiguration, Reachable, nowhere}
use Rattle.lives.proofs.Keeping.{always_keeps}
use Rattle.lives.proofs.Throughout.{keeps_throughout}
use Rattle.lives.proofs.Tracing.{worked_more}
use Rattle.branch.specs.declared.session.Session.{Session}
use Rattle.branch.specs.Sessions.{JustOpened, all_log_lines, configuration_at}
use Rattle.branch.specs.Program.{Finished, GuaranteedBetween, lines_put, lines_rest}
use Rattle.branch.specs.StepRuns.{Printed}
use Rattle.branch.specs.StepEffects.{StepEffect}
use Rattle.branch.proofs.Leading.{Led, ran_led}
use Rattle.chunks.proofs.Streams.{appended}

-- a room at which nothing was done is as it opened
not_worked : {first w : Configuration Job} → InitialConfiguration first → Execution first [] w → InitialConfiguration w
not_worked opens nowhere = opens

module _ {M : Type 0} (kind : Kind M Job) (laws : LawfulKind kind) where
  -- the guarantees hold of a room that is reachable from its opening
  kept_on : (first last : Session (Lines Job)) → Reachable [] (configuration_at lines_of first) → Led lines_of lines_put lines_rest first last → GuaranteedBetween kind first last
  kept_on first last was led =
      let reachable = subst (λ (t : Trace Job). Reachable t (configuration_at lines_of last)) (append-nil led.trace) (worked_more was led.driven.path) in
      record {
        trace = led.trace;
        driven = led.driven;
        reachable = reachable;
        guarantees = always_keeps kind laws led.trace (configuration_at lines_of last) reachable;
        throughout = keeps_throughout kind laws (configuration_at lines_of first) led.trace (configuration_at lines_of last) (not_worked was.opened was.led) led.driven.path;
      }

  pub finished : {E : Type 0} (input before between after : Option (List _)) (first last : Session (Lines Job)) → JustOpened first → Reachable [] (configuration_at lines_of first)
      → Printed (StepEffect lines_of lines_put lines_rest) input first before between last → (r : Result (Unit {0}) E) → OnOk r (Appends between after (all_log_lines last))
      → OnOk r (Finished kind input before after)
  finished input before between after first last opened was printed (Err why) logs = tt
  finished input before between after first last opened was printed (Ok done) logs = record {
    first = first;
    opened = opened;
    last = last;
    lines = printed.lines;
    read = printed.read;
    written = appended before between after printed.lines (all_log_lines last) printed.written logs;
    kept = kept_on first last was (ran_led lines_of lines_put lines_rest printed.read.made printed.read.bytes _ _ first printed.read.index printed.lines last printed.read.ran);
  }
