use Rattle.std.proofs.Common.{◌≡◌, length, string_bytes}
use Rattle.rooms.specs.States.{state}
use Rattle.branch.specs.StepLines.{log_lines}
use Rattle.branch.proofs.print_logs.Given as goal

-- the lines of the seats so far
abbrev pub invariant-loop-seat : goal.invariant-loop-seat
invariant-loop-seat g l = string_bytes l.lines ≡ log_lines (state l.session.room) l.session.logs.now (length l.session.holds.now) l.seat
