use Rattle.std.proofs.Common.{length, string_bytes, ap, ◌∙◌, arith}
use Rattle.letters.specs.Refusals.{reason_of}
use Rattle.rooms.specs.States.{state}
use Rattle.branch.proofs.Opening.{all_lines, lines_more, lines_same}
use Rattle.branch.proofs.print_logs.Goals.{in-Ok+in_ok-add_log, in_default}
use Rattle.branch.proofs.print_logs.Goals as goal

pub loop-seat-init : goal.loop-seat-init
loop-seat-init g c = c.new-lines.ensures.bytes

pub loop-seat-preserved : goal.loop-seat-preserved
loop-seat-preserved g c =
    let room = state c.args.session.now.room in
    let logs = c.args.session.now.logs.now in
    let holds = length c.args.session.now.holds.now in
    elim c.match-log.branch [
      | in-Ok+in_ok-add_log w ↦ lines_more room logs holds c.loop-seat.seat (string_bytes c.loop-seat.lines) (string_bytes c.match-log.lines) w.in-Ok.log.now
          c.loop-seat.invariant (rw w.in-Ok.is at c.log.ensures) (ap string_bytes w.lines-is ∙ w.in_ok-add_log.ensures)
      | in_default w ↦ lines_same room logs holds c.loop-seat.seat (string_bytes c.loop-seat.lines) (string_bytes c.match-log.lines) (reason_of w.in_default.field-0)
          c.loop-seat.invariant (rw w.in_default.is at c.log.ensures) (ap string_bytes w.lines-is)
    ]

pub returns : goal.returns
returns g c =
    let session = c.args.session.now in
    let few = session.room.terms.few in
    let all = all_lines (state session.room) session.logs.now (length session.holds.now) c.loop-seat.seat (string_bytes c.loop-seat.lines) c.as_bytes.result.now
    c.as_bytes.ensures.value c.loop-seat.invariant (omega (arith, few, c.loop-seat-test.false)) in
    rw all at c.write_all.ensures.bytes
