use Rattle.std.proofs.Common.{◌-◌, ◌^◌, min, length, sym, ap, ◌∙◌}
use Rattle.spool.specs.Decoding.{letter_of}
use Rattle.spool.specs.Rows.{marks_at, letters_at}
use Rattle.spool.specs.SpoolLemmas.{picks_none, no_bit}
use Rattle.spool.proofs.Rows.{all_counted, clamped}
use Rattle.spool.proofs.carrying.SpoolCarrier.waits.Goals as goal

pub returns-then-seat-self : goal.returns-then-seat-self
returns-then-seat-self g c =
    let s = c.args.self.now in
    let b = s.row_buffer.bytes.now in
    let none = picks_none (marks_at b c.args.seat) (letters_at (letter_of g.B.Body.form g.B.Body.blank) b) s.rows (λ r l. no_bit s.seats _ c.args.seat (s.seated r l) c.if-seat-self.true) in
    sym (ap (λ l. min (length l) (2 ^ 32 - 1)) none)

pub returns : goal.returns
returns g c =
    let s = c.args.self.now in
    let b = s.row_buffer.bytes.now in
    let item = letters_at (letter_of g.B.Body.form g.B.Body.blank) b in
    let all = all_counted s.rows b _ c.rows.ensures item c.args.seat in
    c.unwrap_or.ensures ∙ clamped _ _ c.try_from.ensures ∙ ap (λ n. min n (2 ^ 32 - 1)) (c.count_marked-count.ensures ∙ sym all)
