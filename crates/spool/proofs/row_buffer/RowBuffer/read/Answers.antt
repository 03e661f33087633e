use Rattle.std.proofs.Common.{◌≡◌, ◌+◌, ◌-◌, ◌*◌, take, drop, sym, ap, ◌∙◌, arith}
use Rattle.letters.specs.Letters.{parts_of}
use Rattle.records.specs.declared.record.TheConstants.{RECORD_SIZE}
use Rattle.spool.specs.declared.row_buffer.TheConstants.{ROW_SIZE}
use Rattle.spool.specs.Decoding.{letter_of}
use Rattle.spool.proofs.Bytes.{record_at}
use Rattle.spool.proofs.row_buffer.RowBuffer.read.Goals as goal

pub returns : goal.returns
returns g c =
    let b = c.args.self.now.bytes.now in
    let at = c.args.row * ROW_SIZE in
    let n : at + RECORD_SIZE - at ≡ RECORD_SIZE = omega arith in
    c.read_letter.ensures ∙ ap (λ l. parts_of (letter_of g.B.Body.form g.B.Body.blank l)) (ap (λ k. take k (drop at b)) n ∙ sym (record_at b c.args.row))
