use Rattle.std.proofs.Common.{sym, ap, ◌∙◌}
use Rattle.letters.specs.Letters.{blank_letter, parts_of}
use Rattle.spool.proofs.Decoded.{letter_read_right, letter_read_wrong}
use Rattle.spool.proofs.row_buffer.read_letter.Goals as goal

pub returns-in-Ok : goal.returns-in-Ok
returns-in-Ok g c =
    letter_read_right g.B.Body.blank g.B.Body.form g.met.B.Body.lawful c.args.bytes.now c.requires _ c.read_record.ensures.undoes c.in-Ok.is

pub returns-in-Err : goal.returns-in-Err
returns-in-Err g c =
    c.parts.ensures ∙ c.blank.ensures ∙ ap (λ body. parts_of (blank_letter body)) c.make_blank.ensures
    ∙ sym (ap parts_of (letter_read_wrong g.B.Body.blank g.B.Body.form g.met.B.Body.lawful c.args.bytes.now c.requires c.in-Err.field-0 c.in-Err.ensures.answer))
