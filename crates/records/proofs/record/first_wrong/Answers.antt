use Rattle.std.proofs.Common.{sym, ap, ◌∙◌}
use Rattle.records.specs.Records.{wrong_byte}
use Rattle.records.proofs.RoundTrip.{front_whole}
use Rattle.records.proofs.record.first_wrong.Goals as goal

pub returns-in-Some : goal.returns-in-Some
returns-in-Some g c =
    let form = g.B.Body.form in
    let chunk = c.in-Some.ensures.cases in
    c.wrong_byte.ensures ∙ ap (wrong_byte form) chunk.same
    ∙ sym (front_whole form g.met.B.Body.lawful c.args.bytes.now chunk.enough)
