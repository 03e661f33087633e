use Rattle.std.proofs.Common.{rules, ap, ◌∙◌}
use Rattle.records.specs.Records.{parts_record}
use Rattle.records.proofs.RoundTrip.{made-check}
use Rattle.records.proofs.record.read_letter.Goals as goal

pub make-requires : goal.make-requires
make-requires g c =
    made-check g.B.Body.form g.met.B.Body.lawful c.read_parts.result c.args.bytes.now (search rules) c.requires c.read_parts.ensures

pub returns : goal.returns
returns g c = ap (parts_record g.B.Body.form) c.make.ensures ∙ c.read_parts.ensures
