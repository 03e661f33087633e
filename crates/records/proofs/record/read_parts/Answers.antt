use Rattle.std.proofs.Common.{rules, ℕ, List, refl}
use Rattle.letters.specs.Letters.{parts}
use Rattle.records.specs.Records.{poster_byte}
use Rattle.records.proofs.RoundTrip.{read_back}
use Rattle.records.proofs.record.read_parts.Goals as goal

pub returns : goal.returns
returns g c =
    let bs : List ℕ = c.args.bytes.now in
    let new = parts c.read_stamp.result (poster_byte bs) c.read_body.result in
    read_back g.B.Body.form g.met.B.Body.lawful new bs (search rules) c.requires c.read_stamp.ensures refl c.read_body.ensures.kind c.read_body.ensures.bytes
