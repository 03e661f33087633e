use Rattle.std.proofs.Common.{◌≡◌, ℕ, List, None, sym, subst}
use Rattle.records.specs.Reading.{PartsAfter}
use Rattle.records.specs.Records.{wrong_byte}
use Rattle.records.proofs.record.read_whole.Goals as goal

pub returns-clause-left : goal.returns-clause-left
returns-clause-left g c =
    let form = g.B.Body.form in
    let bs : List ℕ = c.args.bytes.now in
    let none : wrong_byte form bs ≡ None = sym c.in_default.ensures in
    subst (PartsAfter form bs c.args.parts.now c.read_parts.result) (sym none) c.read_parts.ensures
