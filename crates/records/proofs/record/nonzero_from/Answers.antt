use Rattle.std.proofs.Common.{rules, None, Some, ◌∙◌}
use Rattle.records.proofs.Padding.{nonzero_found}
use Rattle.records.proofs.record.nonzero_from.Goals as goal

pub returns-in_err-place : goal.returns-in_err-place
returns-in_err-place c = search rules ∙ nonzero_found c.args.bytes.now c.args.from None c.in_err-place.ensures

pub returns : goal.returns
returns c = nonzero_found c.args.bytes.now c.args.from (Some c.in_ok-place.place) c.in_ok-place.ensures
