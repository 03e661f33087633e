use Rattle.std.proofs.Common.{rules}
use Rattle.records.specs.declared.record.TheConstants.{BODY_PLACE, POSTER_PLACE}
use Rattle.records.proofs.Overlays.{three_parts}
use Rattle.records.proofs.record.assemble.Goals as goal

pub returns : goal.returns
returns c =
    three_parts _ c.args.stamp.now c.args.header.now c.args.body.now _ _ _ POSTER_PLACE BODY_PLACE
    (search rules) (search rules) (search rules) c.put.ensures c.put-2.ensures c.put-3.ensures
