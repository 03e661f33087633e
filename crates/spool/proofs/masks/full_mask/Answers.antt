use Rattle.spool.proofs.Table.{full_is}
use Rattle.spool.proofs.masks.full_mask.Goals as goal

pub returns : goal.returns
returns c = full_is c.args.seats c.requires
