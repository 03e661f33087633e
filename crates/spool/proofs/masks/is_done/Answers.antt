use Rattle.std.proofs.Common.{◌<◌, ◌^◌, ◌==◌, ap, rules}
use Rattle.spool.specs.MaskLemmas.{ones_seats}
use Rattle.spool.proofs.masks.is_done.Goals as goal

pub returns-clause-seats : goal.returns-clause-seats
returns-clause-seats c =
    let fits : c.args.mask < 2 ^ 16 = search rules in
    ones_seats 16 c.args.mask fits

pub returns-clause-none : goal.returns-clause-none
returns-clause-none c =
    let fits : c.args.mask < 2 ^ 16 = search rules in
    ap (λ n. n == 0) (ones_seats 16 c.args.mask fits)
