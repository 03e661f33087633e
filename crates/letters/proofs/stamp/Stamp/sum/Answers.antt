use Rattle.std.proofs.Common.{◌^◌, arith, rules, tests}
use Rattle.std.proofs.lemmas.Iterator.{YieldsList-from_slice}
use Rattle.std.proofs.lemmas.Iterator.Adapters.{fits_from_length, at_most_from_yields_List}
use Rattle.letters.proofs.stamp.Stamp.sum.Goals as goal

pub sum-requires-clause-fits : goal.sum-requires-clause-fits
sum-requires-clause-fits c =
    fits_from_length _ _ 16 (2 ^ 32) (at_most_from_yields_List (YieldsList-from_slice c.args.self.now.entries cc) (omega arith))
    c.map.ensures.closure (omega arith) (λ x r q k. search (rules, tests))
