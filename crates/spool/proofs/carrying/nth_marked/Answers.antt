use Rattle.std.proofs.Common.{ℕ, List, rules, tests}
use Rattle.std.proofs.lemmas.Iterator.{YieldsList-from_slice}
use Rattle.std.proofs.lemmas.Iterator.Consumers.{YieldsList-at, YieldsList-from_enumerate, YieldsList-from_filter, nth_from_yields_List}
use Rattle.spool.specs.Masks.{marked}
use Rattle.spool.specs.Rows.{mask_of}
use Rattle.spool.proofs.carrying.nth_marked.Goals as goal

pub returns : goal.returns
returns c =
    let rows = c.args.rows.now in
    nth_from_yields_List c.nth.result _ c.args.place c.nth.ensures.ran
    (YieldsList-from_filter _ (λ (p : ℕ × List ℕ). marked (mask_of p.1) c.args.seat)
    (YieldsList-at c.filter.ensures.source (YieldsList-from_enumerate (YieldsList-at c.enumerate.ensures.source (YieldsList-from_slice rows cc)) c.enumerate.ensures.count))
    c.filter.ensures.closure (λ x b q k. search (rules, tests)))
