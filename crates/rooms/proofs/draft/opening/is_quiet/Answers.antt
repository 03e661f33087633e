use Rattle.std.proofs.Common.{eqb, refl, ◌∙◌, arith, rules, tests}
use Rattle.std.proofs.lemmas.Iterator.{YieldsList-from_range}
use Rattle.std.proofs.lemmas.Iterator.Search.{all_from_yields_List}
use Rattle.carriers.specs.Meaning.{waits_at}
use Rattle.rooms.proofs.Closing.{quiet_is}
use Rattle.rooms.proofs.draft.opening.is_quiet.Goals as goal

pub returns : goal.returns
returns g c =
    let carrier = g.C.Carrier.meaning c.args.carrier.now in
    all_from_yields_List (λ s. eqb (waits_at carrier s) 0) _ _ _ c.all.ensures.ran (YieldsList-from_range 0 c.args.count c.args.count refl (omega arith)) (λ x b q k. search (rules, tests))
    ∙ quiet_is carrier c.args.count
