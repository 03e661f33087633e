use Rattle.std.proofs.Common.{rules, tests, refl, ◌∙◌}
use Rattle.std.proofs.lemmas.Iterator.{YieldsList-from_range}
use Rattle.std.proofs.lemmas.Iterator.Search.{all_from_yields_List}
use Rattle.letters.specs.Order.{all_known, known_at}
use Rattle.letters.proofs.Bounded.{each_listed}
use Rattle.letters.proofs.letter.Letter.is_all_known.Goals as goal

pub returns : goal.returns
unfolding all_known
returns g c =
    let test = known_at c.args.clock.now c.args.self.now in
    all_from_yields_List test _ _ _ c.all.ensures.ran (YieldsList-from_range 0 16 16 refl refl) (λ x b q k. search (rules, tests))
    ∙ each_listed test 16
