use Rattle.std.proofs.Common.{refl}
use lib.Count.{ones}
use Rattle.letters.specs.Order.{all_known}
use Rattle.cases.proofs.worked_cases.Goals as goal

pub returns : goal.returns
unfolding all_known ones
returns c = record { hold = refl; rows = refl }
