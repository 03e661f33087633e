use Rattle.causality.proofs.Theorems.{complete_delivery}
use Rattle.causality.proofs.completeness.complete_delivery_holds.Goals as goal

pub returns-clause-delivery : goal.returns-clause-delivery
returns-clause-delivery g c = complete_delivery
