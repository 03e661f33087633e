use Rattle.causality.proofs.Theorems.{complete_delivery, enough_places}
use Rattle.causality.proofs.completeness.places.Goals as goal

pub returns-clause-enough : goal.returns-clause-enough
returns-clause-enough g c = enough_places c.args.seats c.args.quota

pub returns-clause-delivery : goal.returns-clause-delivery
returns-clause-delivery g c = complete_delivery
