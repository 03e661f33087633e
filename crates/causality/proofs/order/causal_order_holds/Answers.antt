use Rattle.causality.proofs.Theorems.{causal_order}
use Rattle.causality.proofs.order.causal_order_holds.Goals as goal

pub returns-clause-order : goal.returns-clause-order
returns-clause-order g c = causal_order
