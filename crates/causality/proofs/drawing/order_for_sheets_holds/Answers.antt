use Rattle.causality.proofs.Theorems.{order_for_sheets}
use Rattle.causality.proofs.drawing.order_for_sheets_holds.Goals as goal

pub returns-clause-sheets : goal.returns-clause-sheets
returns-clause-sheets g c = order_for_sheets
