use Rattle.sheets.proofs.Sheets.{converges}
use Rattle.sheets.proofs.sheet.draw_up.Goals as goal

pub returns-then-log-PLACES-clause-converges : goal.returns-then-log-PLACES-clause-converges
returns-then-log-PLACES-clause-converges g c = converges g.K.Sheet.kind g.met.K.Sheet.lawful

pub returns-clause-converges : goal.returns-clause-converges
returns-clause-converges g c = converges g.K.Sheet.kind g.met.K.Sheet.lawful
