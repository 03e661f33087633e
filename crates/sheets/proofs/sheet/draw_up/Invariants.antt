use Rattle.sheets.specs.Sheets.{DrawnTo}
use Rattle.sheets.proofs.sheet.draw_up.Given as goal

abbrev pub invariant-loop-letter : goal.invariant-loop-letter
invariant-loop-letter g l = DrawnTo g.K.Sheet.kind l.log l.letter-index (g.K.Sheet.meaning l.sheet)
