use Rattle.std.proofs.Common.{take, ap, ◌∙◌, arith}
use Rattle.spool.proofs.Rows.{take_rows}
use Rattle.spool.proofs.row_buffer.RowBuffer.rows.Goals as goal

pub returns : goal.returns
returns c = ap (take c.args.count) c.as_chunks.ensures.front ∙ take_rows c.args.count _ c.args.self.now.bytes.now (omega (arith, c.requires))
