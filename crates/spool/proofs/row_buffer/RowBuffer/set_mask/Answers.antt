use Rattle.std.proofs.Common.{◌≡◌, ◌/◌, ◌%◌, ◌<◌, get_or, ap, ◌∙◌, arith, rules}
use Rattle.spool.proofs.Bytes.{mask_ending, letter_ending}
use Rattle.spool.proofs.row_buffer.RowBuffer.set_mask.Goals as goal

pub returns-clause-mask : goal.returns-clause-mask
returns-clause-mask c =
    let fits : c.args.mask < 65536 = search rules in
    let low : get_or c.to_le_bytes.result 0 0 ≡ c.args.mask % 256 = ap (λ r. get_or r 0 0) c.to_le_bytes.ensures in
    let high : get_or c.to_le_bytes.result 1 0 ≡ c.args.mask / 256 = ap (λ r. get_or r 1 0) c.to_le_bytes.ensures ∙ omega arith in
    mask_ending c.args.self.now.bytes.now c.args.row _ _ c.requires ∙ omega arith

pub returns-clause-letter : goal.returns-clause-letter
returns-clause-letter c = letter_ending c.args.self.now.bytes.now c.args.row _ _ c.requires
