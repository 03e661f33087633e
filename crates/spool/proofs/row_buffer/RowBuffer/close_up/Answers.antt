use Rattle.std.proofs.Common.{◌≡◌, ◌+◌, ◌-◌, ◌*◌, get_or, ap, ◌∙◌, arith, refl}
use Rattle.spool.specs.declared.row_buffer.TheConstants.{ROW_SIZE}
use Rattle.spool.proofs.Bytes.{rows_equal}
use Rattle.spool.proofs.row_buffer.RowBuffer.close_up.Goals as goal

pub returns : goal.returns
returns c =
    let b = c.args.self.now.bytes.now in
    let a = c.copy_within.new.self in
    let long = c.copy_within.ensures.len in
    let places = c.copy_within.ensures.by_index in
    record {
      long = long;
      lender = refl;
      bytes = c.copy_within.ensures.after;
      before = λ r h. rows_equal a b r r (omega (arith, c.requires.1, long)) (omega (arith, c.requires.1)) (λ k l. places.1 (r * ROW_SIZE + k) 0 (omega arith));
      behind = λ r h n. rows_equal a b r (r + 1) (omega (arith, c.requires.1, long)) (omega (arith, c.requires.1))
          (λ k l.
          let from : (c.args.row + 1) * ROW_SIZE + (r * ROW_SIZE + k - c.args.row * ROW_SIZE) ≡ (r + 1) * ROW_SIZE + k = omega arith in
          places.0 (r * ROW_SIZE + k) 0 (omega arith) (omega arith) ∙ ap (λ i. get_or b i 0) from);
    }
