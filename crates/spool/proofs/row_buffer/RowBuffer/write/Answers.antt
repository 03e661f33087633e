use Rattle.std.proofs.Common.{◌≡◌, ◌+◌, ◌*◌, ◌≤◌, ◌++◌, length, take, drop, ap, ◌∙◌, arith, rules, refl}
use borrow.Rule.Slice.PartMut.{put_mid}
use Rattle.std.proofs.lemmas.List.{drop-drop, take_all}
use Rattle.records.specs.declared.record.TheConstants.{RECORD_SIZE}
use Rattle.records.specs.Records.{record_of}
use Rattle.records.proofs.RoundTrip.{record_long}
use Rattle.carriers.proofs.Rows.{cut, only_part, queue_in_part}
use Rattle.spool.specs.declared.row_buffer.TheConstants.{ROW_SIZE}
use Rattle.spool.proofs.Bytes.{record_at, only_wider}
use Rattle.spool.proofs.row_buffer.RowBuffer.write.Goals as goal

pub returns : goal.returns
returns g c =
    let b = c.args.self.now.bytes.now in
    let at = c.args.row * ROW_SIZE in
    let part = c.write_letter.new.into in
    let fits : at + RECORD_SIZE ≤ length b = omega (arith, c.requires) in
    let size : length part ≡ RECORD_SIZE = ap length c.write_letter.ensures ∙ record_long g.B.Body.form g.met.B.Body.lawful c.args.letter.now in
    let long : length part ≡ cut at RECORD_SIZE b fits = omega arith in
    record {
      long = search rules;
      lender = refl;
      only = only_wider at RECORD_SIZE ROW_SIZE b _ (omega arith) (only_part at RECORD_SIZE b fits part long);
      bytes = ap (put_mid at (cut at RECORD_SIZE b fits) b) c.write_letter.ensures ∙ ap (λ l. take at b ++ (record_of g.B.Body.form c.args.letter.now ++ l)) (drop-drop (cut at RECORD_SIZE b fits) at b ∙ ap (λ n. drop n b) (omega (arith, record_long g.B.Body.form g.met.B.Body.lawful c.args.letter.now)));
      letter = record_at _ c.args.row ∙ queue_in_part at RECORD_SIZE b fits part long RECORD_SIZE (omega arith) ∙ take_all RECORD_SIZE part (omega arith) ∙ c.write_letter.ensures;
    }
