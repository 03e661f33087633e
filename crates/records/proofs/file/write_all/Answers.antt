use Rattle.std.proofs.Common.{◌≡◌, ℕ, ◌*◌, ◌<◌, length, take, ap, ◌∙◌, arith}
use Rattle.std.proofs.lemmas.List.{length-take-le}
use Rattle.records.specs.Buffers.{overlaid}
use Rattle.records.specs.Files.{file_of}
use Rattle.records.specs.declared.record.TheConstants.{RECORD_SIZE}
use Rattle.records.proofs.Filing.{length_file, save_more}
use Rattle.records.proofs.RoundTrip.{record_long}
use Rattle.records.proofs.file.write_all.Goals as goal

pub loop-index-preserved : goal.loop-index-preserved
loop-index-preserved g c =
    let form = g.B.Body.form in
    let laws = g.met.B.Body.lawful in
    let ms = c.args.letters.now in
    let i : ℕ = c.loop-index.index in
    let m = c.index-letters-index.result in
    let inv = c.loop-index.invariant in
    let within : i < length ms = omega arith in
    let front : length (file_of form (take i ms)) ≡ RECORD_SIZE * i =
    length_file form laws (take i ms) ∙ ap (λ n. RECORD_SIZE * n) (length-take-le i ms (omega arith)) in
    let written = ap (overlaid c.loop-index.out (RECORD_SIZE * i)) c.to_record.ensures in (
      omega (arith, c.put.auto.out, inv.0),
      c.put.ensures ∙ written ∙ save_more form ms c.args.out.now c.loop-index.out i m (record_long form laws m) front within c.index-letters-index.is inv.1,
    )
