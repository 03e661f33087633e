use Rattle.std.proofs.Common.{◌≡◌, ℕ, ◌+◌, ◌-◌, ◌*◌, ◌<◌, min, List, length, drop, Some, sym, ap, ◌∙◌, arith, rules, length-drop}
use Rattle.std.proofs.lemmas.List.{drop-drop}
use Rattle.std.specs.Slice.Iter.{chunks_rest}
use Rattle.records.specs.Files.{begun_records, fault_among}
use Rattle.records.specs.Readers.{rest_of_file}
use Rattle.records.specs.declared.record.TheConstants.{RECORD_SIZE}
use Rattle.records.specs.Records.{wrong_front}
use Rattle.records.proofs.Faults.{among_right, among_wrong}
use Rattle.records.proofs.Filing.{chunk_first, chunk_front, chunk_rest}
use Rattle.records.proofs.file.first_fault.Goals as goal

pub returns-in-Some-first_wrong : goal.returns-in-Some-first_wrong
returns-in-Some-first_wrong g c =
    let form = g.B.Body.form in
    let bs : List ℕ = c.args.bytes.now in
    let steps = c.in-Some.ensures.steps in
    let inv = c.loop-index.invariant in
    let i : ℕ = c.loop-index.index-iterator.count in
    let more = chunks_rest c.next.new.self.iter in
    let piece = c.in-Some.record.now in
    let is = sym inv.2 ∙ steps.0.1.0 in
    let long = steps.0.1.1 ∙ ap (λ s. min s (length (chunks_rest c.loop-index.index-iterator.iter))) inv.3 ∙ ap (λ l. min RECORD_SIZE (length l)) inv.2 in
    let some : i < begun_records bs = omega (arith, steps.0.1.2, ap length inv.2, length-drop (RECORD_SIZE * i) bs) in
    let front = ap (wrong_front form) (chunk_front (rest_of_file bs i) piece more is long) ∙ chunk_first form g.met.B.Body.lawful (rest_of_file bs i) in
    let byte : ℕ = c.in-Some-first_wrong.byte in
    let wrong = sym front ∙ sym c.in-Some-first_wrong.ensures in
    ap (λ n. Some (record { index = n; byte = byte })) steps.1
    ∙ sym (sym inv.4 ∙ among_wrong form bs i (begun_records bs) some byte wrong)

pub loop-index-preserved : goal.loop-index-preserved
loop-index-preserved g c =
    let form = g.B.Body.form in
    let bs : List ℕ = c.args.bytes.now in
    let steps = c.in-Some.ensures.steps in
    let inv = c.loop-index.invariant in
    let i : ℕ = c.loop-index.index-iterator.count in
    let more = chunks_rest c.next.new.self.iter in
    let piece = c.in-Some.record.now in
    let is = sym inv.2 ∙ steps.0.1.0 in
    let long = steps.0.1.1 ∙ ap (λ s. min s (length (chunks_rest c.loop-index.index-iterator.iter))) inv.3 ∙ ap (λ l. min RECORD_SIZE (length l)) inv.2 in
    let some : i < begun_records bs = omega (arith, steps.0.1.2, ap length inv.2, length-drop (RECORD_SIZE * i) bs) in
    let front = ap (wrong_front form) (chunk_front (rest_of_file bs i) piece more is long) ∙ chunk_first form g.met.B.Body.lawful (rest_of_file bs i) in
    let right = sym front ∙ sym c.in_default.ensures in
    let size : RECORD_SIZE * (i + 1) ≡ RECORD_SIZE * i + RECORD_SIZE = omega arith in
    let next : drop RECORD_SIZE (rest_of_file bs i) ≡ rest_of_file bs (i + 1) = drop-drop RECORD_SIZE (RECORD_SIZE * i) bs ∙ ap (λ n. drop n bs) (sym size) in
    let count = steps.2 in (
      search rules,
      search rules,
      chunk_rest (rest_of_file bs i) piece more is long ∙ next ∙ ap (rest_of_file bs) (sym count),
      steps.0.0 ∙ inv.3,
      ap (λ n. fault_among form bs n (begun_records bs - n)) count
          ∙ sym (among_right form bs i (begun_records bs) some right) ∙ inv.4,
    )
