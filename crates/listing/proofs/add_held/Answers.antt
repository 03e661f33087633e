use Rattle.std.proofs.Common.{◌≡◌, ℕ, ◌*◌, ◌≤◌, ◌^◌, ◌-◌, Some, None, Ok, Err, Result, Option, string_bytes, drop, sym, ap, ◌∙◌, arith}
use Rattle.records.specs.declared.fault.Fault.{Fault}
use Rattle.records.specs.Faults.{fault_as_answer}
use Rattle.records.specs.declared.record.TheConstants.{RECORD_SIZE}
use Rattle.records.specs.Readers.{at_end, bytes_ahead, finding_of, right, wrong}
use Rattle.listing.proofs.Found.{fault_at, fewer_left, found_told, one_read}
use Rattle.listing.proofs.Holding.{all_listed, begin, fault_listed, one_more}
use Rattle.listing.proofs.add_held.Goals as goal

pub loop-count-init : goal.loop-count-init
loop-count-init g c =
    let start : bytes_ahead c.new-reader.result ≡ c.args.bytes.now = ap (λ i. drop (RECORD_SIZE * i) c.new-reader.result.bytes.now) c.new-reader.ensures.start ∙ c.new-reader.ensures.lent in
    let fits : c.args.letters.now ≤ 2 ^ 64 - 1 = omega arith in
    begin g.B.Body.form g.met.B.Body.lawful g.B.Say.says c.args.bytes.now (bytes_ahead c.new-reader.result) c.args.letters.now (string_bytes c.args.lines.now) c.new-reader.result.index fits start c.new-reader.ensures.start

pub returns-in-Ok-None : goal.returns-in-Ok-None
returns-in-Ok-None g c =
    let form = g.B.Body.form in
    let made = c.in_ok-add_next.ensures in
    let is : finding_of form (bytes_ahead c.loop-count.reader) ≡ at_end = found_told _ _ _ (Ok None) made.answer cc in
    all_listed form g.met.B.Body.lawful g.B.Say.says _ _ _ _ _ _ _ _ c.loop-count.invariant made.line is

pub returns-in-Err : goal.returns-in-Err
returns-in-Err g c =
    let form = g.B.Body.form in
    let made = c.in_ok-add_next.ensures in
    let bs = bytes_ahead c.loop-count.reader in
    let is : finding_of form bs ≡ wrong c.in-Err.fault.byte = found_told _ _ _ (Err c.in-Err.fault) made.answer c.in-Err.is in
    let at : c.in-Err.fault.index ≡ c.loop-count.reader.index =
    fault_at c.loop-count.reader.index (finding_of form bs) c.in-Err.fault (ap (λ (r : Result (Option ℕ) Fault). fault_as_answer r) (sym c.in-Err.is) ∙ made.answer) in
    fault_listed form g.met.B.Body.lawful g.B.Say.says _ _ _ _ _ _ _ _ c.loop-count.invariant made.line c.in-Err.fault at is

pub loop-count-preserved : goal.loop-count-preserved
loop-count-preserved g c =
    let form = g.B.Body.form in
    let made = c.in_ok-add_next.ensures in
    let is : finding_of form (bytes_ahead c.loop-count.reader) ≡ right = found_told _ _ _ (Ok (Some c.in-Ok-Some.field-0-0)) made.answer cc in
    let one = one_read form c.loop-count.reader c.add_next.new.reader _ _ made.reads.read made.reads.reads is in
    one_more form g.met.B.Body.lawful g.B.Say.says _ _ _ _ _ _ _ _ c.loop-count.invariant made.line one.letter one.begins is _ one.moved _ one.later _ c.saturating_add-count.ensures

pub loop-count-smaller : goal.loop-count-smaller
loop-count-smaller g c =
    let form = g.B.Body.form in
    let made = c.in_ok-add_next.ensures in
    let is : finding_of form (bytes_ahead c.loop-count.reader) ≡ right = found_told _ _ _ (Ok (Some c.in-Ok-Some.field-0-0)) made.answer cc in
    let one = one_read form c.loop-count.reader c.add_next.new.reader _ _ made.reads.read made.reads.reads is in
    fewer_left form c.loop-count.reader c.add_next.new.reader one
