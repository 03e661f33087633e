use Rattle.std.proofs.Common.{◌≡◌, ◌++◌, Some, None, Ok, Err, string_bytes, sym, ap, ◌∙◌}
use Rattle.std.proofs.lemmas.List.{append-nil}
use Rattle.records.specs.Readers.{at_end, bytes_ahead, finding_of, next_parts, right, wrong}
use Rattle.listing.specs.ListingLines.{letter_line}
use Rattle.listing.proofs.Found.{found_told}
use Rattle.listing.proofs.stepping.add_next.Goals as goal

pub returns-in_ok-add_letter-in-Ok-Some-clause-line : goal.returns-in_ok-add_letter-in-Ok-Some-clause-line
returns-in_ok-add_letter-in-Ok-Some-clause-line g c =
    let bs = bytes_ahead c.args.reader.now in
    let is : finding_of g.B.Body.form bs ≡ right = found_told _ _ _ (Ok (Some c.in-Ok-Some.read)) c.next.ensures.answer cc in
    let filled = c.next.ensures.filled ∙ ap (next_parts g.B.Body.form bs c.args.parts.now) is in
    rw is (c.in_ok-add_letter-in-Ok-Some.ensures ∙ ap (λ p. string_bytes c.args.line.now ++ letter_line g.B.Say.says c.args.index p) filled)

pub returns-in-Ok-None-clause-line : goal.returns-in-Ok-None-clause-line
returns-in-Ok-None-clause-line g c =
    let is : finding_of g.B.Body.form (bytes_ahead c.args.reader.now) ≡ at_end = found_told _ _ _ (Ok None) c.next.ensures.answer cc in
    rw is (sym (append-nil (string_bytes c.args.line.now)))

pub returns-in_ok-add_fault-in-Err-clause-line : goal.returns-in_ok-add_fault-in-Err-clause-line
returns-in_ok-add_fault-in-Err-clause-line g c =
    let is : finding_of g.B.Body.form (bytes_ahead c.args.reader.now) ≡ wrong c.in-Err.fault.byte = found_told _ _ _ (Err c.in-Err.fault) c.next.ensures.answer c.in-Err.is in
    rw is c.in_ok-add_fault-in-Err.ensures
