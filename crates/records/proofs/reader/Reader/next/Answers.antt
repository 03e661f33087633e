use Rattle.std.proofs.Common.{ℕ, ◌*◌, ◌<◌, List, length, sym, refl, ap, ◌∙◌, subst, arith}
use Rattle.std.proofs.lemmas.List.{length-drop}
use Rattle.records.specs.Reading.{parts_left, read_answer}
use Rattle.records.specs.Readers.{bytes_ahead, next_answer, next_index, next_parts}
use Rattle.records.specs.declared.record.TheConstants.{RECORD_SIZE}
use Rattle.records.specs.Records.{wrong_front}
use Rattle.records.specs.Naming.{NamedByte}
use Rattle.records.proofs.Finding.{found_right, found_wrong, named_byte, next_part, ok_err}
use Rattle.records.proofs.RoundTrip.{undoes_as}
use Rattle.records.proofs.reader.Reader.next.Goals as goal

pub returns-in-Err : goal.returns-in-Err
returns-in-Err g c =
    let form = g.B.Body.form in
    let index : ℕ = c.args.self.now.index in
    let bs : List ℕ = bytes_ahead c.args.self.now in
    let part = next_part c.args.self.now.bytes.now index in
    let some : 0 < length bs = omega (arith, length-drop (RECORD_SIZE * index) c.args.self.now.bytes.now) in
    let old = c.args.parts.now in
    let new = c.read_record.new.parts in
    let told = c.in-Err.ensures in
    let found = found_wrong form bs c.in-Err.fault old new some
    (told.answer ∙ ap (λ l. read_answer (wrong_front form l)) part)
    (told.filled ∙ ap (λ l. parts_left form l (wrong_front form l) old) part) in
    record {
      answer = ap (next_answer index) (sym found.0);
      moved = ap (next_index index) (sym found.0);
      lent = refl;
      filled = found.1 ∙ ap (next_parts form bs old) (sym found.0);
      undoes = undoes_as form g.met.B.Body.lawful _ bs new part (λ e. cc) (λ e. cc) told.undoes;
      named = λ fault e. subst (λ l. NamedByte form l fault.byte) part (subst (NamedByte form _) (ap (λ r. named_byte r) e) (told.named c.in-Err.fault refl));
    }

pub returns-in-Ok : goal.returns-in-Ok
returns-in-Ok g c =
    let form = g.B.Body.form in
    let index : ℕ = c.args.self.now.index in
    let bs : List ℕ = bytes_ahead c.args.self.now in
    let part = next_part c.args.self.now.bytes.now index in
    let some : 0 < length bs = omega (arith, length-drop (RECORD_SIZE * index) c.args.self.now.bytes.now) in
    let old = c.args.parts.now in
    let new = c.read_record.new.parts in
    let told = c.in-Ok.ensures in
    let found = found_right form bs old new some
    (told.answer ∙ ap (λ l. read_answer (wrong_front form l)) part)
    (told.filled ∙ ap (λ l. parts_left form l (wrong_front form l) old) part) in
    record {
      answer = ap (next_answer index) (sym found.0);
      moved = ap (next_index index) (sym found.0);
      lent = refl;
      filled = found.1 ∙ ap (next_parts form bs old) (sym found.0);
      undoes = undoes_as form g.met.B.Body.lawful _ bs new part (λ e. refl) (λ e. refl) told.undoes;
      named = λ fault e. absurd (ok_err _ fault e);
    }
