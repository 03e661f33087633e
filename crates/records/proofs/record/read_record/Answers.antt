use Rattle.std.proofs.Common.{◌≡◌, ℕ, List, length, take, Some, sym, refl, ap, ◌∙◌, subst, arith}
use Rattle.records.specs.Reading.{PartsAfter, read_answer}
use Rattle.records.specs.declared.record.TheConstants.{RECORD_SIZE}
use Rattle.records.specs.Records.{wrong_byte, wrong_front}
use Rattle.records.proofs.Naming.{read_named}
use Rattle.records.proofs.RoundTrip.{front_short, front_whole, left_exact, read_undoes}
use Rattle.records.proofs.record.read_record.Goals as goal

pub returns-in-Some : goal.returns-in-Some
returns-in-Some g c =
    let form = g.B.Body.form in
    let laws = g.met.B.Body.lawful in
    let bs : List ℕ = c.args.bytes.now in
    let chunk = c.in-Some.ensures.cases in
    let whole = ap (wrong_byte form) chunk.same ∙ sym (front_whole form laws bs chunk.enough) in
    let old = c.args.parts.now in
    let new = c.read_whole.new.parts in
    let left = subst (λ r. PartsAfter form r old new (wrong_byte form r)) chunk.same c.read_whole.ensures.left in
    let exact = subst (PartsAfter form (take RECORD_SIZE bs) old new) (sym (front_whole form laws bs chunk.enough)) left in
    let is = c.read_whole.ensures.answer ∙ ap read_answer whole in
    record {
      answer = is;
      filled = left_exact form laws bs old new exact;
      undoes = read_undoes form laws bs old new exact _ is;
      named = read_named form laws bs (λ i. omega (arith, c.type_inv.bytes i)) _ is;
    }

pub returns-in-None : goal.returns-in-None
returns-in-None g c =
    let form = g.B.Body.form in
    let laws = g.met.B.Body.lawful in
    let bs : List ℕ = c.args.bytes.now in
    let front : wrong_front form bs ≡ Some (length bs) = front_short form laws bs c.in-None.ensures.cases in
    let old = c.args.parts.now in
    let exact = subst (PartsAfter form (take RECORD_SIZE bs) old old) (sym front) refl in
    let is = ap read_answer (sym front) in
    record {
      answer = is;
      filled = left_exact form laws bs old old exact;
      undoes = read_undoes form laws bs old old exact _ is;
      named = read_named form laws bs (λ i. omega (arith, c.type_inv.bytes i)) _ is;
    }
