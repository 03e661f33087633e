use Rattle.std.proofs.Common.{◌≡◌, ℕ, ◌/◌, true, false, leb, List, length, None, sym, refl, ap, ◌∙◌, rules}
use Rattle.std.proofs.lemmas.Bool.{le-leb, lt-leb}
use Rattle.records.specs.Files.{file_fault, load_answer, load_check}
use Rattle.records.specs.declared.record.TheConstants.{RECORD_SIZE}
use Rattle.records.proofs.Loading.{load_undoes, whole_file}
use Rattle.records.proofs.file.load.Goals as goal

pub returns-in-Some : goal.returns-in-Some
returns-in-Some g c =
    let form = g.B.Body.form in
    let bs : List ℕ = c.args.bytes.now in
    let old = c.args.table.now in
    let is = ap (λ f. load_check f (length bs / RECORD_SIZE) (length old)) c.in-Some.ensures in
    record { answer = is; table = refl; undoes = load_undoes form g.met.B.Body.lawful bs old old _ is refl }

pub returns-then-table-count : goal.returns-then-table-count
returns-then-table-count g c =
    let form = g.B.Body.form in
    let bs : List ℕ = c.args.bytes.now in
    let old = c.args.table.now in
    let right : file_fault form bs ≡ None = sym c.in_default.ensures in
    let few : leb (length bs / RECORD_SIZE) (length old) ≡ false = lt-leb (length bs / RECORD_SIZE) (length old) c.if-table-count.true in
    let none : load_check None (length bs / RECORD_SIZE) (length old) ≡ load_answer form bs (length old) =
    ap (λ f. load_check f (length bs / RECORD_SIZE) (length old)) (sym right) in
    let is = sym (rw few) ∙ none in
    record { answer = is; table = refl; undoes = load_undoes form g.met.B.Body.lawful bs old old _ is refl }

pub fill_table-requires : goal.fill_table-requires
fill_table-requires g c =
    let whole = whole_file g.B.Body.form g.met.B.Body.lawful c.args.bytes.now (sym c.in_default.ensures) in
    record { whole = whole; places = search rules; right = sym c.in_default.ensures }

pub returns : goal.returns
returns g c =
    let form = g.B.Body.form in
    let bs : List ℕ = c.args.bytes.now in
    let old = c.args.table.now in
    let new = c.fill_table.new.table in
    let right : file_fault form bs ≡ None = sym c.in_default.ensures in
    let room : leb (length bs / RECORD_SIZE) (length old) ≡ true = le-leb (length bs / RECORD_SIZE) (length old) c.if-table-count.false in
    let none : load_check None (length bs / RECORD_SIZE) (length old) ≡ load_answer form bs (length old) =
    ap (λ f. load_check f (length bs / RECORD_SIZE) (length old)) (sym right) in
    let is = sym (rw room) ∙ none in
    record { answer = is; table = c.fill_table.ensures; undoes = load_undoes form g.met.B.Body.lawful bs old new _ is c.fill_table.ensures }
