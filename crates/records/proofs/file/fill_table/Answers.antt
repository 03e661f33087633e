use Rattle.std.proofs.Common.{ℕ, ◌<◌, List, [], length, get_or, ap, ◌∙◌, arith}
use Rattle.std.proofs.lemmas.List.{length-set}
use Rattle.records.specs.Records.{wrong_byte}
use Rattle.records.proofs.Filing.{chunk_at, load_more, rest_more}
use Rattle.records.proofs.Loading.{record_at}
use Rattle.records.proofs.file.fill_table.Goals as goal

pub read_letter-requires : goal.read_letter-requires
read_letter-requires g c =
    let form = g.B.Body.form in
    let bs : List ℕ = c.args.bytes.now in
    let i : ℕ = c.loop-index.index in
    let cut = c.as_chunks.ensures in
    let piece = ap (λ l. get_or l i []) cut.front ∙ chunk_at _ bs i (omega (arith, cut.front_len)) in
    let right = record_at form g.met.B.Body.lawful bs c.requires.right i (omega (arith, c.requires.whole, cut.front_len)) in
    ap (wrong_byte form) piece ∙ right.1

pub loop-index-preserved : goal.loop-index-preserved
loop-index-preserved g c =
    let form = g.B.Body.form in
    let bs : List ℕ = c.args.bytes.now in
    let i : ℕ = c.loop-index.index in
    let m = c.read_letter.result in
    let inv = c.loop-index.invariant in
    let cut = c.as_chunks.ensures in
    let piece = ap (λ l. get_or l i []) cut.front ∙ chunk_at _ bs i (omega (arith, cut.front_len)) in
    let within : i < length c.loop-index.table = omega (arith, inv.0, c.requires.places, c.requires.whole, cut.front_len) in (
      length-set c.loop-index.table i m ∙ inv.0,
      load_more form bs c.loop-index.table i m within (c.read_letter.ensures ∙ piece) inv.1,
      rest_more form c.args.table.now c.loop-index.table i m inv.2,
    )
