use Rattle.std.proofs.Common.{◌<◌, length, sym, ap, ◌∙◌, arith, rules}
use Rattle.std.proofs.lemmas.Bool.Decides.{nat_tests}
use Rattle.std.specs.List.{insert}
use Rattle.sheets.specs.Placing.{place_among}
use Rattle.sheets.proofs.Inserts.{placed_free, placed_is}
use Rattle.sheets.proofs.placing.insert.Goals as goal

pub returns-clause-rows : goal.returns-clause-rows
returns-clause-rows g c =
    let after = g.T.OrderedRow.after in
    let rows = c.args.rows.now.items in
    let new = c.args.new in
    let free : length rows < g.row.N = grind (arith, rules, nat_tests) in
    let is = c.insert.ensures.items
    ∙ ap (λ n. insert rows n new) (c.place_for-at.ensures.place ∙ ap (λ l. place_among after l new) c.as_slice.ensures.value)
    ∙ sym (placed_is after rows new) in
    is ∙ sym (placed_free after g.row.N rows new free)
