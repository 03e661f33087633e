use Rattle.std.proofs.Common.{◌≡◌, length, unwrap_or, ap, ◌∙◌, rules, tests}
use Rattle.std.specs.List.{position}
use Rattle.std.proofs.lemmas.Iterator.{YieldsList-from_slice}
use Rattle.std.proofs.lemmas.Iterator.Search.{position_from_yields_List}
use Rattle.sheets.proofs.Scans.{unwrap_or-position}
use Rattle.sheets.proofs.placing.place_for.Goals as goal

pub returns-clause-place : goal.returns-clause-place
returns-clause-place g c =
    let behind = λ (r : g.row.T.Denot). g.T.OrderedRow.after r c.args.new.now in
    let rows = c.args.rows.now in
    let at : c.position.result ≡ position behind rows =
    position_from_yields_List behind _ _ c.position.result c.position.ensures.ran (YieldsList-from_slice rows cc) (λ x b q k. search (rules, tests)) in
    c.unwrap_or.ensures ∙ ap (λ o. unwrap_or o (length rows)) at ∙ unwrap_or-position behind rows
