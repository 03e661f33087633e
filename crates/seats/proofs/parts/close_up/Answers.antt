use Rattle.std.proofs.Common.{◌≡◌, ◌+◌, ◌-◌, ◌<◌, suc, length, sym, ◌∙◌, arith}
use Rattle.std.proofs.lemmas.Bool.{cond-true, lt-ltb}
use Rattle.seats.proofs.Turning.{turned}
use Rattle.seats.proofs.parts.close_up.Goals as goal

pub returns : goal.returns
returns g c =
    let table = c.args.table.now in
    let at = c.args.at in
    let behind = c.args.behind in
    let fits : at + behind < length table = omega (arith, c.if-behind-table.false, c.if-at-table.false) in
    let size : at + behind + 1 - at ≡ suc behind = omega arith in
    turned table at behind _ fits size _ _ c.rotate_left.ensures.after c.index-moving-behind.is
    ∙ sym (cond-true _ _ _ (lt-ltb (at + behind) (length table) fits))
