use Rattle.std.proofs.Common.{ap, ◌∙◌}
use Rattle.letters.specs.Letters.{parts}
use Rattle.causality.proofs.Sample.{arrives}
use Rattle.causality.proofs.order.first_letter.Goals as goal

pub returns : goal.returns
returns g c =
    let body = c.args.body in
    let made = c.make.ensures ∙ ap (λ t. parts t 0 body) c.first_stamp.ensures in
    record { parts = made; arrives = arrives c.make.result body made }
