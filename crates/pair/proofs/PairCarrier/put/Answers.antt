use Rattle.std.proofs.Common.{◌≡◌, ◌<◌, true, sym, ap, ◌∙◌, arith}
use Rattle.carriers.proofs.Decisions.{no_refusal, put_ok}
use Rattle.pair.proofs.Pairs.{once_both, put_joined}
use Rattle.pair.proofs.PairCarrier.put.Goals as goal

pub returns : goal.returns
returns g c =
    let m = g.C.Carrier.meaning c.args.self.now.first in
    let n = g.D.Carrier.meaning c.args.self.now.second in
    let p = c.poster-poster.result in
    let is : p ≡ c.args.letter.now.poster = c.poster-poster.ensures in
    let level : m.seats ≡ n.seats = c.args.self.now.level in
    let seated : p < m.seats = omega (arith, c.args.self.now.seated, c.if-poster-self.false) in
    let one = c.put.ensures in
    let two = c.put-2.ensures in
    let fits₁ : m.fits c.args.letter.now.poster ≡ true = ap m.fits (sym is) ∙ sym c.fits.ensures ∙ c.if-not-fits.false in
    let fits₂ : n.fits c.args.letter.now.poster ≡ true = ap n.fits (sym is) ∙ sym c.fits-else-not-fits.ensures ∙ c.if-not-fits-2.false in
    let both = put_joined m n _ _ c.args.letter.now.poster c.args.letter.now _ _ level (omega arith) fits₁ fits₂ one.answer one.leaves two.answer two.leaves in
    record {
      answer = both.0;
      leaves = both.1;
      once = once_both _ _ _ _ (one.answer ∙ put_ok m c.args.letter.now.poster (omega arith) fits₁) one.once two.once;
      first = both.2;
      second = two.leaves;
      untouched = no_refusal _ _ (two.answer ∙ put_ok n c.args.letter.now.poster (omega arith) fits₂);
      rests = no_refusal _ _ (two.answer ∙ put_ok n c.args.letter.now.poster (omega arith) fits₂);
    }
