use Rattle.std.proofs.Common.{inl, inr, ◌-◌, ◌^◌, ◌<◌, refl, subst, ⊎_elim, arith}
use Rattle.std.proofs.lemmas.Result.{on_err_weaker}
use Rattle.letters.specs.Letters.{parts_of}
use Rattle.pair.proofs.Pairs.{draw_first, draw_past, draw_second, one_first, one_second}
use Rattle.pair.proofs.PairCarrier.draw.Goals as goal

pub returns-then-place-ahead : goal.returns-then-place-ahead
returns-then-place-ahead g c =
    let m = g.C.Carrier.meaning c.args.self.now.first in
    let n = g.D.Carrier.meaning c.args.self.now.second in
    let m' = g.C.Carrier.meaning c.draw.new.self in
    let level = c.args.self.now.level in
    let at = c.draw.ensures in
    let drawn = ⊎_elim
    (λ near. draw_first parts_of m n level c.args.seat c.args.place _ _ _ m' (subst (λ w. c.args.place < w) c.waits-ahead.ensures near) (at.answer, at.leaves))
    (λ far. draw_past parts_of m n level c.args.seat c.args.place _ _ _ m' (omega (arith, far)) (at.answer, at.leaves))
    c.then-place-ahead.either in
    record { answer = drawn.0; leaves = drawn.1; one = one_first parts_of m n m' c.args.seat c.args.place _ _ _ (at.answer, at.leaves); asked = on_err_weaker c.draw.result (λ rest. inl (rest, refl)) at.rests; rests = on_err_weaker c.draw.result (λ rest. (inr rest, inl refl, refl)) at.rests }

pub returns : goal.returns
returns g c =
    let m = g.C.Carrier.meaning c.args.self.now.first in
    let n = g.D.Carrier.meaning c.args.self.now.second in
    let level = c.args.self.now.level in
    let at = c.draw-2.ensures in
    let low : c.args.place < 2 ^ 32 - 1 = omega (arith, c.ranges.place.fits, c.if-place-eq4294967295.false) in
    let drawn = draw_second parts_of m n level c.args.seat c.args.place _ _ _ _ _ c.waits-ahead.ensures c.if-place-ahead.false low (at.answer, at.leaves) in
    let one = one_second parts_of m n _ c.args.seat c.args.place _ _ _ _ c.waits-ahead.ensures c.if-place-ahead.false low (at.answer, at.leaves) in
    record { answer = drawn.0; leaves = drawn.1; one = one; asked = on_err_weaker c.draw-2.result (λ rest. inr (refl, rest)) at.rests; rests = on_err_weaker c.draw-2.result (λ rest. (inl refl, inr rest, refl)) at.rests }
