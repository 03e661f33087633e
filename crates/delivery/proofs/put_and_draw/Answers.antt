use Rattle.std.proofs.Common.{inl, inr, ◌≡◌, ◌<◌, true, sym, ap, ◌∙◌, arith}
use Rattle.carriers.proofs.Decisions.{draw_ok, put_accepted, put_ok}
use Rattle.delivery.proofs.Client.{SomeFor, after_yes, pass_ok, passed, some_waits}
use Rattle.delivery.proofs.put_and_draw.Goals as goal
use Rattle.delivery.proofs.put_and_draw.Goals.{else-seat-poster-via-then-seat-poster+else-waits-eq0, else-seat-poster-via-else-seat-poster}

pub returns : goal.returns
returns g c =
    let m = g.C.Carrier.meaning c.args.carrier.now in
    let mid = c.put.new.self in
    let n = g.C.Carrier.meaning mid in
    let x = c.args.letter.now in
    let seat = c.args.seat in
    let is = c.poster-poster.ensures in
    let seated : x.poster < m.seats = omega (arith, is, c.seats.ensures, c.if-poster-seats.false) in
    let here : seat < m.seats = omega (arith, c.seats-2.ensures, c.if-seat-seats.false) in
    let fits : m.fits x.poster ≡ true = ap m.fits (sym is) ∙ sym c.fits.ensures ∙ c.if-not-fits.false in
    let some : SomeFor x m x.poster seat = elim c.else-seat-poster.branch [
      | else-seat-poster-via-then-seat-poster+else-waits-eq0 w ↦ inr (omega (arith, w.waits.ensures, w.if-waits-eq0.false))
      | else-seat-poster-via-else-seat-poster w ↦ inl (λ own. w.if-seat-poster.false (own ∙ sym is))
    ] in
    let took = c.put.ensures.answer ∙ put_ok m x.poster seated fits in
    let put = put_accepted m n x.poster x c.put.result took c.put.ensures.leaves in
    let drew = c.draw.ensures.answer ∙ draw_ok n seat 0 (omega (arith, here, put.seats)) (some_waits x m n x.poster seat put here some) in
    record {
      answer = drew ∙ sym (pass_ok x m x.poster seat seated fits here some);
      passes = passed g.C.Carrier.meaning g.C.Carrier.puts c.args.carrier.now x seat _ _ _ mid c.draw.result drew (after_yes c.put.result _ took c.put.ensures.once) put c.draw.ensures.leaves;
    }
