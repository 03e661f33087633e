use Rattle.std.proofs.Common.{◌≡◌, ◌≤◌, [], ◌∷◌, length, sym, length-append, arith}
use Rattle.letters.specs.Letters.{entry_at}
use Rattle.std.proofs.Common.{None, ◌∙◌}
use Rattle.std.proofs.lemmas.List.{at_drop_all}
use Rattle.letters.specs.Order.{ready}
use Rattle.seats.specs.Outcomes.{first_passing}
use Rattle.letters.proofs.Readiness.{decides_ready}
use Rattle.seats.proofs.Searches.{first_on, first_found, first_such}
use Rattle.seats.proofs.Readiness.{pair_turn, pairs_end, known_more, too_early, is_ready}
use Rattle.seats.proofs.finding.first_ready.Goals.{else-stamped-shown-via-then-stamped-shown+else-other-poster, else-stamped-shown-via-else-stamped-shown}
use Rattle.seats.proofs.finding.first_ready.Goals as goal

pub loop-other-preserved : goal.loop-other-preserved
loop-other-preserved g c =
    let m = c.index-hold-at.result in
    let clock = c.args.clock.now in
    let k = length c.loop-other.yielded in
    let pair =
    pair_turn m.stamp clock m.sized (omega arith) c.into_iter-other-iterator.result (cc) (cc) (cc)
    c.loop-other.yielded c.loop-other.other-iterator c.loop-other.yielded_by c.next.result c.next.new.self c.next.ensures.steps _ c.in-Some.is in
    let known : ¬ (k ≡ m.poster) → entry_at m.stamp k ≤ entry_at clock k =
    λ other. elim c.else-stamped-shown.branch [
      | else-stamped-shown-via-then-stamped-shown+else-other-poster w ↦ absurd (other (omega (arith, pair.seat, c.poster-poster.ensures, w.if-other-poster.false)))
      | else-stamped-shown-via-else-stamped-shown w ↦ omega (arith, pair.stamped, pair.shown, w.if-stamped-shown.false)
    ] in
    λ p lt. known_more c.args.count c.args.quota c.args.seat clock m k c.loop-other.invariant known p
    (omega (arith, lt, length-append c.loop-other.yielded ((c.in-Some.other, (c.in-Some.stamped, c.in-Some.shown)) ∷ [])))

pub arrivals-preserved : goal.arrivals-preserved
arrivals-preserved g c =
    let m = c.index-hold-at.result in
    let clock = c.args.clock.now in
    let pair =
    pair_turn m.stamp clock m.sized (omega arith) c.into_iter-other-iterator.result (cc) (cc) (cc)
    c.loop-other.yielded c.loop-other.other-iterator c.loop-other.yielded_by c.next.result c.next.new.self c.next.ensures.steps _ c.in-Some.is in
    first_on _ c.args.hold.now c.arrivals.at _ c.arrivals.invariant m c.arrivals-test.true c.index-hold-at.is
    (too_early c.args.count c.args.quota c.args.seat clock m (length c.loop-other.yielded)
    (λ e. omega (arith, e, pair.seat, c.poster-poster.ensures, c.if-other-poster.true)) (omega (arith, pair.stamped, pair.shown, c.if-stamped-shown.true)))

pub returns-in-arrivals : goal.returns-in-arrivals
returns-in-arrivals g c =
    let m = c.index-hold-at.result in
    let clock = c.args.clock.now in
    let all : length c.loop-other.yielded ≡ 16 =
    pairs_end m.stamp clock m.sized (omega arith) c.into_iter-other-iterator.result (cc) (cc) (cc)
    c.loop-other.yielded c.loop-other.other-iterator c.loop-other.yielded_by c.next.result c.next.new.self c.next.ensures.steps c.in-None.is in
    let answer =
    first_found _ c.args.hold.now c.arrivals.at _ c.arrivals.invariant m c.arrivals-test.true c.index-hold-at.is
    (is_ready c.args.count c.args.quota c.args.seat clock m (sym c.if-not-is_due.ensures)
    (λ p lt. c.loop-other.invariant p (omega arith))) in
    record {
      answer = answer;
      decides = first_such _ _ (λ x. decides_ready c.args.clock.now x c.args.count c.args.quota c.args.seat) c.args.hold.now _ answer;
    }

pub returns : goal.returns
returns g c =
    let m = ready c.args.count c.args.quota c.args.seat c.args.clock.now in
    let answer = sym (at_drop_all (first_passing m c.arrivals.at) c.args.hold.now c.arrivals.at c.arrivals-test.false) ∙ c.arrivals.invariant in
    record {
      answer = answer;
      decides = first_such m _ (λ x. decides_ready c.args.clock.now x c.args.count c.args.quota c.args.seat) c.args.hold.now None answer;
    }
