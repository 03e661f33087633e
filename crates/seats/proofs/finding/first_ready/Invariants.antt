use Rattle.std.proofs.Common.{◌≡◌, drop, length}
use Rattle.letters.specs.Order.{ready}
use Rattle.seats.specs.Outcomes.{first_passing}
use Rattle.seats.proofs.Readiness.{KnownBelow}
use Rattle.seats.proofs.finding.first_ready.Given as goal

abbrev pub invariant-loop-other : goal.invariant-loop-other
invariant-loop-other g l = KnownBelow l.count l.quota l.seat l.clock l.letter (length l.yielded)

abbrev pub invariant-arrivals : goal.invariant-arrivals
invariant-arrivals g l =
    first_passing (ready l.count l.quota l.seat l.clock) l.at (drop l.at l.hold)
    ≡ first_passing (ready l.count l.quota l.seat l.clock) 0 l.hold
