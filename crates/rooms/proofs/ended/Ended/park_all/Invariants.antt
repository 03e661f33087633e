use Rattle.std.proofs.Common.{length}
use Rattle.rooms.specs.Handing.{dockets_left}
use Rattle.rooms.specs.States.{state}
use Rattle.rooms.proofs.Handing.{ParkedOthers}
use Rattle.rooms.proofs.ended.Ended.park_all.Given as goal

-- the dockets that are left are those that are still out, and the others are parked
abbrev pub invariant-loop-docket : goal.invariant-loop-docket
invariant-loop-docket l = ParkedOthers (state l.initial.room) (state l.room) (dockets_left l.dockets)

-- each turn takes one of the dockets that are left
abbrev pub decreases-loop-docket : goal.decreases-loop-docket
decreases-loop-docket l = length (dockets_left l.dockets)
