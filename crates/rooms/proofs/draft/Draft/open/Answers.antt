use Rattle.std.proofs.Common.{[], length, sym, subst}
use Rattle.seats.specs.Rooms.{RoomState}
use Rattle.lives.specs.Reachability.{Reachable, configuration_of, nowhere}
use Rattle.rooms.specs.Drafts.{opening_state, state_of_draft}
use Rattle.rooms.proofs.Running.{as_opened, runnable}
use Rattle.rooms.proofs.draft.Draft.open.Goals as goal

pub returns-clause-reachable : goal.returns-clause-reachable
returns-clause-reachable g c =
    let d = c.args.self in
    let logs = c.args.logs.now in
    let holds = c.args.holds.now in
    let carrier = g.C.Carrier.meaning c.args.carrier.now in
    let can = runnable (state_of_draft d) (length logs) (length holds) carrier 0 0 c.requires in
    let first = configuration_of (opening_state (state_of_draft d)) logs holds carrier in
    let reachable : Reachable [] first = record { first = first; opened = as_opened d logs holds carrier (g.C.Carrier.lawful c.args.carrier.now) _ _ can; led = nowhere } in
    subst (λ (st : RoomState). Reachable [] (configuration_of st logs holds carrier)) (sym c.fresh.ensures) reachable
