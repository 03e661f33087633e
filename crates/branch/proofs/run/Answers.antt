use Rattle.branch.proofs.Finishing.{finished}
use Rattle.branch.proofs.run.Goals as goal

pub returns : goal.returns
returns g c = finished g.K.Sheet.kind g.met.K.Sheet.lawful _ _ _ _ _ _ c.open_room-session.ensures.opened c.open_room-session.ensures.reachable c.in_ok-drive.ensures c.print_logs.result c.print_logs.ensures
