use Rattle.std.proofs.Common.{refl, rules}
use Rattle.lives.specs.Reachability.{configuration_of}
use Rattle.lives.proofs.Following.{works_on}
use Rattle.rooms.specs.States.{state}
use Rattle.rooms.proofs.Serving.{serves_on}
use Rattle.rooms.proofs.room.Room.make.Goals as goal

pub returns-in_ok-post-in-Post-clause-stays_reachable : goal.returns-in_ok-post-in-Post-clause-stays_reachable
returns-in_ok-post-in-Post-clause-stays_reachable g c = works_on _ _ _ _ (search rules)

pub returns-in_err-post-in-Post-clause-stays_reachable : goal.returns-in_err-post-in-Post-clause-stays_reachable
returns-in_err-post-in-Post-clause-stays_reachable g c = works_on _ _ _ _ (search rules)

pub returns-in_ok-send-in-Send-clause-stays_reachable : goal.returns-in_ok-send-in-Send-clause-stays_reachable
returns-in_ok-send-in-Send-clause-stays_reachable g c = works_on _ _ _ _ (search rules)

pub returns-in_err-send-in-Send-clause-stays_reachable : goal.returns-in_err-send-in-Send-clause-stays_reachable
returns-in_err-send-in-Send-clause-stays_reachable g c = works_on _ _ _ _ (search rules)

pub returns-in_ok-park-in-Park-clause-stays_reachable : goal.returns-in_ok-park-in-Park-clause-stays_reachable
returns-in_ok-park-in-Park-clause-stays_reachable g c = works_on _ _ _ _ (search rules)

pub returns-in_err-park-in-Park-clause-stays_reachable : goal.returns-in_err-park-in-Park-clause-stays_reachable
returns-in_err-park-in-Park-clause-stays_reachable g c = works_on _ _ _ _ (search rules)

pub returns-in_ok-collect-in-Collect-clause-stays_reachable : goal.returns-in_ok-collect-in-Collect-clause-stays_reachable
returns-in_ok-collect-in-Collect-clause-stays_reachable g c = works_on _ _ _ _ (search rules)

pub returns-in_err-collect-in-Collect-clause-stays_reachable : goal.returns-in_err-collect-in-Collect-clause-stays_reachable
returns-in_err-collect-in-Collect-clause-stays_reachable g c = works_on _ _ _ _ (search rules)

pub returns-in_ok-take-in-Take-clause-stays_reachable : goal.returns-in_ok-take-in-Take-clause-stays_reachable
returns-in_ok-take-in-Take-clause-stays_reachable g c = works_on _ _ _ _ (search rules)

pub returns-in_err-take-in-Take-clause-stays_reachable : goal.returns-in_err-take-in-Take-clause-stays_reachable
returns-in_err-take-in-Take-clause-stays_reachable g c = works_on _ _ _ _ (search rules)

pub returns-in_ok-show-in-Show-clause-stays_reachable : goal.returns-in_ok-show-in-Show-clause-stays_reachable
returns-in_ok-show-in-Show-clause-stays_reachable g c = works_on _ _ _ _ (search rules)

pub returns-in_err-show-in-Show-clause-stays_reachable : goal.returns-in_err-show-in-Show-clause-stays_reachable
returns-in_err-show-in-Show-clause-stays_reachable g c = works_on _ _ _ _ (search rules)

pub returns-in_ok-post-in-Post-clause-serves : goal.returns-in_ok-post-in-Post-clause-serves
returns-in_ok-post-in-Post-clause-serves g c =
    serves_on _ _ _ _ _ _ (configuration_of (state c.args.self.now) c.args.logs.now c.args.holds.now (g.C.Carrier.meaning c.args.carrier.now))
    (configuration_of (state c.post.new.self) c.post.new.logs c.args.holds.now (g.C.Carrier.meaning c.args.carrier.now)) _ refl refl (search rules) (search rules)

pub returns-in_err-post-in-Post-clause-serves : goal.returns-in_err-post-in-Post-clause-serves
returns-in_err-post-in-Post-clause-serves g c =
    serves_on _ _ _ _ _ _ (configuration_of (state c.args.self.now) c.args.logs.now c.args.holds.now (g.C.Carrier.meaning c.args.carrier.now))
    (configuration_of (state c.post.new.self) c.post.new.logs c.args.holds.now (g.C.Carrier.meaning c.args.carrier.now)) _ refl refl (search rules) (search rules)

pub returns-in_ok-send-in-Send-clause-serves : goal.returns-in_ok-send-in-Send-clause-serves
returns-in_ok-send-in-Send-clause-serves g c =
    serves_on _ _ _ _ _ _ (configuration_of (state c.args.self.now) c.args.logs.now c.args.holds.now (g.C.Carrier.meaning c.args.carrier.now))
    (configuration_of (state c.send.new.self) c.args.logs.now c.args.holds.now (g.C.Carrier.meaning c.send.new.carrier)) _ refl refl (search rules) (search rules)

pub returns-in_err-send-in-Send-clause-serves : goal.returns-in_err-send-in-Send-clause-serves
returns-in_err-send-in-Send-clause-serves g c =
    serves_on _ _ _ _ _ _ (configuration_of (state c.args.self.now) c.args.logs.now c.args.holds.now (g.C.Carrier.meaning c.args.carrier.now))
    (configuration_of (state c.send.new.self) c.args.logs.now c.args.holds.now (g.C.Carrier.meaning c.send.new.carrier)) _ refl refl (search rules) (search rules)

pub returns-in_ok-park-in-Park-clause-serves : goal.returns-in_ok-park-in-Park-clause-serves
returns-in_ok-park-in-Park-clause-serves g c =
    serves_on _ _ _ _ _ _ (configuration_of (state c.args.self.now) c.args.logs.now c.args.holds.now (g.C.Carrier.meaning c.args.carrier.now))
    (configuration_of (state c.park.new.self) c.args.logs.now c.args.holds.now (g.C.Carrier.meaning c.args.carrier.now)) _ refl refl (search rules) (search rules)

pub returns-in_err-park-in-Park-clause-serves : goal.returns-in_err-park-in-Park-clause-serves
returns-in_err-park-in-Park-clause-serves g c =
    serves_on _ _ _ _ _ _ (configuration_of (state c.args.self.now) c.args.logs.now c.args.holds.now (g.C.Carrier.meaning c.args.carrier.now))
    (configuration_of (state c.park.new.self) c.args.logs.now c.args.holds.now (g.C.Carrier.meaning c.args.carrier.now)) _ refl refl (search rules) (search rules)

pub returns-in_ok-collect-in-Collect-clause-serves : goal.returns-in_ok-collect-in-Collect-clause-serves
returns-in_ok-collect-in-Collect-clause-serves g c =
    serves_on _ _ _ _ _ _ (configuration_of (state c.args.self.now) c.args.logs.now c.args.holds.now (g.C.Carrier.meaning c.args.carrier.now))
    (configuration_of (state c.collect.new.self) c.args.logs.now c.args.holds.now (g.C.Carrier.meaning c.args.carrier.now)) _ refl refl (search rules) (search rules)

pub returns-in_err-collect-in-Collect-clause-serves : goal.returns-in_err-collect-in-Collect-clause-serves
returns-in_err-collect-in-Collect-clause-serves g c =
    serves_on _ _ _ _ _ _ (configuration_of (state c.args.self.now) c.args.logs.now c.args.holds.now (g.C.Carrier.meaning c.args.carrier.now))
    (configuration_of (state c.collect.new.self) c.args.logs.now c.args.holds.now (g.C.Carrier.meaning c.args.carrier.now)) _ refl refl (search rules) (search rules)

pub returns-in_ok-take-in-Take-clause-serves : goal.returns-in_ok-take-in-Take-clause-serves
returns-in_ok-take-in-Take-clause-serves g c =
    serves_on _ _ _ _ _ _ (configuration_of (state c.args.self.now) c.args.logs.now c.args.holds.now (g.C.Carrier.meaning c.args.carrier.now))
    (configuration_of (state c.take.new.self) c.args.logs.now c.take.new.holds (g.C.Carrier.meaning c.take.new.carrier)) _ refl refl (search rules) (search rules)

pub returns-in_err-take-in-Take-clause-serves : goal.returns-in_err-take-in-Take-clause-serves
returns-in_err-take-in-Take-clause-serves g c =
    serves_on _ _ _ _ _ _ (configuration_of (state c.args.self.now) c.args.logs.now c.args.holds.now (g.C.Carrier.meaning c.args.carrier.now))
    (configuration_of (state c.take.new.self) c.args.logs.now c.take.new.holds (g.C.Carrier.meaning c.take.new.carrier)) _ refl refl (search rules) (search rules)

pub returns-in_ok-show-in-Show-clause-serves : goal.returns-in_ok-show-in-Show-clause-serves
returns-in_ok-show-in-Show-clause-serves g c =
    serves_on _ _ _ _ _ _ (configuration_of (state c.args.self.now) c.args.logs.now c.args.holds.now (g.C.Carrier.meaning c.args.carrier.now))
    (configuration_of (state c.show.new.self) c.show.new.logs c.show.new.holds (g.C.Carrier.meaning c.args.carrier.now)) _ refl refl (search rules) (search rules)

pub returns-in_err-show-in-Show-clause-serves : goal.returns-in_err-show-in-Show-clause-serves
returns-in_err-show-in-Show-clause-serves g c =
    serves_on _ _ _ _ _ _ (configuration_of (state c.args.self.now) c.args.logs.now c.args.holds.now (g.C.Carrier.meaning c.args.carrier.now))
    (configuration_of (state c.show.new.self) c.show.new.logs c.show.new.holds (g.C.Carrier.meaning c.args.carrier.now)) _ refl refl (search rules) (search rules)
