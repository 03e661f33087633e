use Rattle.lives.proofs.Keeping.{always_keeps}
use Rattle.lives.proofs.laws.guarantees_hold.Goals as goal

pub returns-clause-guarantees : goal.returns-clause-guarantees
returns-clause-guarantees g c = always_keeps g.K.Sheet.kind g.met.K.Sheet.lawful
