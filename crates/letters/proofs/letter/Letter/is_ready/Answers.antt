use Rattle.std.proofs.Common.{rules, tests}
use Rattle.std.proofs.lemmas.Bool.Decides.{Decides-at}
use Rattle.letters.proofs.Readiness.{decides_ready}
use Rattle.letters.proofs.letter.Letter.is_ready.Goals as goal

pub returns-then-is_next-clause-decides : goal.returns-then-is_next-clause-decides
returns-then-is_next-clause-decides g c =
    Decides-at _ _ (search (rules, tests)) (decides_ready c.args.clock.now c.args.self.now c.args.n c.args.q c.args.seat)
