use Rattle.std.proofs.Common.{IfSome}
use Rattle.listing.proofs.Pieces.{Between}
use Rattle.listing.proofs.list.Given as goal

-- the letters so far are listed
abbrev pub invariant-loop : goal.invariant-loop
invariant-loop g l = IfSome (g.R.Read.remaining l.initial.input) (λ bytes. Between g.B.Body.form g.met.B.Body.lawful g.B.Say.says bytes (g.R.Read.remaining l.input)
    (g.W.Write.contents l.initial.output) (g.W.Write.contents l.output) l.letters)
