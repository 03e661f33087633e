-- What the calls and their callers may draw from the definitions and from the theorem.
use Rattle.std.proofs.Common.{◌≡◌, ℕ, ◌-◌, ◌^◌, ◌<◌, min, List, [], ◌∷◌, length, refl, ⊎_elim, arith}
use Rattle.std.proofs.lemmas.Bool.{cases_lt}
use Rattle.carriers.specs.Meaning.{Empty, LawfulMeaning, Meaning, waits_at}
use Rattle.letters.specs.Lists.{◌∈◌}
use Rattle.seats.specs.declared.docket_id.DocketId.{DocketId}
use Rattle.lives.specs.declared.operation.Operation.{Operation}
use Rattle.lives.specs.Traces.{Answer}
use Rattle.lives.specs.Reachability.{Configuration, RoomStep, StaysReachable, further}

-- a step leaves the room reachable
pub works_on : {B : Type 0} (operation : Operation B DocketId) (w : Configuration B) (answer : Answer) (w' : Configuration B) → RoomStep operation w answer w' → StaysReachable operation w answer w'
works_on operation w answer w' step trace was = record { first = was.first; opened = was.opened; led = further was.led step }

none_long : {X : Type 0} (l : List X) → min (length l) (2 ^ 32 - 1) ≡ 0 → l ≡ []
none_long [] e = refl
none_long (x ∷ l) e = absurd (omega arith)

-- where no letter waits at a seat that the carrier serves, nothing waits for anybody
pub nothing_waits : {L : Type 0} (c : Meaning L) → LawfulMeaning c → ((k : ℕ) → k < c.seats → waits_at c k ≡ 0) → Empty c
nothing_waits c laws quiet k = ⊎_elim (λ lt. none_long (c.waiting k) (quiet k lt)) (λ ge. laws.no_waiting k ge) (cases_lt k c.seats)
