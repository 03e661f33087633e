-- What a pair of carriers holds, and when one can be made.
use Rattle.std.specs.Prelude.{◌≡◌, ℕ, ◌-◌, ◌<◌, ◌≤◌, cond, ◌&&◌, ◌++◌, ◌⊎◌, length, Ok, Err, Result, ◌==◌}
use Rattle.letters.specs.declared.letter.Letter.{Letter}
use Rattle.letters.specs.declared.parts.Parts.{Parts}
use Rattle.letters.specs.Letters.{parts_of}
use Rattle.letters.specs.Refusals.{Reason, unless}
use Rattle.carriers.specs.declared.carrier.Carrier.{Ghosts}
use Rattle.carriers.specs.Meaning.{DrawLeaves, Drawn, Meaning, PutLeaves}

-- what the check before a pair is made answers, for two numbers of seats
abbrev pub pair_answer : ℕ → ℕ → Result (Unit {0}) Reason
pair_answer s t = unless (s == t) 6 (Ok tt)

-- the first's lists followed by the second's; a letter fits where it fits both
abbrev pub joined : {L : Type 0} → Meaning L → Meaning L → Meaning L
joined m n = record {
  seats = m.seats;
  waiting = λ k. m.waiting k ++ n.waiting k;
  fits = λ p. m.fits p && n.fits p;
}

-- what a pair means. Two of unequal seats are never made a pair; there it is the first's meaning, so that each value has one.
abbrev pub both : {L : Type 0} → Meaning L → Meaning L → Meaning L
both m n = cond (m.seats == n.seats) (joined m n) m

-- what a refusal of the pair leaves of one of the two: it is as it was, or as its own refusal leaves it, by `rests`
abbrev pub Rested : {C : Type 0} → (C → C → Type 0) → C → C → Type 0
Rested rests c after = (after ≡ c) ⊎ rests c after

-- what a refused draw leaves of the two: one of them refused it, and the other is as it was
abbrev pub OneRests : {C D : Type 0} → (C → C → Type 0) → (D → D → Type 0) → C → C → D → D → Type 0
OneRests rests rests' c c' d d' = (rests c c' × (d' ≡ d)) ⊎ ((c' ≡ c) × rests' d d')

module _ {L : Type 0} where
  -- the place is the first's, which was drawn from; or it is behind those, and the second was. The other is as it was.
  abbrev pub DrawnFrom : Meaning L → Meaning L → ℕ → ℕ → Meaning L → Meaning L → Type 0
  DrawnFrom m n seat place m' n' =
      ((place < length (m.waiting seat)) × Drawn m seat place m' × (n' ≡ n))
      ⊎ ((length (m.waiting seat) ≤ place) × Drawn n seat (place - length (m.waiting seat)) n' × (m' ≡ m))

  -- what a draw leaves in the two: where it is refused, both as they were
  abbrev pub DrawsOne : {E : Type 0} → Result (Unit {0}) E → Meaning L → Meaning L → ℕ → ℕ → Meaning L → Meaning L → Type 0
  DrawsOne (Ok _) m n seat place m' n' = DrawnFrom m n seat place m' n'
  DrawsOne (Err _) m n seat place m' n' = (m' ≡ m) × (n' ≡ n)

module _ {C B E : Type 0} (carrier : Ghosts C B) where
  -- what a put leaves of what a carrier means: where it is refused, all as it was
  abbrev pub CarrierPut : Result (Unit {0}) E → C → Letter B → C → Type 0
  CarrierPut result c m after = PutLeaves result (carrier.meaning c) m.poster m (carrier.meaning after)

  -- what a draw leaves of what a carrier means, and in the lent parts: where it is refused, all as it was
  abbrev pub CarrierDraw : Result (Unit {0}) E → C → ℕ → ℕ → C → Parts B → Parts B → Type 0
  CarrierDraw result c seat place after lent filled =
      DrawLeaves parts_of result (carrier.meaning c) seat place (carrier.meaning after) lent filled

module _ {C D B E : Type 0} (first : Ghosts C B) (second : Ghosts D B) where
  -- what a draw leaves of what each of the two means
  abbrev pub CarriersDraw : Result (Unit {0}) E → C → D → ℕ → ℕ → C → D → Type 0
  CarriersDraw result c d seat place c' d' =
      DrawsOne result (first.meaning c) (second.meaning d) seat place (first.meaning c') (second.meaning d')
