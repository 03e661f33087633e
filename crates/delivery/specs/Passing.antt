-- What a put and a draw after it answer and leave.
use Rattle.std.specs.Prelude.{◌≡◌, ℕ, not, ◌&&◌, map, Ok, Err, Result, ◌==◌, nat_lt, slice_index_or}
use Rattle.letters.specs.declared.letter.Letter.{Letter}
use Rattle.letters.specs.declared.parts.Parts.{Parts}
use Rattle.letters.specs.Letters.{parts_of}
use Rattle.letters.specs.Refusals.{Reason, unless}
use Rattle.carriers.specs.Lines.{lines_answer}
use Rattle.carriers.specs.Meaning.{Drawn, Meaning, PutOn, put_answer, waits_at}

-- a first answer, and where it accepts the one after it
abbrev pub and_then : Result (Unit {0}) Reason → Result (Unit {0}) Reason → Result (Unit {0}) Reason
and_then (Ok _) later = later
and_then (Err why) later = Err why

-- what is in lent parts: new ones where the answer accepts, else those that were there
abbrev pub parts_by : {P : Type 0} → Result (Unit {0}) Reason → P → P → P
parts_by (Ok _) new old = new
parts_by (Err _) new old = old

-- what a seat answers that draws the first letter of its list after a poster's letter was put: as the put, then as the draw. For
-- every other seat than the poster, that letter waits.
abbrev pub pass_answer : {L : Type 0} → Meaning L → ℕ → ℕ → Result (Unit {0}) Reason
pass_answer m poster seat =
    and_then (put_answer m poster)
    (unless (nat_lt seat m.seats) 8
    (unless (not (seat == poster && waits_at m seat == 0)) 14 (Ok tt)))

-- C is the carrier: `meaning` says what it means, and `puts` what one put of it does.
module _ {B C : Type 0} (meaning : C → Meaning (Letter B)) (puts : C → Letter B → C → Type 0) where
  -- Accepted: one put led to a carrier `mid`, from which the seat drew the first that waited there. Refused: nothing moved. `after`
  -- and `filled` are what is left in the end.
  abbrev pub Passes : {E : Type 0} → Result (Unit {0}) E → C → Letter B → ℕ → Parts B → C → Parts B → Type 0
  Passes (Ok _) c x seat lent after filled =
      (mid : C) × puts c x mid × PutOn (meaning c) x.poster x (meaning mid)
      × Drawn (meaning mid) seat 0 (meaning after) × (filled ≡ slice_index_or (map parts_of ((meaning mid).waiting seat)) 0 lent)
  Passes (Err _) c x seat lent after filled = (after ≡ c) × (filled ≡ lent)

-- what a seat answers that draws a poster's letter from a carrier on which nothing waited before
abbrev pub first_answer : ℕ → ℕ → ℕ → Result (Unit {0}) Reason
first_answer seats poster seat = unless (nat_lt poster seats) 8 (unless (nat_lt seat seats) 8 (unless (not (seat == poster)) 14 (Ok tt)))

-- the same over lines that are made first, of so many letters
abbrev pub delivery_answer : ℕ → ℕ → ℕ → ℕ → ℕ → Result (Unit {0}) Reason
delivery_answer seats size brought poster seat = and_then (lines_answer seats size brought) (first_answer seats poster seat)
