-- What lines hold: for each seat a queue of so many places, side by side in one list of letters.
use Rattle.std.specs.Prelude.{◌≡◌, ℕ, zero, suc, ◌+◌, ◌*◌, ◌<◌, Bool, cond, ◌&&◌, ◌||◌, List, length, Ok, Result, ◌==◌, nat_le, nat_lt, slice_index, slice_set}
use Rattle.std.specs.List.{copy_within}
use Rattle.letters.specs.declared.letter.Letter.{Letter}
use Rattle.letters.specs.Order.{each_below}
use Rattle.letters.specs.Refusals.{Reason, unless}
use Rattle.carriers.specs.declared.lines.Lines.{Lines}
use Rattle.carriers.specs.Meaning.{Meaning, seats_right}
use Rattle.carriers.specs.Places.{part_at}

-- what the check before lines are made answers, for so many letters brought
abbrev pub lines_answer : ℕ → ℕ → ℕ → Result (Unit {0}) Reason
lines_answer seats size brought = unless (seats_right seats) 6 (unless (nat_lt 0 size && nat_le (seats * size) brought) 5 (Ok tt))

-- whether each of the first n seats, but for the poster, has a free place
abbrev pub others_free : List ℕ → ℕ → ℕ → ℕ → Bool
others_free counts size poster n = each_below (λ k. (k == poster) || nat_lt (slice_index counts k) size) n

-- what lines mean: seat k's queue begins at place k × size and is as long as its count
abbrev pub lines_meaning : {L : Type 0} → ℕ → ℕ → List ℕ → List L → Meaning L
lines_meaning seats size counts places = record {
  seats = seats;
  waiting = λ k. part_at (k * size) (slice_index counts k) places;
  fits = λ p. nat_lt p seats && others_free counts size p seats;
}

abbrev pub lines_of : {B : Type 0} → Lines B → Meaning (Letter B)
lines_of l = lines_meaning l.seats l.size l.counts l.places.now

-- a poster's letter has place: the poster is a seat, and the list of each other seat is shorter than its queue
abbrev pub HasPlaces : {B : Type 0} → Lines B → ℕ → Type 0
HasPlaces l poster = (poster < l.seats) × ((k : ℕ) → k < l.seats → ¬ (k ≡ poster) → length ((lines_of l).waiting k) < l.size)

-- the places after a letter is put for the first n seats but the poster: behind each of their queues it is written, and nothing else
abbrev pub put_places : {L : Type 0} → ℕ → List ℕ → ℕ → L → List L → ℕ → List L
put_places size counts poster x places zero = places
put_places size counts poster x places (suc n) =
    cond (n == poster)
    (put_places size counts poster x places n)
    (slice_set (put_places size counts poster x places n) (n * size + slice_index counts n) x)

-- the whole table after an accepted put
abbrev pub table_put : {B : Type 0} → Lines B → Letter B → List (Letter B)
table_put l m = put_places l.size l.counts m.poster m l.places.now l.seats

-- and after an accepted draw: in the seat's queue, what waits behind the place moves down by one
abbrev pub table_drawn : {B : Type 0} → Lines B → ℕ → ℕ → List (Letter B)
table_drawn l seat place = copy_within l.places.now (seat * l.size + (place + 1)) (seat * l.size + slice_index l.counts seat) (seat * l.size + place)
