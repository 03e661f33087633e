-- What a carrier holds, and what its calls answer and leave. L is the type of the letters.
use Rattle.std.specs.Prelude.{◌≡◌, ℕ, ◌-◌, ◌^◌, ◌<◌, ◌≤◌, min, Bool, true, false, ◌&&◌, List, [], map, length, Ok, Err, Result, nat_le, nat_lt, slice_index_or}
use Rattle.std.specs.List.{remove}
use Rattle.letters.specs.Refusals.{Reason, unless}
use Rattle.carriers.specs.Putting.{Put}

-- a number of seats, for each seat the list of letters that wait for it, and for each poster whether one more letter has place
pub record Meaning (L : Type 0) : Type 0 where
  pub seats : ℕ
  pub waiting : ℕ → List L
  pub fits : ℕ → Bool

-- a carrier has 1 to 16 seats
abbrev pub seats_right : ℕ → Bool
seats_right seats = nat_lt 0 seats && nat_le seats 16

module _ {L : Type 0} where
  -- nothing waits for anybody
  abbrev pub Empty : Meaning L → Type 0
  Empty m = (k : ℕ) → m.waiting k ≡ []

  -- what holds of every carrier
  pub record LawfulMeaning (m : Meaning L) : Type 0 where
    pub some_seats : 1 ≤ m.seats
    pub few_seats : m.seats ≤ 16
    pub no_waiting : (k : ℕ) → m.seats ≤ k → m.waiting k ≡ []
    pub no_fits : (k : ℕ) → m.seats ≤ k → m.fits k ≡ false
    -- while nothing waits for anybody, each poster's letter has place
    pub empty_fits : Empty m → (p : ℕ) → p < m.seats → m.fits p ≡ true

  -- how many letters wait for a seat; a list longer than 2^32 - 1 counts as that many
  abbrev pub waits_at : Meaning L → ℕ → ℕ
  waits_at m k = min (length (m.waiting k)) (2 ^ 32 - 1)

  abbrev pub put_answer : Meaning L → ℕ → Result (Unit {0}) Reason
  put_answer m poster = unless (nat_lt poster m.seats) 8 (unless (m.fits poster) 11 (Ok tt))

  abbrev pub draw_answer : Meaning L → ℕ → ℕ → Result (Unit {0}) Reason
  draw_answer m seat place = unless (nat_lt seat m.seats) 8 (unless (nat_lt place (waits_at m seat)) 14 (Ok tt))

  -- a poster's letter was put on the carrier
  pub record PutOn (m : Meaning L) (poster : ℕ) (x : L) (after : Meaning L) : Type 0 where
    pub seats : after.seats ≡ m.seats
    pub lists : Put m.seats poster x m.waiting after.waiting

  -- a place was taken out of a seat's list; the other places kept their order
  pub record Drawn (m : Meaning L) (seat place : ℕ) (after : Meaning L) : Type 0 where
    pub seats : after.seats ≡ m.seats
    pub own : after.waiting seat ≡ remove (m.waiting seat) place
    pub others : (k : ℕ) → ¬ (k ≡ seat) → after.waiting k ≡ m.waiting k

  -- what a put leaves: on refusal, all as it was
  abbrev pub PutLeaves : {E : Type 0} → Result (Unit {0}) E → Meaning L → ℕ → L → Meaning L → Type 0
  PutLeaves (Ok _) m poster x after = PutOn m poster x after
  PutLeaves (Err _) m poster x after = after ≡ m

  -- what a draw leaves, and what is in the lent parts then: those of the letter at the place; on refusal, all as it was
  abbrev pub DrawLeaves : {P E : Type 0} → (L → P) → Result (Unit {0}) E → Meaning L → ℕ → ℕ → Meaning L → P → P → Type 0
  DrawLeaves parts (Ok _) m seat place after lent filled = Drawn m seat place after × (filled ≡ slice_index_or (map parts (m.waiting seat)) place lent)
  DrawLeaves parts (Err _) m seat place after lent filled = (after ≡ m) × (filled ≡ lent)

-- on refusal, memory is as it was
abbrev pub UnchangedIfRefused : {X E : Type 0} → Result (Unit {0}) E → X → X → Type 0
UnchangedIfRefused (Ok _) before after = Unit {0}
UnchangedIfRefused (Err _) before after = after ≡ before
