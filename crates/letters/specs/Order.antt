-- Which letters a letter knew of when it was posted, and when it may be shown.
use Rattle.std.specs.Prelude.{◌≡◌, ℕ, zero, suc, ◌+◌, ◌<◌, ◌≤◌, Bool, true, not, ◌&&◌, ◌||◌, ◌==◌, nat_le, nat_lt}
use Rattle.letters.specs.declared.letter.Letter.{Letter}
use Rattle.letters.specs.declared.stamp.Stamp.{Stamp}
use Rattle.letters.specs.Letters.{entry_at, number_of}

-- a test holds of each number below a bound
abbrev pub each_below : (ℕ → Bool) → ℕ → Bool
each_below test zero = true
each_below test (suc n) = test n && each_below test n

-- a stamp covers p.n when its entry at p is at least n
abbrev pub covers : Stamp → ℕ → ℕ → Bool
covers s p n = nat_le n (entry_at s p)

module _ {B : Type 0} where
  -- a letter covers p.n: its poster had posted or shown p.n by then
  abbrev pub Covers : Letter B → ℕ → ℕ → Type 0
  Covers m p n = n ≤ entry_at m.stamp p

  -- a letter covers another
  abbrev pub CoversLetter : Letter B → Letter B → Type 0
  CoversLetter m k = Covers m k.poster (number_of k)

  -- side by side: neither letter covers the other
  pub record SideBySide (m k : Letter B) : Type 0 where
    pub forth : ¬ (CoversLetter m k)
    pub back : ¬ (CoversLetter k m)

  abbrev pub side_by_side : Letter B → Letter B → Bool
  side_by_side m k =
      not (covers m.stamp k.poster (number_of k)) && not (covers k.stamp m.poster (number_of m))

  -- letters are the same when poster and number agree
  pub record SameLetter (m k : Letter B) : Type 0 where
    pub poster : m.poster ≡ k.poster
    pub number : number_of m ≡ number_of k

  abbrev pub same_letter : Letter B → Letter B → Bool
  same_letter m k = m.poster == k.poster && number_of m == number_of k

  -- a letter may be shown next at a seat of a room of n seats with the quota q: it is another seat's letter, the next one
  -- from there, and its poster had seen nothing that the seat's clock lacks
  pub record Ready (n q seat : ℕ) (clock : ℕ → ℕ) (m : Letter B) : Type 0 where
    pub below : m.poster < n
    pub other : ¬ (m.poster ≡ seat)
    pub within : number_of m ≤ q
    pub next : number_of m ≡ clock m.poster + 1
    pub known : (p : ℕ) → ¬ (p ≡ m.poster) → entry_at m.stamp p ≤ clock p

  -- the entry at p is the poster's own, or is at most the clock's
  abbrev pub known_at : Stamp → Letter B → ℕ → Bool
  known_at clock m p = p == m.poster || nat_le (entry_at m.stamp p) (entry_at clock p)

  -- so is each of the sixteen
  unfoldable pub all_known : Stamp → Letter B → Bool
  all_known clock m = each_below (known_at clock m) 16

  -- what the test of readiness answers
  abbrev pub ready : ℕ → ℕ → ℕ → Stamp → Letter B → Bool
  ready n q seat clock m =
      nat_lt m.poster n
      && (not (m.poster == seat)
      && (nat_le (number_of m) q
      && (number_of m == entry_at clock m.poster + 1
      && all_known clock m)))
