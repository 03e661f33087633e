-- What happened in a room, and what led to what, without stamps. L is what stands for a letter: the whole letter, or
-- its name.
use Rattle.std.specs.Prelude.{◌≡◌, ℕ, cond, ◌⊎◌, List, [], ◌∷◌, ◌++◌, ◌==◌}

-- a letter was posted, or shown (delivered), at the box of a seat
pub data Event (L : Type 0) : Type 0 where
  posted : (seat : ℕ) (letter : L) → Event L
  shown : (seat : ℕ) (letter : L) → Event L

-- the events so far, the newest first
abbrev pub History : Type 0 → Type 0
History L = List (Event L)

module _ {L : Type 0} where
  -- the posted letters, the newest first
  abbrev pub posted_letters : History L → List L
  posted_letters [] = []
  posted_letters (posted s m ∷ h) = m ∷ posted_letters h
  posted_letters (shown s m ∷ h) = posted_letters h

  -- m was posted or shown at the box of seat s
  abbrev pub Seen : ℕ → L → History L → Type 0
  Seen s m [] = ⊥
  Seen s m (posted t k ∷ h) = ((s ≡ t) × (m ≡ k)) ⊎ Seen s m h
  Seen s m (shown t k ∷ h) = ((s ≡ t) × (m ≡ k)) ⊎ Seen s m h

  -- the letters that were posted or shown at the box of seat s, the oldest first
  abbrev pub seen_at : ℕ → History L → List L
  seen_at s [] = []
  seen_at s (posted t m ∷ h) = cond (t == s) (seen_at s h ++ (m ∷ [])) (seen_at s h)
  seen_at s (shown t m ∷ h) = cond (t == s) (seen_at s h ++ (m ∷ [])) (seen_at s h)

  -- at the box where m' was posted, its poster's, m was posted or shown before
  abbrev pub Before : L → L → History L → Type 0
  Before m m' [] = ⊥
  Before m m' (posted t k ∷ h) = ((m' ≡ k) × Seen t m h) ⊎ Before m m' h
  Before m m' (shown t k ∷ h) = Before m m' h

  -- happens-before: m led to m'
  pub data LedTo (h : History L) : L → L → Type 0 where
    direct : {m m' : L} → Before m m' h → LedTo h m m'
    through : {m k m' : L} → LedTo h m k → LedTo h k m' → LedTo h m m'

-- the same events, with what a function makes of each letter in its place
abbrev pub map_letters : {A L : Type 0} → (A → L) → History A → History L
map_letters f [] = []
map_letters f (posted s m ∷ h) = posted s (f m) ∷ map_letters f h
map_letters f (shown s m ∷ h) = shown s (f m) ∷ map_letters f h
