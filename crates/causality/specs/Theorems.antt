-- What holds at all times of a room's life, over every carrier that keeps the put relation, for letters of any body B.
use Rattle.std.specs.Prelude.{◌≡◌, ℕ, ◌*◌, ◌<◌, ◌≤◌, Bool, not, ◌&&◌, ◌↔◌, List, [], ◌∷◌, ◌++◌, length, Decides}
use Rattle.letters.specs.declared.letter.Letter.{Letter}
use Rattle.letters.specs.Letters.{letter_name, number_of}
use Rattle.letters.specs.Names.{Name, name_from}
use Rattle.letters.specs.Order.{Covers, CoversLetter, Ready, SameLetter, covers, same_letter}
use Rattle.causality.specs.declared.docket.DocketState.TheVariants.{Clear}
use Rattle.letters.specs.Lists.{◌∈◌}
use Rattle.letters.specs.Logs.{NoDuplicates}
use Rattle.causality.specs.LetterLists.{HasLetter, ForSheets}
use Rattle.causality.specs.History.{History, posted, posted_letters, Seen, LedTo, seen_at, map_letters}
use Rattle.causality.specs.Worlds.{Box, World}
use Rattle.causality.specs.WorldSteps.{Stray}
use Rattle.causality.specs.Runs.{Run, AtAllTimes}

module _ {B : Type 0} where
  -- The log of seat s: what was posted or shown there, no letter twice, and above each letter everything that led to it,
  -- also where names stand for the letters in the events, and everything that it covers but itself.
  pub record WorldInOrder (s : ℕ) (h : History (Letter B)) (log : List (Letter B)) : Type 0 where
    pub seen : (m : Letter B) → (m ∈ log) ↔ Seen s m h
    pub once : NoDuplicates log
    pub led : (a b : List (Letter B)) (m k : Letter B) → log ≡ a ++ (m ∷ b) → LedTo h k m → k ∈ a
    pub led_by_name : (a b : List (Letter B)) (m : Letter B) (i : Name) → log ≡ a ++ (m ∷ b)
        → LedTo (map_letters letter_name h) i (letter_name m) → HasLetter i a
    pub covered : (a b : List (Letter B)) (m : Letter B) (p n : ℕ) → log ≡ a ++ (m ∷ b) → 1 ≤ n → Covers m p n
        → ¬ (letter_name m ≡ name_from p n) → HasLetter (name_from p n) a

  -- m is the very letter that its poster posted, in every part, and as such it stands in its poster's log
  pub record WorldGenuine (N : ℕ) (w : World B) (h : History (Letter B)) (m : Letter B) : Type 0 where
    pub seat : m.poster < N
    pub made : posted m.poster m ∈ h
    pub stands : m ∈ (w.box m.poster).log

  -- every letter in a log, in a hold or on the carrier is genuine, none waits for its own poster, and posts are at the
  -- poster's box
  pub record AllGenuine (N : ℕ) (w : World B) (h : History (Letter B)) : Type 0 where
    pub log : (s : ℕ) (m : Letter B) → m ∈ (w.box s).log → WorldGenuine N w h m
    pub hold : (s : ℕ) (m : Letter B) → m ∈ (w.box s).hold → WorldGenuine N w h m
    pub waiting : (s : ℕ) (m : Letter B) → s < N → m ∈ w.waiting s → WorldGenuine N w h m
    pub other : (s : ℕ) (m : Letter B) → s < N → m ∈ w.waiting s → ¬ (m.poster ≡ s)
    pub posts : (s : ℕ) (m : Letter B) → posted s m ∈ h → m.poster ≡ s

  -- no docket is out or parked, nothing waits for seat s, and nothing held there is ready
  pub record WorldQuiescent (N Q s : ℕ) (w : World B) : Type 0 where
    pub dockets : (t : ℕ) → t < N → (w.box t).docket ≡ Clear
    pub waits : w.waiting s ≡ []
    pub held : (m : Letter B) → m ∈ (w.box s).hold → ¬ (Ready N Q s (w.box s).clock m)

  -- the log holds exactly the posted letters, and the hold is empty
  pub record WorldComplete (h : History (Letter B)) (b : Box B) : Type 0 where
    pub log : (m : Letter B) → (m ∈ b.log) ↔ (m ∈ posted_letters h)
    pub hold : b.hold ≡ []

  -- whether m led to k, by the stamps: k covers m, and is not the same
  abbrev pub stamps_say : Letter B → Letter B → Bool
  stamps_say m k = covers k.stamp m.poster (number_of m) && not (same_letter m k)

  -- r is whether m led to k, in every room where the two were posted
  abbrev pub TellsLedTo : Letter B → Letter B → Bool → Type 0
  TellsLedTo m k r = AtAllTimes {B = B} (λ N Q w h. m ∈ posted_letters h → k ∈ posted_letters h → Decides r (LedTo h m k))

-- Every log is in order, and every letter is the one that was posted; by their names, the same letters led to one another.
pub record CausalOrder (B : Type 0) : Type 0 where
  pub in_order : AtAllTimes {B = B} (λ N Q w h. (s : ℕ) → WorldInOrder s h (w.box s).log)
  -- a log is what was posted or shown there, in that order
  pub in_turn : AtAllTimes {B = B} (λ N Q w h. (s : ℕ) → (w.box s).log ≡ seen_at s h)
  pub by_name : AtAllTimes {B = B} (λ N Q w h. (m k : Letter B) → m ∈ posted_letters h → k ∈ posted_letters h
      → LedTo h m k ↔ LedTo (map_letters letter_name h) (letter_name m) (letter_name k))
  pub genuine : AtAllTimes {B = B} (λ N Q w h. AllGenuine N w h)

-- A quiescent seat is complete.
abbrev pub CompleteDelivery : Type 0 → Type 0
CompleteDelivery B = AtAllTimes {B = B} (λ N Q w h. (s : ℕ) → s < N → WorldQuiescent N Q s w → WorldComplete h (w.box s))

-- A posted letter is stray at no other seat, since the hold always has a place for it; and no log outgrows its places.
pub record EnoughPlaces (B : Type 0) (N Q : ℕ) : Type 0 where
  pub hold : (w : World B) (h : History (Letter B)) → Run N Q w h → (s : ℕ) → s < N → (m : Letter B) → m ∈ posted_letters h
      → ¬ (m.poster ≡ s) → ¬ (Stray N Q s (w.box s) m)
  pub log : (w : World B) (h : History (Letter B)) → Run N Q w h → (s : ℕ) → length (w.box s).log ≤ N * Q

-- Posted letters with the same poster and number are equal in every part; and any beginnings of any two logs of the room,
-- each whole log among them, have what the sheets ask of two lists.
pub record OrderForSheets (B : Type 0) : Type 0 where
  pub equal : AtAllTimes {B = B} (λ N Q w h. (m k : Letter B) → m ∈ posted_letters h → k ∈ posted_letters h
      → SameLetter m k → m ≡ k)
  pub logs : AtAllTimes {B = B} (λ N Q w h. (s t : ℕ) (a a' b b' : List (Letter B))
      → (w.box s).log ≡ a ++ a' → (w.box t).log ≡ b ++ b' → ForSheets a b)

-- Stamps mean happens-before: of posted letters, one led to another exactly when the other covers it and is not the same.
abbrev pub StampsMeanLedTo : Type 0 → Type 0
StampsMeanLedTo B = AtAllTimes {B = B} (λ N Q w h. (m m' : Letter B) → m ∈ posted_letters h → m' ∈ posted_letters h
    → LedTo h m m' ↔ (CoversLetter m' m × ¬ (SameLetter m m')))
