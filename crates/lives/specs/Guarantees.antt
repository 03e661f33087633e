-- What is kept at all times of a room's life, in terms of its trace and of what can be seen: logs, holds, and what waits.
use Rattle.std.specs.Prelude.{◌≡◌, ℕ, ◌*◌, ◌<◌, ◌≤◌, false, ◌↔◌, List, [], ◌∷◌, ◌++◌, map, length, take, Ok}
use Rattle.letters.specs.declared.letter.Letter.{Letter}
use Rattle.letters.specs.Letters.{letter_name}
use Rattle.letters.specs.Names.{Name, name_from}
use Rattle.letters.specs.Order.{Covers, CoversLetter, Ready, SameLetter}
use Rattle.causality.specs.declared.docket.DocketState.TheVariants.{Clear}
use Rattle.causality.specs.History.{LedTo, Seen, seen_at}
use Rattle.letters.specs.Lists.{◌∈◌}
use Rattle.letters.specs.Logs.{NoDuplicates}
use Rattle.causality.specs.LetterLists.{HasLetter}
use Rattle.sheets.specs.Sheets.{Kind, draw_up_outcome}
use Rattle.seats.specs.Outcomes.{is_stray}
use Rattle.seats.specs.Rooms.{hold_of, log_of, seat_at}
use Rattle.seats.specs.Seats.{clock_at}
use Rattle.lives.specs.Drawing.{sheet_outcome}
use Rattle.lives.specs.Traces.{Trace, events, posting_of, postings}
use Rattle.lives.specs.Reachability.{Configuration, Execution, Reachable}

module _ {B : Type 0} where
  -- a seat's log, and its hold
  abbrev pub log_at : Configuration B → ℕ → List (Letter B)
  log_at w s = log_of w.room w.logs s

  abbrev pub hold_at : Configuration B → ℕ → List (Letter B)
  hold_at w s = hold_of w.room w.holds s

  -- The log of seat s holds the letters that were posted or shown there, in that order, none twice, and above each letter
  -- everything that led to it (happened before it), and everything that it covers but itself.
  pub record RoomInOrder (trace : Trace B) (s : ℕ) (log : List (Letter B)) : Type 0 where
    pub seen : (i : Name) → HasLetter i log ↔ Seen s i (events trace)
    pub in_turn : map letter_name log ≡ seen_at s (events trace)
    pub once : NoDuplicates log
    pub led : (a b : List (Letter B)) (m : Letter B) (i : Name) → log ≡ a ++ (m ∷ b) → LedTo (events trace) i (letter_name m) → HasLetter i a
    pub covered : (a b : List (Letter B)) (m : Letter B) (p n : ℕ) → log ≡ a ++ (m ∷ b) → 1 ≤ n → Covers m p n
        → ¬ (letter_name m ≡ name_from p n) → HasLetter (name_from p n) a

  -- the letter was posted with its body, and stands in its poster's log as it is here, stamp and all
  pub record RoomGenuine (trace : Trace B) (w : Configuration B) (m : Letter B) : Type 0 where
    pub seat : m.poster < w.room.count
    pub made : posting_of (letter_name m) m.body ∈ postings trace
    pub stands : m ∈ log_at w m.poster

  -- no docket is out or parked, nothing waits for seat s, and nothing held there is ready
  pub record RoomQuiescent (w : Configuration B) (s : ℕ) : Type 0 where
    pub dockets : (t : ℕ) → t < w.room.count → (seat_at w.room t).docket ≡ Clear
    pub waits : w.carrier.waiting s ≡ []
    pub held : (m : Letter B) → m ∈ hold_at w s → ¬ (Ready w.room.count w.room.quota s (clock_at (seat_at w.room s)) m)

  -- the letter of this name stands in the log with this body
  pub record Carries (i : Name) (body : B) (log : List (Letter B)) : Type 0 where
    pub letter : Letter B
    pub inside : letter ∈ log
    pub called : letter_name letter ≡ i
    pub with_body : letter.body ≡ body

  -- the log holds exactly the posted letters, and the hold is empty
  pub record RoomComplete (trace : Trace B) (w : Configuration B) (s : ℕ) : Type 0 where
    pub log : (i : Name) (body : B) → Carries i body (log_at w s) ↔ (posting_of i body ∈ postings trace)
    pub hold : hold_at w s ≡ []
    pub held : (seat_at w.room s).held ≡ 0

  -- the same letters stand in both lists
  pub record SameLetters (l l' : List (Letter B)) : Type 0 where
    pub into : (m : Letter B) → m ∈ l → HasLetter (letter_name m) l'
    pub back : (m : Letter B) → m ∈ l' → HasLetter (letter_name m) l

module _ {M B : Type 0} (kind : Kind M B) where
  -- where the two lists hold the same letters, and drawing up both is accepted, the two sheets have the same meaning
  abbrev pub SheetsAgree : List (Letter B) → List (Letter B) → Type 0
  SheetsAgree l l' = SameLetters l l' → (m m' : M) → draw_up_outcome kind l ≡ Ok m → draw_up_outcome kind l' ≡ Ok m' → m ≡ m'

  -- where the logs of the two seats hold the same letters, and the room draws up both, the two sheets have the same meaning
  abbrev pub SeatsAgree : Configuration B → ℕ → ℕ → Type 0
  SeatsAgree w s t =
      SameLetters (log_at w s) (log_at w t)
      → (m m' : M) → sheet_outcome kind w.room w.logs (length w.holds) s ≡ Ok m → sheet_outcome kind w.room w.logs (length w.holds) t ≡ Ok m' → m ≡ m'

  -- What holds of a room that is reachable by the steps of the trace.
  pub record Guarantees (trace : Trace B) (w : Configuration B) : Type 0 where
    -- causal order
    pub in_order : (s : ℕ) → s < w.room.count → RoomInOrder trace s (log_at w s)
    pub genuine : (s : ℕ) → s < w.room.count → (m : Letter B) → m ∈ log_at w s → RoomGenuine trace w m
    -- no name was posted with two bodies, and letters of one name are equal in every part, whatever logs they stand in
    pub named : (i : Name) (body other : B) → posting_of i body ∈ postings trace → posting_of i other ∈ postings trace → body ≡ other
    pub alike : (s t : ℕ) → s < w.room.count → t < w.room.count → (m k : Letter B) → m ∈ log_at w s → k ∈ log_at w t
        → letter_name m ≡ letter_name k → m ≡ k
    -- complete delivery
    pub complete : (s : ℕ) → s < w.room.count → RoomQuiescent w s → RoomComplete trace w s
    -- so two quiescent seats hold the same letters
    pub quiescent : (s t : ℕ) → s < w.room.count → t < w.room.count → RoomQuiescent w s → RoomQuiescent w t → SameLetters (log_at w s) (log_at w t)
    -- convergence, of what the room draws up, of whole logs, and of any beginnings of them
    pub drawn : (s t : ℕ) → s < w.room.count → t < w.room.count → SeatsAgree w s t
    pub sheets : (s t : ℕ) → s < w.room.count → t < w.room.count → SheetsAgree (log_at w s) (log_at w t)
    pub beginnings : (s t : ℕ) → s < w.room.count → t < w.room.count → (i j : ℕ) → SheetsAgree (take i (log_at w s)) (take j (log_at w t))
    -- stamps decide happens-before: of two letters in logs, one led to the other exactly when the other covers it and is not the same
    pub stamps : (s t : ℕ) → s < w.room.count → t < w.room.count → (m k : Letter B) → m ∈ log_at w s → k ∈ log_at w t
        → LedTo (events trace) (letter_name m) (letter_name k) ↔ (CoversLetter k m × ¬ (SameLetter m k))
    -- what waits for a seat, or is held there, is the very letter that was posted; and what waits would not be stray
    pub held : (s : ℕ) → s < w.room.count → (m : Letter B) → m ∈ hold_at w s → RoomGenuine trace w m
    pub waiting : (s : ℕ) → s < w.room.count → (m : Letter B) → m ∈ w.carrier.waiting s → RoomGenuine trace w m
    pub never_stray : (s : ℕ) → s < w.room.count → (m : Letter B) → m ∈ w.carrier.waiting s → is_stray w.room s m ≡ false
    -- no log outgrows its places
    pub short : (s : ℕ) → s < w.room.count → length (log_at w s) ≤ w.room.count * w.room.quota

  -- at all times of every room's life
  abbrev pub AlwaysGuaranteed : Type 0
  AlwaysGuaranteed = (trace : Trace B) (w : Configuration B) → Reachable trace w → Guarantees trace w

  -- a configuration in a life between its first and its last: the earlier steps led to it, the later ones led on from it, and the
  -- guarantees held there
  pub record GuaranteedAt (first : Configuration B) (earlier later : Trace B) (last : Configuration B) : Type 0 where
    pub here : Configuration B
    pub led : Execution first earlier here
    pub on : Execution here later last
    pub guarantees : Guarantees earlier here

  -- after each beginning of the trace, which has the newest step first
  abbrev pub GuaranteedThroughout : Configuration B → Trace B → Configuration B → Type 0
  GuaranteedThroughout first trace last = (later earlier : Trace B) → trace ≡ later ++ earlier → GuaranteedAt first earlier later last
