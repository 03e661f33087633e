-- What each step does to a room of N seats with the quota Q: w is the room before, and w' the room after.
-- What a put leaves open, copies and places, any carrier may choose.
use Rattle.std.specs.Prelude.{◌≡◌, ℕ, ◌+◌, ◌*◌, ◌<◌, ◌≤◌, List, [], ◌∷◌, ◌++◌, length}
use Rattle.letters.specs.declared.letter.Letter.{Letter}
use Rattle.letters.specs.Letters.{entry_at, number_of}
use Rattle.letters.specs.Order.{Ready, SameLetter}
use Rattle.carriers.specs.Putting.{Put}
use Rattle.causality.specs.declared.docket.DocketState.{DocketState}
use Rattle.causality.specs.declared.docket.DocketState.TheVariants.{Clear, Out, Parked}
use Rattle.letters.specs.Lists.{◌∈◌}
use Rattle.causality.specs.History.{Event, posted, shown}
use Rattle.causality.specs.Worlds.{Box, World, Elsewhere, SameWaiting}

module _ {B : Type 0} where
  -- a refused step leaves everything as it was
  pub record WorldRefusal (w w' : World B) : Type 0 where
    pub box : (t : ℕ) → w'.box t ≡ w.box t
    pub waiting : SameWaiting w w'

  -- seat s's docket goes from one state to another, and no box changes otherwise
  pub record MovesDocket (was is : DocketState) (s : ℕ) (w w' : World B) : Type 0 where
    pub before : (w.box s).docket ≡ was
    pub clock : (w'.box s).clock ≡ (w.box s).clock
    pub log : (w'.box s).log ≡ (w.box s).log
    pub hold : (w'.box s).hold ≡ (w.box s).hold
    pub docket : (w'.box s).docket ≡ is
    pub elsewhere : Elsewhere s w w'

  -- m is the letter of seat s's docket: the newest that the seat posted
  pub record OfDocket (s : ℕ) (w : World B) (m : Letter B) : Type 0 where
    pub poster : m.poster ≡ s
    pub number : number_of m ≡ (w.box s).clock s

  -- a letter that a box has: shown or posted there, or held
  pub data Repeat (b : Box B) (m : Letter B) : Type 0 where
    covered : number_of m ≤ b.clock m.poster → Repeat b m
    among_held : (k : Letter B) → k ∈ b.hold → SameLetter m k → Repeat b m

module _ {B : Type 0} (N Q : ℕ) where
  -- seat s posts m, stamped with its clock raised by one at its own entry
  pub record WorldPost (s : ℕ) (m : Letter B) (w w' : World B) : Type 0 where
    pub seat : s < N
    pub quota : (w.box s).clock s < Q
    pub before : (w.box s).docket ≡ Clear
    pub poster : m.poster ≡ s
    pub own : entry_at m.stamp s ≡ (w.box s).clock s + 1
    pub rest : (p : ℕ) → ¬ (p ≡ s) → entry_at m.stamp p ≡ (w.box s).clock p
    pub clock : (p : ℕ) → (w'.box s).clock p ≡ entry_at m.stamp p
    pub log : (w'.box s).log ≡ (w.box s).log ++ (m ∷ [])
    pub hold : (w'.box s).hold ≡ (w.box s).hold
    pub docket : (w'.box s).docket ≡ Out
    pub elsewhere : Elsewhere s w w'
    pub waiting : SameWaiting w w'

  -- seat s puts the letter of its docket, the first such in its log, on the carrier
  pub record WorldSend (s : ℕ) (m : Letter B) (w w' : World B) : Type 0 where
    pub seat : s < N
    pub above : List (Letter B)
    pub below : List (Letter B)
    pub found : (w.box s).log ≡ above ++ (m ∷ below)
    pub is : OfDocket s w m
    pub first : (k : Letter B) → k ∈ above → ¬ (OfDocket s w k)
    pub moves : MovesDocket Out Clear s w w'
    pub put : Put N s m w.waiting w'.waiting

  -- seat s leaves its docket for later
  pub record WorldPark (s : ℕ) (w w' : World B) : Type 0 where
    pub seat : s < N
    pub moves : MovesDocket Out Parked s w w'
    pub waiting : SameWaiting w w'

  -- seat s takes its parked docket up again
  pub record WorldCollect (s : ℕ) (w w' : World B) : Type 0 where
    pub seat : s < N
    pub moves : MovesDocket Parked Out s w w'
    pub waiting : SameWaiting w w'

  -- a letter that seat s cannot hold: its poster is no other seat, its number is past the quota, or the hold is full
  pub data Stray (s : ℕ) (b : Box B) (m : Letter B) : Type 0 where
    no_seat : N ≤ m.poster → Stray s b m
    own : m.poster ≡ s → Stray s b m
    past_quota : Q < number_of m → Stray s b m
    no_place : N * Q ≤ length b.hold → Stray s b m

  -- what a take makes of the letter m: strays and repeats are thrown away, others go to the end of the hold
  pub data Outcome (s : ℕ) (m : Letter B) (b b' : Box B) : Type 0 where
    stray : Stray s b m → b'.hold ≡ b.hold → Outcome s m b b'
    repeat : ¬ (Stray s b m) → Repeat b m → b'.hold ≡ b.hold → Outcome s m b b'
    held : ¬ (Stray s b m) → ¬ (Repeat b m) → b'.hold ≡ b.hold ++ (m ∷ []) → Outcome s m b b'

  -- seat s draws the letter m at a place of its waiting list
  pub record WorldTake (s place : ℕ) (m : Letter B) (w w' : World B) : Type 0 where
    pub seat : s < N
    pub before : List (Letter B)
    pub after : List (Letter B)
    pub at : length before ≡ place
    pub drawn : w.waiting s ≡ before ++ (m ∷ after)
    pub left : w'.waiting s ≡ before ++ after
    pub others : (t : ℕ) → ¬ (t ≡ s) → w'.waiting t ≡ w.waiting t
    pub clock : (w'.box s).clock ≡ (w.box s).clock
    pub log : (w'.box s).log ≡ (w.box s).log
    pub docket : (w'.box s).docket ≡ (w.box s).docket
    pub outcome : Outcome s m (w.box s) (w'.box s)
    pub elsewhere : Elsewhere s w w'

  -- seat s moves m, the first held letter that is ready, to the foot of its log (causal delivery)
  pub record WorldShow (s : ℕ) (m : Letter B) (w w' : World B) : Type 0 where
    pub seat : s < N
    pub before : List (Letter B)
    pub after : List (Letter B)
    pub found : (w.box s).hold ≡ before ++ (m ∷ after)
    pub ready : Ready N Q s (w.box s).clock m
    pub first : (k : Letter B) → k ∈ before → ¬ (Ready N Q s (w.box s).clock k)
    pub own : (w'.box s).clock m.poster ≡ number_of m
    pub rest : (p : ℕ) → ¬ (p ≡ m.poster) → (w'.box s).clock p ≡ (w.box s).clock p
    pub log : (w'.box s).log ≡ (w.box s).log ++ (m ∷ [])
    pub hold : (w'.box s).hold ≡ before ++ after
    pub docket : (w'.box s).docket ≡ (w.box s).docket
    pub elsewhere : Elsewhere s w w'
    pub waiting : SameWaiting w w'

  -- one step, with the events that it makes, the newest first
  pub data WorldStep (w w' : World B) : List (Event (Letter B)) → Type 0 where
    refuses : WorldRefusal w w' → WorldStep w w' []
    posts : {s : ℕ} {m : Letter B} → WorldPost s m w w' → WorldStep w w' (posted s m ∷ [])
    sends : {s : ℕ} {m : Letter B} → WorldSend s m w w' → WorldStep w w' []
    parks : {s : ℕ} → WorldPark s w w' → WorldStep w w' []
    collects : {s : ℕ} → WorldCollect s w w' → WorldStep w w' []
    takes : {s place : ℕ} {m : Letter B} → WorldTake s place m w w' → WorldStep w w' []
    shows : {s : ℕ} {m : Letter B} → WorldShow s m w w' → WorldStep w w' (shown s m ∷ [])
