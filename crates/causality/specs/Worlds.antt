-- A room over a carrier at one moment: its boxes, and what waits for them.
use Rattle.std.specs.Prelude.{◌≡◌, ℕ, List, []}
use Rattle.letters.specs.declared.letter.Letter.{Letter}
use Rattle.causality.specs.declared.docket.DocketState.{DocketState}
use Rattle.causality.specs.declared.docket.DocketState.TheVariants.{Clear}

-- a seat's box: its clock (for each seat the number of that seat's letters in the log), its log (the letters delivered
-- there), its hold (the letters that arrived and are not yet shown) and where its docket is
pub record Box (B : Type 0) : Type 0 where
  pub clock : ℕ → ℕ
  pub log : List (Letter B)
  pub hold : List (Letter B)
  pub docket : DocketState

-- a box for each seat, and for each seat the letters that wait for it on the carrier
pub record World (B : Type 0) : Type 0 where
  pub box : ℕ → Box B
  pub waiting : ℕ → List (Letter B)

module _ {B : Type 0} where
  -- a room as it opens: nothing has happened, and nothing waits
  pub record InitialWorld (w : World B) : Type 0 where
    pub clock : (s p : ℕ) → (w.box s).clock p ≡ 0
    pub log : (s : ℕ) → (w.box s).log ≡ []
    pub hold : (s : ℕ) → (w.box s).hold ≡ []
    pub docket : (s : ℕ) → (w.box s).docket ≡ Clear
    pub waiting : (s : ℕ) → w.waiting s ≡ []

  -- the boxes of the other seats stay as they were
  abbrev pub Elsewhere : ℕ → World B → World B → Type 0
  Elsewhere s w w' = (t : ℕ) → ¬ (t ≡ s) → w'.box t ≡ w.box t

  -- the carrier stays as it was
  abbrev pub SameWaiting : World B → World B → Type 0
  SameWaiting w w' = (t : ℕ) → w'.waiting t ≡ w.waiting t
