-- What every kind of sheet does.
use Rattle.std.specs.Prelude.{◌≡◌, ℕ, ◌+◌, ◌≤◌, not, List, length, take, Ok, Err, fold, Result, ◌==◌, nat_le}
use Rattle.letters.specs.declared.letter.Letter.{Letter}
use Rattle.letters.specs.Order.{SideBySide}
use Rattle.letters.specs.Refusals.{Reason, unless}
use Rattle.letters.specs.Lists.{SameElements}
use Rattle.letters.specs.Logs.{CausallyOrdered, NoDuplicates}

-- the answer of an outcome: accepted, or the reason of the refusal
abbrev pub acceptance : {M : Type 0} → Result M Reason → Result (Unit {0}) Reason
acceptance (Ok after) = Ok tt
acceptance (Err why) = Err why

-- what a sheet means after an outcome: a refusal leaves it as it was
abbrev pub meaning_left : {M : Type 0} → Result M Reason → M → M
meaning_left (Ok after) before = after
meaning_left (Err why) before = before

-- a kind of sheet: M is what its sheets can mean, and B the type of its letters' bodies
pub record Kind (M B : Type 0) : Type 0 where
  -- how many letters can be entered
  pub places : ℕ
  -- how many are entered
  pub count : M → ℕ
  -- what a sheet means when nothing is entered
  pub empty : M
  -- what it means with one letter more
  pub entered : M → Letter B → M

module _ {M B : Type 0} (kind : Kind M B) where
  -- entering a letter: refused with 18 where as many letters are entered as there are places
  abbrev pub enter_outcome : M → Letter B → Result M Reason
  enter_outcome m x = unless (not (kind.count m == kind.places)) 18 (Ok (kind.entered m x))

  -- what results from the letters of a log, entered from the top on an empty sheet
  abbrev pub drawn_up : List (Letter B) → M
  drawn_up log = fold kind.entered kind.empty log

  -- drawing up a log: refused with 17 where it has more letters than there are places
  abbrev pub draw_up_outcome : List (Letter B) → Result M Reason
  draw_up_outcome log = unless (nat_le (length log) kind.places) 17 (Ok (drawn_up log))

  -- the first i letters of the log are entered, and no other
  pub record DrawnTo (log : List (Letter B)) (i : ℕ) (m : M) : Type 0 where
    pub drawn : m ≡ drawn_up (take i log)
    pub counted : kind.count m ≡ i

  -- what every kind of sheet keeps
  pub record LawfulKind : Type 0 where
    -- nothing is entered on an empty sheet
    pub starts : kind.count kind.empty ≡ 0
    -- where not exactly as many letters are entered as there are places, entering adds one to the count
    pub adds : (m : M) (x : Letter B) → ¬ (kind.count m ≡ kind.places) → kind.count (kind.entered m x) ≡ kind.count m + 1
    -- with two places free, letters that are side by side may be entered in either order
    pub commutes : (m : M) (x y : Letter B) → kind.count m + 2 ≤ kind.places → SideBySide x y
        → kind.entered (kind.entered m x) y ≡ kind.entered (kind.entered m y) x

  -- convergence: two logs that hold the same letters, each of them once and in a causal order, give the same meaning,
  -- where their length is within the places
  abbrev pub Converges : Type 0
  Converges =
      (log other : List (Letter B)) → length log ≤ kind.places
      → NoDuplicates log → NoDuplicates other → CausallyOrdered log → CausallyOrdered other → SameElements log other
      → drawn_up log ≡ drawn_up other
