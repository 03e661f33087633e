-- What holds of a room's books, holds and waiting letters at all times, by induction over its steps.
use Rattle.std.proofs.Common.{ℕ, List, [], ◌∷◌, ◌++◌, sym, ap, subst}
use Rattle.letters.specs.declared.letter.Letter.{Letter}
use Rattle.causality.specs.declared.docket.DocketState.{DocketState}
use Rattle.causality.specs.declared.docket.DocketState.TheVariants.{Clear, Out, Parked}
use Rattle.letters.specs.Lists.{there}
use Rattle.causality.specs.History.{Event, History, posted, shown, posted_letters}
use Rattle.causality.specs.Worlds.{Box, World, InitialWorld, SameWaiting}
use Rattle.causality.specs.WorldSteps.{WorldRefusal, WorldPost, WorldSend, MovesDocket, WorldTake, WorldShow, WorldStep, refuses, posts, sends, parks, collects, takes, shows}
use Rattle.causality.specs.Runs.{Run, opened, more}
use Rattle.causality.proofs.Lists.{in_eq, in_middle}
use Rattle.causality.proofs.Steps.{same_part}
use Rattle.causality.proofs.Logs.{HoldOk}
use Rattle.causality.proofs.Books.{Books, clocks, logs_of, books_opened, books_same, books_post, books_show}
use Rattle.causality.proofs.Holds.{Holds, Waits, holds_opened, hold_same, holds_post, holds-take, holds_show, waits_opened, waits_same, waits_send, waits_take}

module _ {B : Type 0} (N Q : ℕ) where
  -- the invariant
  pub record Always (w : World B) (h : History (Letter B)) : Type 0 where
    pub books : Books N Q (clocks w) (logs_of w) h
    pub holds : Holds (posted_letters h) w
    pub waiting : Waits N (posted_letters h) w

  same_waits : (w w' : World B) (ls : List (Letter B)) → SameWaiting w w' → Waits N ls w → Waits N ls w'
  same_waits w w' ls same = waits_same N w w' ls ls (λ m i. i) (λ t m i. in_eq (same t) i)

  at_opening : (w : World B) → InitialWorld w → Always w []
  at_opening w step = record {
    books = books_opened N Q w step;
    holds = holds_opened w step;
    waiting = waits_opened N w step;
  }

  after_refusal : (w w' : World B) (h : History (Letter B)) → WorldRefusal w w' → Always w h → Always w' h
  after_refusal w w' h step ok = record {
    books = books_same N Q w w' h (λ t. ap (λ (b : Box B). b.clock) (step.box t)) (λ t. ap (λ (b : Box B). b.log) (step.box t)) ok.books;
    holds = λ t. subst (λ (b : Box B). HoldOk (posted_letters h) b.clock b.hold) (sym (step.box t)) (ok.holds t);
    waiting = same_waits w w' (posted_letters h) step.waiting ok.waiting;
  }

  after_post : (m : Letter B) (w w' : World B) (h : History (Letter B)) → WorldPost N Q m.poster m w w' → Always w h → Always w' (posted m.poster m ∷ h)
  after_post m w w' h step ok = record {
    books = books_post N Q m w w' h step ok.books;
    holds = holds_post N Q m w w' h step ok.books ok.holds;
    waiting = waits_same N w w' (posted_letters h) (m ∷ posted_letters h) (λ k i. there i) (λ t k i. in_eq (step.waiting t) i) ok.waiting;
  }

  moved_books : (was is : DocketState) (s : ℕ) (w w' : World B) (h : History (Letter B)) → MovesDocket was is s w w'
      → Books N Q (clocks w) (logs_of w) h → Books N Q (clocks w') (logs_of w') h
  moved_books was is s w w' h step ok = books_same N Q w w' h (same_part (λ (b : Box B). b.clock) s w w' step.elsewhere step.clock)
      (same_part (λ (b : Box B). b.log) s w w' step.elsewhere step.log) ok

  moved_holds : (was is : DocketState) (s : ℕ) (w w' : World B) (ls : List (Letter B)) → MovesDocket was is s w w' → Holds ls w → Holds ls w'
  moved_holds was is s w w' ls step ok t =
      hold_same ls (w.box t) (w'.box t) (same_part (λ (b : Box B). b.clock) s w w' step.elsewhere step.clock t)
      (same_part (λ (b : Box B). b.hold) s w w' step.elsewhere step.hold t) (ok t)

  after_send : (s : ℕ) (m : Letter B) (w w' : World B) (h : History (Letter B)) → WorldSend N Q s m w w' → Always w h → Always w' h
  after_send s m w w' h step ok = record {
    books = moved_books Out Clear s w w' h step.moves ok.books;
    holds = moved_holds Out Clear s w w' (posted_letters h) step.moves ok.holds;
    waiting = waits_send N Q s m w w' h step ok.books ok.waiting;
  }

  -- a park or a collect
  after_move : (was is : DocketState) (s : ℕ) (w w' : World B) (h : History (Letter B)) → MovesDocket was is s w w'
      → SameWaiting w w' → Always w h → Always w' h
  after_move was is s w w' h step same ok = record {
    books = moved_books was is s w w' h step ok.books;
    holds = moved_holds was is s w w' (posted_letters h) step ok.holds;
    waiting = same_waits w w' (posted_letters h) same ok.waiting;
  }

  after-take : (s place : ℕ) (m : Letter B) (w w' : World B) (h : History (Letter B)) → WorldTake N Q s place m w w' → Always w h → Always w' h
  after-take s place m w w' h step ok = record {
    books = books_same N Q w w' h
        (same_part (λ (b : Box B). b.clock) s w w' step.elsewhere step.clock)
        (same_part (λ (b : Box B). b.log) s w w' step.elsewhere step.log) ok.books;
    holds = holds-take N Q s place m w w' (posted_letters h) step ok.waiting ok.holds;
    waiting = waits_take N Q s place m w w' (posted_letters h) step ok.waiting;
  }

  after_show : (s : ℕ) (m : Letter B) (w w' : World B) (h : History (Letter B)) → WorldShow N Q s m w w' → Always w h → Always w' (shown s m ∷ h)
  after_show s m w w' h step ok = record {
    books = books_show N Q s m w w' h step
        ((ok.holds s).known m (in_eq (sym step.found) (in_middle m step.before step.after))) ok.books;
    holds = holds_show N Q s m w w' (posted_letters h) step ok.holds;
    waiting = same_waits w w' (posted_letters h) step.waiting ok.waiting;
  }

  after_step : (w w' : World B) (h : History (Letter B)) (new : List (Event (Letter B))) → WorldStep N Q w w' new → Always w h → Always w' (new ++ h)
  after_step w w' h new (refuses step) ok = after_refusal w w' h step ok
  after_step w w' h new (posts {s = s} {m = m} step) ok =
      subst (λ (t : ℕ). Always w' (posted t m ∷ h)) step.poster
      (after_post m w w' h (subst (λ (t : ℕ). WorldPost N Q t m w w') (sym step.poster) step) ok)
  after_step w w' h new (sends {s = s} {m = m} step) ok = after_send s m w w' h step ok
  after_step w w' h new (parks {s = s} step) ok = after_move Out Parked s w w' h step.moves step.waiting ok
  after_step w w' h new (collects {s = s} step) ok = after_move Parked Out s w w' h step.moves step.waiting ok
  after_step w w' h new (takes {s = s} {place = place} {m = m} step) ok = after-take s place m w w' h step ok
  after_step w w' h new (shows {s = s} {m = m} step) ok = after_show s m w w' h step ok

  pub always : (w : World B) (h : History (Letter B)) → Run N Q w h → Always w h
  always w h (opened o) = at_opening w o
  always w h (more {w = v} {h = past} {new = new} run step) = after_step v w past new step (always v past run)
