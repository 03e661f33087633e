-- What always holds of the holds and of the letters that wait on the carrier; and how each step keeps it.
use Rattle.std.proofs.Common.{◌≡◌, ℕ, ◌*◌, ◌<◌, ◌≤◌, ◌⊎◌, List, [], ◌∷◌, ◌++◌, length, sym, ap, ◌∙◌, subst, inl, inr, ⊎_elim, arith}
use native.Mathlib.Decide.{ℕ_discrete}
use Rattle.letters.specs.declared.letter.Letter.{Letter}
use Rattle.letters.specs.Letters.{number_of}
use Rattle.letters.specs.Order.{SameLetter}
use Rattle.letters.specs.Lists.{◌∈◌, there}
use Rattle.letters.specs.Logs.{NoDuplicates}
use Rattle.causality.specs.History.{History, posted_letters}
use Rattle.causality.specs.Worlds.{Box, World, InitialWorld}
use Rattle.causality.specs.WorldSteps.{WorldPost, WorldSend, WorldTake, WorldShow, Stray, no_seat, own, past_quota, no_place, Repeat, covered, among_held, Outcome, stray, repeat, held}
use Rattle.causality.proofs.Lists.{in_eq, in_as, by_seat, in_none, in_middle, in_kept, in_last_cases, apart_cut, apart_last}
use Rattle.causality.proofs.Counting.{fewer}
use Rattle.causality.proofs.Puts.{gains_only}
use Rattle.causality.proofs.Logs.{HoldOk, same_turned}
use Rattle.causality.proofs.Books.{Books, clocks, logs_of}

module _ {B : Type 0} where
  -- at every seat, what holds of the hold
  abbrev pub Holds : List (Letter B) → World B → Type 0
  Holds ls w = (s : ℕ) → HoldOk ls (w.box s).clock (w.box s).hold

  -- what waits for a seat of the room was posted, by another
  pub record Waits (N : ℕ) (ls : List (Letter B)) (w : World B) : Type 0 where
    pub known : (s : ℕ) (m : Letter B) → s < N → m ∈ w.waiting s → m ∈ ls
    pub other : (s : ℕ) (m : Letter B) → s < N → m ∈ w.waiting s → ¬ (m.poster ≡ s)

  pub holds_opened : (w : World B) → InitialWorld w → Holds [] w
  holds_opened w step s = subst (HoldOk [] (w.box s).clock) (sym (step.hold s))
      (record { known = λ m i. i; new = λ m i. absurd (in_none i); once = tt })

  pub waits_opened : (N : ℕ) (w : World B) → InitialWorld w → Waits N [] w
  waits_opened N w step = record { known = λ s m l i. in_eq (step.waiting s) i; other = λ s m l i. absurd (in_none (in_eq (step.waiting s) i)) }

  -- a step after which nothing waits that did not before
  pub waits_same : (N : ℕ) (w w' : World B) (ls ls' : List (Letter B)) → ((m : Letter B) → m ∈ ls → m ∈ ls')
      → ((s : ℕ) (m : Letter B) → m ∈ w'.waiting s → m ∈ w.waiting s) → Waits N ls w → Waits N ls' w'
  waits_same N w w' ls ls' more was ok = record { known = λ s m l i. more m (ok.known s m l (was s m i)); other = λ s m l i. ok.other s m l (was s m i) }

  hold_more : (ls : List (Letter B)) (c : ℕ → ℕ) (d : List (Letter B)) (m : Letter B) → HoldOk ls c d → HoldOk (m ∷ ls) c d
  hold_more ls c d m ok = record { known = λ k i. there (ok.known k i); new = ok.new; once = ok.once }

  -- steps that change neither this clock nor this hold
  pub hold_same : (ls : List (Letter B)) (b b' : Box B) → b'.clock ≡ b.clock → b'.hold ≡ b.hold
      → HoldOk ls b.clock b.hold → HoldOk ls b'.clock b'.hold
  hold_same ls b b' c d ok =
      subst (HoldOk ls b'.clock) (sym d) (subst (λ (x : ℕ → ℕ). HoldOk ls x b.hold) (sym c) ok)

module _ {B : Type 0} (N Q : ℕ) where
  -- The hold of a seat has no letter of that seat, so it is never full, and no posted letter is stray at another seat.
  module _ (w : World B) (h : History (Letter B)) (books : Books N Q (clocks w) (logs_of w) h) (ok : Holds (posted_letters h) w) (s : ℕ) (seat : s < N) where
    not_own : (m : Letter B) → m ∈ (w.box s).hold → ¬ (m.poster ≡ s)
    not_own m i e =
        let a = (ok s).new m i in
        let b = books.ids.high m ((ok s).known m i) in
        let c = ap (λ (p : ℕ). (w.box p).clock m.poster) e in
        omega arith

    has_place : 1 ≤ Q → length (w.box s).hold < N * Q
    has_place some = fewer N Q s seat some (w.box s).hold (λ m i. books.ids.numbered m ((ok s).known m i)) not_own (ok s).once

    pub never_stray : (m : Letter B) → m ∈ posted_letters h → ¬ (m.poster ≡ s) → ¬ (Stray N Q s (w.box s) m)
    never_stray m i other (no_seat far) = let a = (books.ids.numbered m i).seat in omega arith
    never_stray m i other (own mine) = other mine
    never_stray m i other (past_quota high) = let a = (books.ids.numbered m i).high in omega arith
    never_stray m i other (no_place full) =
        let a = (books.ids.numbered m i).low in
        let b = (books.ids.numbered m i).high in
        let c = has_place (omega arith) in
        omega arith

  pub holds_post : (m : Letter B) (w w' : World B) (h : History (Letter B)) → WorldPost N Q m.poster m w w'
      → Books N Q (clocks w) (logs_of w) h → Holds (posted_letters h) w → Holds (m ∷ posted_letters h) w'
  holds_post m w w' h step books ok = by_seat m.poster (λ s. HoldOk (m ∷ posted_letters h) (w'.box s).clock (w'.box s).hold)
      (subst (HoldOk (m ∷ posted_letters h) (w'.box m.poster).clock) (sym step.hold) (record {
        known = λ k i. there ((ok m.poster).known k i);
        new = λ k i. new' k i (ℕ_discrete k.poster m.poster);
        once = (ok m.poster).once;
      }))
      (λ s ne. subst (λ (b : Box B). HoldOk (m ∷ posted_letters h) b.clock b.hold) (sym (step.elsewhere s ne))
      (hold_more (posted_letters h) (w.box s).clock (w.box s).hold m (ok s)))
    where
      new' : (k : Letter B) → k ∈ (w.box m.poster).hold → Dec (k.poster ≡ m.poster) → (w'.box m.poster).clock k.poster < number_of k
      new' k i (yes e) =
          let a = (ok m.poster).new k i in
          let b = books.ids.high k ((ok m.poster).known k i) in
          let c = ap (λ (p : ℕ). (w.box p).clock k.poster) e in
          absurd (omega arith)
      new' k i (no ne) =
          let a = (ok m.poster).new k i in
          let b = step.clock k.poster in
          let c = step.rest k.poster ne in
          omega arith

  pub holds-take : (s place : ℕ) (m : Letter B) (w w' : World B) (ls : List (Letter B)) → WorldTake N Q s place m w w'
      → Waits N ls w → Holds ls w → Holds ls w'
  holds-take s place m w w' ls step waits ok = by_seat s (λ t. HoldOk ls (w'.box t).clock (w'.box t).hold)
      (go step.outcome)
      (λ t ne. subst (λ (b : Box B). HoldOk ls b.clock b.hold) (sym (step.elsewhere t ne)) (ok t))
    where
      listed : m ∈ ls
      listed = waits.known s m step.seat (in_eq (sym step.drawn) (in_middle m step.before step.after))

      longer : ¬ (Repeat (w.box s) m) → HoldOk ls (w.box s).clock ((w.box s).hold ++ (m ∷ []))
      longer fresh = record {
        known = λ k i. ⊎_elim (λ (j : k ∈ (w.box s).hold). (ok s).known k j) (λ (e : k ≡ m). in_as e listed) (in_last_cases m (w.box s).hold i);
        new = λ k i. ⊎_elim (λ (j : k ∈ (w.box s).hold). (ok s).new k j)
            (λ (e : k ≡ m). subst (λ (x : Letter B). (w.box s).clock x.poster < number_of x) (sym e)
            (let n : ¬ (number_of m ≤ (w.box s).clock m.poster) = λ l. fresh (covered l) in omega arith))
            (in_last_cases m (w.box s).hold i);
        once = apart_last SameLetter m (w.box s).hold (ok s).once (λ y i e. fresh (among_held y i (same_turned y m e)));
      }

      go : Outcome N Q s m (w.box s) (w'.box s) → HoldOk ls (w'.box s).clock (w'.box s).hold
      go (stray why same) = hold_same ls (w.box s) (w'.box s) step.clock same (ok s)
      go (repeat placed why same) = hold_same ls (w.box s) (w'.box s) step.clock same (ok s)
      go (held placed fresh is) = subst (HoldOk ls (w'.box s).clock) (sym is)
          (subst (λ (c : ℕ → ℕ). HoldOk ls c ((w.box s).hold ++ (m ∷ []))) (sym step.clock) (longer fresh))

  pub holds_show : (s : ℕ) (m : Letter B) (w w' : World B) (ls : List (Letter B)) → WorldShow N Q s m w w' → Holds ls w → Holds ls w'
  holds_show s m w w' ls step ok = by_seat s (λ t. HoldOk ls (w'.box t).clock (w'.box t).hold)
      (subst (HoldOk ls (w'.box s).clock) (sym step.hold) (record {
        known = λ k i. (ok s).known k (was k i);
        new = λ k i. new' k i (ℕ_discrete k.poster m.poster);
        once = cut.0;
      }))
      (λ t ne. subst (λ (b : Box B). HoldOk ls b.clock b.hold) (sym (step.elsewhere t ne)) (ok t))
    where
      was : (k : Letter B) → k ∈ (step.before ++ step.after) → k ∈ (w.box s).hold
      was k i = in_eq (sym step.found) (in_kept m step.before step.after i)

      cut : NoDuplicates (step.before ++ step.after) × ((k : Letter B) → k ∈ (step.before ++ step.after) → ¬ (SameLetter m k))
      cut = apart_cut SameLetter same_turned m step.before step.after (subst NoDuplicates step.found (ok s).once)

      new' : (k : Letter B) → k ∈ (step.before ++ step.after) → Dec (k.poster ≡ m.poster) → (w'.box s).clock k.poster < number_of k
      new' k i (yes e) =
          let a = (ok s).new k (was k i) in
          let b = ap (w.box s).clock e in
          let b' = ap (w'.box s).clock e in
          let c = step.own in
          let d = step.ready.next in
          let f : ¬ (number_of m ≡ number_of k) = λ q. cut.1 k i (record { poster = sym e; number = q }) in
          omega arith
      new' k i (no ne) = let a = (ok s).new k (was k i) in let b = step.rest k.poster ne in omega arith

  pub waits_send : (s : ℕ) (m : Letter B) (w w' : World B) (h : History (Letter B)) → WorldSend N Q s m w w'
      → Books N Q (clocks w) (logs_of w) h → Waits N (posted_letters h) w → Waits N (posted_letters h) w'
  waits_send s m w w' h step books ok = record {
    known = λ t k l i. ⊎_elim (λ (e : (k ≡ m) × (¬ (t ≡ s))). in_as e.0 listed) (λ (j : k ∈ w.waiting t). ok.known t k l j) (was t k l i);
    other = λ t k l i. ⊎_elim (λ (e : (k ≡ m) × (¬ (t ≡ s))). λ q. e.1 (sym q ∙ ap (λ (x : Letter B). x.poster) e.0 ∙ step.is.poster))
        (λ (j : k ∈ w.waiting t). ok.other t k l j) (was t k l i);
  }
    where
      listed : m ∈ posted_letters h
      listed = (books.logs s).known m (in_eq (sym step.found) (in_middle m step.above step.below))

      was : (t : ℕ) (k : Letter B) → t < N → k ∈ w'.waiting t → ((k ≡ m) × (¬ (t ≡ s))) ⊎ (k ∈ w.waiting t)
      was t k l i = go (ℕ_discrete t s)
        where
          go : Dec (t ≡ s) → ((k ≡ m) × (¬ (t ≡ s))) ⊎ (k ∈ w.waiting t)
          go (yes e) = inr (subst (λ (u : ℕ). k ∈ w.waiting u) (sym e) (in_eq step.put.own (subst (λ (u : ℕ). k ∈ w'.waiting u) e i)))
          go (no ne) = ⊎_elim {C = ((k ≡ m) × (¬ (t ≡ s))) ⊎ (k ∈ w.waiting t)} (λ (e : k ≡ m). inl (e, ne)) (λ (j : k ∈ w.waiting t). inr j)
              (gains_only m (w.waiting t) (w'.waiting t) (step.put.others t l ne) k i)

  pub waits_take : (s place : ℕ) (m : Letter B) (w w' : World B) (ls : List (Letter B)) → WorldTake N Q s place m w w' → Waits N ls w → Waits N ls w'
  waits_take s place m w w' ls step = waits_same N w w' ls ls (λ k i. i) (λ t k. by_seat s (λ t. k ∈ w'.waiting t → k ∈ w.waiting t)
      (λ i. in_eq (sym step.drawn) (in_kept m step.before step.after (in_eq step.left i)))
      (λ t ne i. in_eq (step.others t ne) i) t)
