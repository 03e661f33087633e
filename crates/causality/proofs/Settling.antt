-- A quiescent seat has shown everything: by induction over the history, since what a letter covers was posted before it.
use Rattle.std.proofs.Common.{◌≡◌, ℕ, ◌+◌, ◌<◌, ◌≤◌, ◌⊎◌, [], ◌∷◌, sym, refl, ap, subst, inl, inr, arith}
use native.Mathlib.Decide.{ℕ_discrete, dec_le}
use Rattle.letters.specs.declared.letter.Letter.{Letter}
use Rattle.letters.specs.Letters.{entry_at, number_of}
use Rattle.letters.specs.Names.{Name, name_from}
use Rattle.letters.specs.Order.{Ready}
use Rattle.letters.specs.Lists.{◌∈◌, here, there}
use Rattle.causality.specs.LetterLists.{HasLetter}
use Rattle.causality.specs.History.{History, posted, shown, posted_letters}
use Rattle.causality.specs.Worlds.{World}
use Rattle.causality.specs.Theorems.{WorldQuiescent, WorldComplete}
use Rattle.causality.proofs.Lists.{in_eq, in_none, in_cons, empty}
use Rattle.causality.proofs.Books.{GroundedIn, Grounded}
use Rattle.causality.proofs.Delivery.{Delivery, OnWay, unsent, waiting_there, in_hold, shown_there}
use Rattle.causality.proofs.Always.{Always}

module _ {B : Type 0} (N Q : ℕ) (w : World B) (h : History (Letter B)) (ok : Always N Q w h)
    (delivered : Delivery N (posted_letters h) w) (s : ℕ) (seat : s < N) (quiescent : WorldQuiescent N Q s w) where
  -- what is held is ready, once all that was posted before it is covered
  ready : (past : History (Letter B)) (m : Letter B) → m ∈ posted_letters h → m ∈ (w.box s).hold → ¬ (m.poster ≡ s) → GroundedIn (posted_letters past) m
      → ((k : Letter B) → k ∈ posted_letters past → number_of k ≤ (w.box s).clock k.poster) → Ready N Q s (w.box s).clock m
  ready past m i j ne ground below = record {
    below = (ok.books.ids.numbered m i).seat;
    other = ne;
    within = (ok.books.ids.numbered m i).high;
    next = next' (dec_le (number_of m) ((w.box s).clock m.poster + 1));
    known = λ p d. rest' p d (dec_le (entry_at m.stamp p) ((w.box s).clock p));
  }
    where
      reached : (p n : ℕ) → HasLetter (name_from p n) (posted_letters past) → n ≤ (w.box s).clock p
      reached p n r =
          let a = below r.letter r.inside in
          let b = ap (λ (x : Name). (w.box s).clock x.poster) r.called in
          let c = ap (λ (x : Name). x.number) r.called in
          omega arith

      next' : Dec (number_of m ≤ (w.box s).clock m.poster + 1) → number_of m ≡ (w.box s).clock m.poster + 1
      next' (yes l) = let a = (ok.holds s).new m j in omega arith
      next' (no l) =
          let a = reached m.poster ((w.box s).clock m.poster + 1)
          (ground m.poster ((w.box s).clock m.poster + 1) (omega arith) (omega arith) (λ e. let b = ap (λ (x : Name). x.number) e in omega arith)) in
          absurd (omega arith)

      rest' : (p : ℕ) → ¬ (p ≡ m.poster) → Dec (entry_at m.stamp p ≤ (w.box s).clock p) → entry_at m.stamp p ≤ (w.box s).clock p
      rest' p d (yes l) = l
      rest' p d (no l) = reached p (entry_at m.stamp p) (ground p (entry_at m.stamp p) (omega arith) (omega arith) (λ e. d (sym (ap (λ (x : Name). x.poster) e))))

  shown_here : (past : History (Letter B)) (m : Letter B) → m ∈ posted_letters h → GroundedIn (posted_letters past) m
      → ((k : Letter B) → k ∈ posted_letters past → number_of k ≤ (w.box s).clock k.poster) → number_of m ≤ (w.box s).clock m.poster
  shown_here past m i ground below = go (ℕ_discrete m.poster s)
    where
      arrived : ¬ (m.poster ≡ s) → OnWay w s m → number_of m ≤ (w.box s).clock m.poster
      arrived ne (unsent d n) = absurd (d (quiescent.dockets m.poster (ok.books.ids.numbered m i).seat))
      arrived ne (waiting_there j) = absurd (in_none (in_eq quiescent.waits j))
      arrived ne (in_hold j) = absurd (quiescent.held m j (ready past m i j ne ground below))
      arrived ne (shown_there l) = l

      go : Dec (m.poster ≡ s) → number_of m ≤ (w.box s).clock m.poster
      go (yes e) = subst (λ (t : ℕ). number_of m ≤ (w.box t).clock m.poster) e (ok.books.ids.high m i)
      go (no ne) = arrived ne (delivered m i s seat (λ e. ne (sym e)))

  all_shown : (past : History (Letter B)) → Grounded past → ((m : Letter B) → m ∈ posted_letters past → m ∈ posted_letters h)
      → (m : Letter B) → m ∈ posted_letters past → number_of m ≤ (w.box s).clock m.poster
  all_shown [] g part m i = absurd (in_none i)
  all_shown (posted t k ∷ past) g part m i = go (λ x j. all_shown past g.1 (λ y l. part y (there l)) x j) (in_cons i)
    where
      go : ((x : Letter B) → x ∈ posted_letters past → number_of x ≤ (w.box s).clock x.poster) → (m ≡ k) ⊎ (m ∈ posted_letters past) → number_of m ≤ (w.box s).clock m.poster
      go below (inl e) = subst (λ (x : Letter B). number_of x ≤ (w.box s).clock x.poster) (sym e) (shown_here past k (part k (here refl)) g.0 below)
      go below (inr j) = below m j
  all_shown (shown t k ∷ past) g part m i = all_shown past g part m i

  pub complete : WorldComplete h (w.box s)
  complete = record {
    log = λ m. (λ i. (ok.books.logs s).known m i, λ i. (ok.books.logs s).full m i (all m i));
    hold = empty (w.box s).hold (λ m i. let a = (ok.holds s).new m i in let b = all m ((ok.holds s).known m i) in omega arith);
  }
    where
      all : (m : Letter B) → m ∈ posted_letters h → number_of m ≤ (w.box s).clock m.poster
      all = all_shown h ok.books.grounded (λ m i. i)
