-- What one step does to the clocks and to the rest of a box.
use Rattle.std.proofs.Common.{◌≡◌, ℕ, ◌≤◌, ◌⊎◌, [], ◌∷◌, ◌++◌, sym, refl, ap, subst, inl, inr, arith}
use Rattle.letters.specs.declared.letter.Letter.{Letter}
use Rattle.letters.specs.Lists.{◌∈◌}
use Rattle.causality.specs.History.{History, Seen}
use Rattle.causality.specs.Worlds.{Box, World, Elsewhere}
use Rattle.causality.specs.WorldSteps.{WorldPost, WorldShow}
use Rattle.causality.proofs.Lists.{by_seat, in_as, in_eq, in_last_cases, in_left, in_middle}

module _ {B : Type 0} where
  -- a part f of a box that a step at seat s leaves as it was there
  pub same_part : {X : Type 0} (f : Box B → X) (s : ℕ) (w w' : World B) → Elsewhere s w w' → f (w'.box s) ≡ f (w.box s)
      → (t : ℕ) → f (w'.box t) ≡ f (w.box t)
  same_part f s w w' elsewhere here = by_seat s (λ t. f (w'.box t) ≡ f (w.box t)) here (λ t ne. ap f (elsewhere t ne))

-- a step at seat s that adds m at the foot of its log, as a post or a show does
module _ {B : Type 0} (s : ℕ) (m : Letter B) (w w' : World B) (h : History (Letter B)) (elsewhere : Elsewhere s w w')
    (longer : (w'.box s).log ≡ (w.box s).log ++ (m ∷ [])) where
  -- then the logs have what was seen, if they had it before
  pub seen_more : ((t : ℕ) (k : Letter B) → Seen t k h → k ∈ (w.box t).log)
      → (t : ℕ) (k : Letter B) → ((t ≡ s) × (k ≡ m)) ⊎ Seen t k h → k ∈ (w'.box t).log
  seen_more had t k (inl e) =
      subst (λ (u : ℕ). k ∈ (w'.box u).log) (sym e.0) (in_eq (sym longer) (in_as e.1 (in_middle m (w.box s).log [])))
  seen_more had t k (inr i) = by_seat s (λ t. k ∈ (w.box t).log → k ∈ (w'.box t).log)
      (λ j. in_eq (sym longer) (in_left (m ∷ []) j))
      (λ t ne j. in_eq (ap (λ (b : Box B). b.log) (sym (elsewhere t ne))) j) t (had t k i)

  -- and nothing else
  pub logged_more : ((t : ℕ) (k : Letter B) → k ∈ (w.box t).log → Seen t k h)
      → (t : ℕ) (k : Letter B) → k ∈ (w'.box t).log → ((t ≡ s) × (k ≡ m)) ⊎ Seen t k h
  logged_more had t k = by_seat s (λ t. k ∈ (w'.box t).log → ((t ≡ s) × (k ≡ m)) ⊎ Seen t k h)
      (λ i. foot (in_last_cases m (w.box s).log (in_eq longer i)))
      (λ t ne i. inr (had t k (in_eq (ap (λ (b : Box B). b.log) (elsewhere t ne)) i))) t
    where
      foot : (k ∈ (w.box s).log) ⊎ (k ≡ m) → ((s ≡ s) × (k ≡ m)) ⊎ Seen s k h
      foot (inl i) = inr (had s k i)
      foot (inr e) = inl (refl, e)

module _ {B : Type 0} (N Q : ℕ) (m : Letter B) (w w' : World B) (step : WorldPost N Q m.poster m w w') where
  -- the other seats' clocks
  pub post_else : (t p : ℕ) → ¬ (t ≡ m.poster) → (w'.box t).clock p ≡ (w.box t).clock p
  post_else t p ne = ap (λ (b : Box B). b.clock p) (step.elsewhere t ne)

  pub post_grows : (t p : ℕ) → (w.box t).clock p ≤ (w'.box t).clock p
  post_grows = by_seat m.poster (λ t. (p : ℕ) → (w.box t).clock p ≤ (w'.box t).clock p)
      (by_seat m.poster (λ p. (w.box m.poster).clock p ≤ (w'.box m.poster).clock p)
      (let a = step.clock m.poster in let b = step.own in omega arith)
      (λ p ne. let a = step.clock p in let b = step.rest p ne in omega arith))
      (λ t ne p. let e = post_else t p ne in omega arith)

module _ {B : Type 0} (N Q s : ℕ) (m : Letter B) (w w' : World B) (step : WorldShow N Q s m w w') where
  pub show_else : (t p : ℕ) → ¬ (t ≡ s) → (w'.box t).clock p ≡ (w.box t).clock p
  show_else t p ne = ap (λ (b : Box B). b.clock p) (step.elsewhere t ne)

  pub show_grows : (t p : ℕ) → (w.box t).clock p ≤ (w'.box t).clock p
  show_grows = by_seat s (λ t. (p : ℕ) → (w.box t).clock p ≤ (w'.box t).clock p)
      (by_seat m.poster (λ p. (w.box s).clock p ≤ (w'.box s).clock p)
      (let a = step.own in let b = step.ready.next in omega arith) (λ p ne. let a = step.rest p ne in omega arith))
      (λ t ne p. let e = show_else t p ne in omega arith)

  -- no seat's own entry changes
  pub show_own : (t : ℕ) → (w'.box t).clock t ≡ (w.box t).clock t
  show_own = by_seat s (λ t. (w'.box t).clock t ≡ (w.box t).clock t)
      (step.rest s (λ e. step.ready.other (sym e))) (λ t ne. show_else t t ne)
