-- What always holds of one log, one hold, and of the posted letters; and how it is kept.
use Rattle.std.proofs.Common.{◌≡◌, ℕ, ◌<◌, ◌≤◌, ◌⊎◌, List, [], ◌∷◌, ◌++◌, sym, ◌∙◌, subst, inl, inr, ⊎_elim, arith}
use Rattle.letters.specs.declared.letter.Letter.{Letter}
use Rattle.letters.specs.Letters.{entry_at, number_of}
use Rattle.letters.specs.Names.{name_from}
use Rattle.letters.specs.Order.{SameLetter, CoversLetter}
use Rattle.letters.specs.Lists.{◌∈◌, there}
use Rattle.letters.specs.Logs.{NoDuplicates}
use Rattle.causality.specs.LetterLists.{HasLetter}
use Rattle.causality.proofs.Lists.{in_eq, in_as, in_none, in_cons, in_left, in_middle, in_last_cases, split_last, apart_last}
use Rattle.causality.proofs.Counting.{Numbered}

module _ {B : Type 0} where
  -- what holds of a log under its box's clock, when ls are the posted letters
  pub record LogOk (ls : List (Letter B)) (c : ℕ → ℕ) (g : List (Letter B)) : Type 0 where
    pub known : (m : Letter B) → m ∈ g → m ∈ ls
    pub below : (m : Letter B) → m ∈ g → (p : ℕ) → entry_at m.stamp p ≤ c p
    pub full : (m : Letter B) → m ∈ ls → number_of m ≤ c m.poster → m ∈ g
    pub once : NoDuplicates g
    pub above : (a b : List (Letter B)) (m k : Letter B) → g ≡ a ++ (m ∷ b) → k ∈ ls → CoversLetter m k → (k ∈ a) ⊎ (k ≡ m)

  pub same_turned : (m k : Letter B) → SameLetter m k → SameLetter k m
  same_turned m k e = record { poster = sym e.poster; number = sym e.number }

  pub log_empty : (c : ℕ → ℕ) → LogOk [] c []
  log_empty c = record {
    known = λ m i. i;
    below = λ m i p. absurd (in_none i);
    full = λ m i l. i;
    once = tt;
    above = λ a b m k e i l. absurd (in_none i);
  }

  -- a letter is posted that the clock does not cover
  pub log_more : (ls : List (Letter B)) (c : ℕ → ℕ) (g : List (Letter B)) (m : Letter B)
      → c m.poster < number_of m → LogOk ls c g → LogOk (m ∷ ls) c g
  log_more ls c g m new ok = record {
    known = λ k i. there (ok.known k i);
    below = ok.below;
    full = λ k i l. ⊎_elim (λ (e : k ≡ m). absurd (not_new k e l)) (λ (j : k ∈ ls). ok.full k j l) (in_cons i);
    once = ok.once;
    above = λ a b x k e i l. ⊎_elim
        (λ (q : k ≡ m). absurd (not_new k q (bound x a b e k l)))
        (λ (j : k ∈ ls). ok.above a b x k e j l) (in_cons i);
  }
    where
      not_new : (k : Letter B) → k ≡ m → number_of k ≤ c k.poster → ⊥
      not_new k e l = let h : number_of m ≤ c m.poster = subst (λ (x : Letter B). number_of x ≤ c x.poster) e l in omega arith

      bound : (x : Letter B) (a b : List (Letter B)) → g ≡ a ++ (x ∷ b) → (k : Letter B) → CoversLetter x k → number_of k ≤ c k.poster
      bound x a b e k l = let h = ok.below x (in_eq (sym e) (in_middle x a b)) k.poster in omega arith

  -- the clock goes on from c to c' by the posted letter m alone
  pub record Advances (ls : List (Letter B)) (c c' : ℕ → ℕ) (m : Letter B) : Type 0 where
    pub listed : m ∈ ls
    pub new : c m.poster < number_of m
    pub grows : (p : ℕ) → c p ≤ c' p
    pub reached : (p : ℕ) → entry_at m.stamp p ≤ c' p
    pub only : (k : Letter B) → k ∈ ls → number_of k ≤ c' k.poster → (number_of k ≤ c k.poster) ⊎ (k ≡ m)

  pub log_last : (ls : List (Letter B)) (c c' : ℕ → ℕ) (g : List (Letter B)) (m : Letter B)
      → Advances ls c c' m → LogOk ls c g → LogOk ls c' (g ++ (m ∷ []))
  log_last ls c c' g m adv ok = record {
    known = λ k i. known' k (in_last_cases m g i);
    below = λ k i p. below' k p (in_last_cases m g i);
    full = λ k i l. full' k i (adv.only k i l);
    once = apart_last SameLetter m g ok.once (λ k i e. let h = ok.below k i k.poster in
        let n = adv.new in
        let r : number_of k ≤ c m.poster = subst (λ (p : ℕ). number_of k ≤ c p) e.poster h in
        let q = e.number in
        omega arith);
    above = λ a b x k e i l. above' a b x k i l (split_last x m g a b e);
  }
    where
      L : Type 0
      L = Letter B

      known' : (k : L) → (k ∈ g) ⊎ (k ≡ m) → k ∈ ls
      known' k (inl i) = ok.known k i
      known' k (inr e) = in_as e adv.listed

      below' : (k : L) (p : ℕ) → (k ∈ g) ⊎ (k ≡ m) → entry_at k.stamp p ≤ c' p
      below' k p (inl i) = let h = ok.below k i p in let n = adv.grows p in omega arith
      below' k p (inr e) = subst (λ (x : L). entry_at x.stamp p ≤ c' p) (sym e) (adv.reached p)

      full' : (k : L) → k ∈ ls → (number_of k ≤ c k.poster) ⊎ (k ≡ m) → k ∈ (g ++ (m ∷ []))
      full' k i (inl l) = in_left (m ∷ []) (ok.full k i l)
      full' k i (inr e) = in_as e (in_middle m g [])

      covered : (a : List L) (x k : L) → a ≡ g → x ≡ m → k ∈ ls → (number_of k ≤ c k.poster) ⊎ (k ≡ m) → (k ∈ a) ⊎ (k ≡ x)
      covered a x k ea ex i (inl l) = inl (in_eq (sym ea) (ok.full k i l))
      covered a x k ea ex i (inr e) = inr (e ∙ sym ex)

      above' : (a b : List L) (x k : L) → k ∈ ls → CoversLetter x k → ((a ≡ g) × (x ≡ m)) ⊎ ((b' : List L) × (g ≡ a ++ (x ∷ b'))) → (k ∈ a) ⊎ (k ≡ x)
      above' a b x k i l (inl q) =
          let l' : number_of k ≤ entry_at m.stamp k.poster = subst (λ (y : L). number_of k ≤ entry_at y.stamp k.poster) q.1 l in
          let r = adv.reached k.poster in
          covered a x k q.0 q.1 i (adv.only k i (omega arith))
      above' a b x k i l (inr q) = ok.above a q.0 x k q.1 i l

  -- what holds of a hold
  pub record HoldOk (ls : List (Letter B)) (c : ℕ → ℕ) (d : List (Letter B)) : Type 0 where
    pub known : (m : Letter B) → m ∈ d → m ∈ ls
    pub new : (m : Letter B) → m ∈ d → c m.poster < number_of m
    pub once : NoDuplicates d

  -- what holds of the posted letters, when `top` is each seat's own clock entry
  pub record IdsOk (N Q : ℕ) (ls : List (Letter B)) (top : ℕ → ℕ) : Type 0 where
    pub numbered : (m : Letter B) → m ∈ ls → Numbered N Q m
    pub high : (m : Letter B) → m ∈ ls → number_of m ≤ top m.poster
    pub unique : (m k : Letter B) → m ∈ ls → k ∈ ls → SameLetter m k → m ≡ k
    pub listed : (p n : ℕ) → 1 ≤ n → n ≤ top p → HasLetter (name_from p n) ls
