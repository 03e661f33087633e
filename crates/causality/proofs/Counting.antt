-- How many letters a list can have in which none stands twice.
use Rattle.std.proofs.Common.{◌≡◌, ℕ, zero, suc, ◌+◌, ◌-◌, ◌*◌, ◌<◌, ◌≤◌, ◌⊎◌, List, [], ◌∷◌, ◌++◌, map, length, sym, refl, ap, ◌∙◌, subst, inl, inr, ⊎_elim, mul-le-mul_right, arith}
use native.Mathlib.Decide.{ℕ_discrete, dec_lt}
use Rattle.std.proofs.lemmas.List.{length-map}
use Rattle.letters.specs.declared.letter.Letter.{Letter}
use Rattle.letters.specs.Letters.{number_of}
use Rattle.letters.specs.Order.{SameLetter}
use Rattle.letters.specs.Lists.{◌∈◌, here, there, NoPair}
use Rattle.letters.specs.Logs.{NoDuplicates}
use Rattle.causality.proofs.Lists.{in_none, in_cons, in_eq, in_kept, in_as, split, length_cut, apart_cut}

-- a number stands in a list of numbers, or not
find : (n : ℕ) (l : List ℕ) → (n ∈ l) ⊎ (¬ (n ∈ l))
find n [] = inr in_none
find n (x ∷ l) = go (ℕ_discrete n x) (find n l)
  where
    go : Dec (n ≡ x) → (n ∈ l) ⊎ (¬ (n ∈ l)) → (n ∈ (x ∷ l)) ⊎ (¬ (n ∈ (x ∷ l)))
    go (yes e) r = inl (here e)
    go (no ne) (inl i) = inl (there i)
    go (no ne) (inr none) = inr (λ i. ⊎_elim ne none (in_cons i))

-- the pigeonhole principle: different numbers below n are at most n
pub pigeonhole : (n : ℕ) (l : List ℕ) → NoPair ◌≡◌ l → ((x : ℕ) → x ∈ l → x < n) → length l ≤ n
pigeonhole zero [] p small = omega arith
pigeonhole zero (x ∷ l) p small = let h = small x (here refl) in omega arith
pigeonhole (suc n) l p small = go (λ l' p' small'. pigeonhole n l' p' small') (find n l)
  where
    go : ((l' : List ℕ) → NoPair ◌≡◌ l' → ((x : ℕ) → x ∈ l' → x < n) → length l' ≤ n) → (n ∈ l) ⊎ (¬ (n ∈ l)) → length l ≤ suc n
    go fewer (inl i) =
        let s = split l i in
        let cut = apart_cut ◌≡◌ (λ u v q. sym q) n s.0 s.1 (subst (NoPair ◌≡◌) s.2 p) in
        let rest : length (s.0 ++ s.1) ≤ n = fewer (s.0 ++ s.1) cut.0 (λ y j.
        let h = small y (in_eq (sym s.2) (in_kept n s.0 s.1 j)) in
        let d = cut.1 y j in
        omega arith) in
        let long : length l ≡ suc (length (s.0 ++ s.1)) = ap length s.2 ∙ length_cut n s.0 s.1 in
        omega arith
    go fewer (inr none) = let h = fewer l p (λ y j. let h = small y j in let d : ¬ (n ≡ y) = λ e. none (in_as e j) in omega arith) in omega arith

in_map : {A : Type 0} (f : A → ℕ) (l : List A) (n : ℕ) → n ∈ map f l → (x : A) × (x ∈ l) × (n ≡ f x)
in_map f [] n i = absurd (in_none i)
in_map f (x ∷ l) n (here e) = (x, here refl, e)
in_map f (x ∷ l) n (there i) = let r = in_map f l n i in (r.0, there r.1, r.2)

module _ {B : Type 0} (N Q : ℕ) where
  -- a letter of one of N seats, numbered from 1 to Q
  pub record Numbered (m : Letter B) : Type 0 where
    pub seat : m.poster < N
    pub low : 1 ≤ number_of m
    pub high : number_of m ≤ Q

  -- a number of its own below N * Q for each such letter
  code : Letter B → ℕ
  code m = m.poster * Q + (number_of m - 1)

  code_small : (m : Letter B) → Numbered m → code m < N * Q
  unfolding code
  code_small m ok = let h = mul-le-mul_right Q ok.seat in omega arith

  code_same : (m k : Letter B) → Numbered m → Numbered k → code m ≡ code k → SameLetter m k
  unfolding code
  code_same m k okm okk e = go (dec_lt m.poster k.poster) (dec_lt k.poster m.poster)
    where
      go : Dec (m.poster < k.poster) → Dec (k.poster < m.poster) → SameLetter m k
      go (yes l) d = let h = mul-le-mul_right Q l in absurd (omega arith)
      go (no l) (yes g) = let h = mul-le-mul_right Q g in absurd (omega arith)
      go (no l) (no g) =
          let same : m.poster ≡ k.poster = omega arith in
          let h = ap (λ (p : ℕ). p * Q) same in
          record { poster = same; number = omega arith }

  -- the letters of seat s have the numbers from s * Q on
  code_other : (m : Letter B) (s : ℕ) → Numbered m → ¬ (m.poster ≡ s) → ¬ (s * Q ≡ code m)
  unfolding code
  code_other m s ok other e = go (dec_lt m.poster s) (dec_lt s m.poster)
    where
      go : Dec (m.poster < s) → Dec (s < m.poster) → ⊥
      go (yes l) d = let h = mul-le-mul_right Q l in let a = ok.high in let b = ok.low in omega arith
      go (no l) (yes g) = let h = mul-le-mul_right Q g in let a = ok.high in let b = ok.low in omega arith
      go (no l) (no g) = other (omega arith)

  apart_codes : (l : List (Letter B)) → ((m : Letter B) → m ∈ l → Numbered m) → NoDuplicates l → NoPair ◌≡◌ (map code l)
  apart_codes [] ok p = tt
  apart_codes (m ∷ l) ok p = (
    λ n i e.
        let r = in_map code l n i in
        p.0 r.0 r.1 (code_same m r.0 (ok m (here refl)) (ok r.0 (there r.1)) (e ∙ r.2)),
    apart_codes l (λ k i. ok k (there i)) p.1,
  )

  -- such letters are at most N * Q
  pub at_most : (l : List (Letter B)) → ((m : Letter B) → m ∈ l → Numbered m) → NoDuplicates l → length l ≤ N * Q
  at_most l ok once =
      let long = length-map l code in
      let most : length (map code l) ≤ N * Q = pigeonhole (N * Q) (map code l) (apart_codes l ok once) (λ n i.
      let r = in_map code l n i in
      let c = code_small r.0 (ok r.0 r.1) in
      let e = r.2 in
      omega arith) in
      omega arith

  -- letters of seats other than s are fewer than N * Q
  pub fewer : (s : ℕ) → s < N → 1 ≤ Q → (l : List (Letter B)) → ((m : Letter B) → m ∈ l → Numbered m)
      → ((m : Letter B) → m ∈ l → ¬ (m.poster ≡ s)) → NoDuplicates l → length l < N * Q
  fewer s seat some l ok other once =
      let long = length-map l code in
      let most : length (s * Q ∷ map code l) ≤ N * Q = pigeonhole (N * Q) (s * Q ∷ map code l) (first, apart_codes l ok once) small in
      omega arith
    where
      first : (n : ℕ) → n ∈ map code l → ¬ (s * Q ≡ n)
      first n i e = let r = in_map code l n i in code_other r.0 s (ok r.0 r.1) (other r.0 r.1) (e ∙ r.2)

      small : (n : ℕ) → n ∈ (s * Q ∷ map code l) → n < N * Q
      small n (here e) = let h = mul-le-mul_right Q seat in omega arith
      small n (there i) = let r = in_map code l n i in let c = code_small r.0 (ok r.0 r.1) in let e = r.2 in omega arith
