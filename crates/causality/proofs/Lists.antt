-- Where an element stands in a list, and lists whose elements are apart.
use Rattle.std.proofs.Common.{◌≡◌, ℕ, suc, ◌⊎◌, List, [], ◌∷◌, ◌++◌, length, sym, refl, ap, subst, inl, inr, ⊎_elim}
use native.Mathlib.Decide.{ℕ_discrete}
use Rattle.letters.specs.Lists.{◌∈◌, here, there, NoPair}

-- a statement holds at every seat, if it holds at seat s and at every other
pub by_seat : (s : ℕ) (P : ℕ → Type 0) → P s → ((t : ℕ) → ¬ (t ≡ s) → P t) → (t : ℕ) → P t
by_seat s P at_s at_other t = go (ℕ_discrete t s)
  where
    go : Dec (t ≡ s) → P t
    go (yes e) = subst P (sym e) at_s
    go (no ne) = at_other t ne

module _ {A : Type 0} where
  pub in_none : {x : A} → ¬ (x ∈ [])
  in_none i = elim i [ ]

  pub in_cons : {x y : A} {l : List A} → x ∈ (y ∷ l) → (x ≡ y) ⊎ (x ∈ l)
  in_cons (here e) = inl e
  in_cons (there i) = inr i

  pub in_eq : {x : A} {l l' : List A} → l ≡ l' → x ∈ l → x ∈ l'
  in_eq {x} e i = subst (λ (l : List A). x ∈ l) e i

  pub in_as : {x y : A} {l : List A} → x ≡ y → y ∈ l → x ∈ l
  in_as {l} e i = subst (λ (z : A). z ∈ l) (sym e) i

  pub in_left : {x : A} {a : List A} (b : List A) → x ∈ a → x ∈ (a ++ b)
  in_left b (here e) = here e
  in_left b (there i) = there (in_left b i)

  pub in_right : {x : A} (a : List A) {b : List A} → x ∈ b → x ∈ (a ++ b)
  in_right [] i = i
  in_right (y ∷ a) i = there (in_right a i)

  pub in_either : {x : A} (a b : List A) → x ∈ (a ++ b) → (x ∈ a) ⊎ (x ∈ b)
  in_either [] b i = inr i
  in_either (y ∷ a) b (here e) = inl (here e)
  in_either {x} (y ∷ a) b (there i) = ⊎_elim {C = (x ∈ (y ∷ a)) ⊎ (x ∈ b)} (λ (j : x ∈ a). inl (there j)) (λ (j : x ∈ b). inr j) (in_either a b i)

  pub in_middle : (x : A) (a b : List A) → x ∈ (a ++ (x ∷ b))
  in_middle x a b = in_right a (here refl)

  pub in_cases : {x : A} (y : A) (a b : List A) → x ∈ (a ++ (y ∷ b)) → (x ≡ y) ⊎ (x ∈ (a ++ b))
  in_cases {x} y a b i = ⊎_elim {C = (x ≡ y) ⊎ (x ∈ (a ++ b))} (λ (j : x ∈ a). inr (in_left b j)) (λ (j : x ∈ (y ∷ b)). go (in_cons j)) (in_either a (y ∷ b) i)
    where
      go : (x ≡ y) ⊎ (x ∈ b) → (x ≡ y) ⊎ (x ∈ (a ++ b))
      go (inl e) = inl e
      go (inr j) = inr (in_right a j)

  -- a list with one element more, at its end
  pub in_last_cases : {x : A} (y : A) (a : List A) → x ∈ (a ++ (y ∷ [])) → (x ∈ a) ⊎ (x ≡ y)
  in_last_cases {x} y a i = go (in_either a (y ∷ []) i)
    where
      go : (x ∈ a) ⊎ (x ∈ (y ∷ [])) → (x ∈ a) ⊎ (x ≡ y)
      go (inl j) = inl j
      go (inr (here e)) = inr e
      go (inr (there j)) = absurd (in_none j)

  -- where an element of such a list stands
  pub split_last : (x y : A) (l a b : List A) → l ++ (y ∷ []) ≡ a ++ (x ∷ b)
      → ((a ≡ l) × (x ≡ y)) ⊎ ((b' : List A) × (l ≡ a ++ (x ∷ b')))
  split_last x y [] [] b e = inl (refl, cc)
  split_last x y [] (z ∷ []) b e = absurd cc
  split_last x y [] (z ∷ (u ∷ a)) b e = absurd cc
  split_last x y (u ∷ l) [] b e = inr (l, cc)
  split_last x y (u ∷ l) (z ∷ a) b e = go (split_last x y l a b cc)
    where
      go : ((a ≡ l) × (x ≡ y)) ⊎ ((b' : List A) × (l ≡ a ++ (x ∷ b')))
          → (((z ∷ a) ≡ (u ∷ l)) × (x ≡ y)) ⊎ ((b' : List A) × ((u ∷ l) ≡ (z ∷ a) ++ (x ∷ b')))
      go (inl p) = inl (cc, p.1)
      go (inr p) = let f = p.1 in inr (p.0, cc)

  pub split : {x : A} (l : List A) → x ∈ l → (a : List A) × (b : List A) × (l ≡ a ++ (x ∷ b))
  split [] i = elim i [ ]
  split {x} (y ∷ l) (here e) = ([], l, ap (λ (z : A). z ∷ l) (sym e))
  split {x} (y ∷ l) (there i) = let p = split l i in (y ∷ p.0, p.1, ap (λ (r : List A). y ∷ r) p.2)

  pub length_cut : (x : A) (a b : List A) → length (a ++ (x ∷ b)) ≡ suc (length (a ++ b))
  length_cut x [] b = refl
  length_cut x (y ∷ a) b = ap suc (length_cut x a b)

  pub empty : (l : List A) → ((x : A) → ¬ (x ∈ l)) → l ≡ []
  empty [] none = refl
  empty (x ∷ l) none = absurd (none x (here refl))

  pub in_kept : {x : A} (y : A) (a b : List A) → x ∈ (a ++ b) → x ∈ (a ++ (y ∷ b))
  in_kept y [] b i = there i
  in_kept y (z ∷ a) b (here e) = here e
  in_kept y (z ∷ a) b (there i) = there (in_kept y a b i)

-- Lists whose elements are apart.
module _ {A : Type 0} (R : A → A → Type 0) where
  pub apart_less : (x : A) (a b : List A) → NoPair R (a ++ (x ∷ b)) → NoPair R (a ++ b)
  apart_less x [] b p = p.1
  apart_less x (z ∷ a) b p = (λ y j. p.0 y (in_kept x a b j), apart_less x a b p.1)

  -- any beginning of such a list
  pub apart_front : (a b : List A) → NoPair R (a ++ b) → NoPair R a
  apart_front [] b p = tt
  apart_front (z ∷ a) b p = (λ y j. p.0 y (in_left b j), apart_front a b p.1)

  pub apart_above : (x : A) (a b : List A) → NoPair R (a ++ (x ∷ b)) → (y : A) → y ∈ a → ¬ (R y x)
  apart_above x (z ∷ a) b p y (here e) r = p.0 x (in_middle x a b) (subst (λ (u : A). R u x) e r)
  apart_above x (z ∷ a) b p y (there i) r = apart_above x a b p.1 y i r
  apart_above x [] b p y i r = in_none i

  pub apart_below : (x : A) (a b : List A) → NoPair R (a ++ (x ∷ b)) → (y : A) → y ∈ b → ¬ (R x y)
  apart_below x [] b p y i = p.0 y i
  apart_below x (z ∷ a) b p y i = apart_below x a b p.1 y i

  pub apart_last : (x : A) (l : List A) → NoPair R l → ((y : A) → y ∈ l → ¬ (R y x)) → NoPair R (l ++ (x ∷ []))
  apart_last x [] p new = (λ y i. absurd (in_none i), tt)
  apart_last x (z ∷ l) p new = (λ y i r. go y r (in_last_cases x l i), apart_last x l p.1 (λ y j. new y (there j)))
    where
      go : (y : A) → R z y → (y ∈ l) ⊎ (y ≡ x) → ⊥
      go y r (inl j) = p.0 y j r
      go y r (inr e) = new z (here refl) (subst (λ (u : A). R z u) e r)

module _ {A : Type 0} (R : A → A → Type 0) (turn : (x y : A) → R x y → R y x) where
  pub apart_cut : (x : A) (a b : List A) → NoPair R (a ++ (x ∷ b)) → NoPair R (a ++ b) × ((y : A) → y ∈ (a ++ b) → ¬ (R x y))
  apart_cut x a b p = (
    apart_less R x a b p,
    λ y i r. ⊎_elim
        (λ (j : y ∈ a). apart_above R x a b p y j (turn x y r)) (λ (j : y ∈ b). apart_below R x a b p y j r) (in_either a b i),
  )
