-- A filter of what a filter keeps.
use Rattle.std.specs.Prelude.{◌≡◌, Bool, true, false, List, [], ◌∷◌, filter, refl}
use Rattle.std.proofs.Common.{inl, inr, ap}
use Rattle.std.proofs.lemmas.Bool.{cases_Bool}

module _ {X : Type 0} (p q : X → Bool) where
  pub kept_swap : (l : List X) → filter p (filter q l) ≡ filter q (filter p l)
  kept_swap [] = refl
  kept_swap (x ∷ xs) = elim (cases_Bool (p x)) [
    | inl a ↦ elim (cases_Bool (q x)) [ inl b ↦ simp (a, b) (ap (λ l. x ∷ l) (kept_swap xs)) | inr b ↦ simp (a, b) (kept_swap xs) ]
    | inr a ↦ elim (cases_Bool (q x)) [ inl b ↦ simp (a, b) (kept_swap xs) | inr b ↦ simp (a, b) (kept_swap xs) ]
  ]

  -- what passes q passes p
  pub kept_all : ((x : X) → q x ≡ true → p x ≡ true) → (l : List X) → filter p (filter q l) ≡ filter q l
  kept_all each [] = refl
  kept_all each (x ∷ xs) = elim (cases_Bool (q x)) [
    | inl b ↦ let a = each x b in simp (b, a) (ap (λ l. x ∷ l) (kept_all each xs))
    | inr b ↦ simp b (kept_all each xs)
  ]

  -- what passes q fails p
  pub kept_none : ((x : X) → q x ≡ true → p x ≡ false) → (l : List X) → filter p (filter q l) ≡ []
  kept_none each [] = refl
  kept_none each (x ∷ xs) = elim (cases_Bool (q x)) [
    | inl b ↦ let a = each x b in simp (b, a) (kept_none each xs)
    | inr b ↦ simp b (kept_none each xs)
  ]
