-- Where the first element that passes a test stands, and where the element at a place stands.
use Rattle.std.proofs.Common.{◌≡◌, ℕ, zero, suc, ◌+◌, ◌<◌, Bool, true, false, List, [], ◌∷◌, ◌++◌, length, get_or, take, drop, Some, None, Option, sym, refl, ap, ◌∙◌, subst, ⊎_elim, arith}
use Rattle.std.proofs.lemmas.Bool.{cases_Bool, cond-true, cond-false}
use Rattle.letters.specs.Lists.{◌∈◌, here, there}
use Rattle.causality.proofs.Lists.{in_none}
use Rattle.seats.specs.Outcomes.{first_passing}

abbrev inside : {X : Type 0} → Option X → X → X
inside (Some x) d = x
inside None d = d

-- x is at k, and passes; those before it fail
pub record First {X : Type 0} (f : X → Bool) (xs : List X) (k : ℕ) (x : X) : Type 0 where
  pub whole : xs ≡ take k xs ++ (x ∷ drop (suc k) xs)
  pub within : k < length xs
  pub passes : f x ≡ true
  pub before : (y : X) → y ∈ take k xs → f y ≡ false

record From {X : Type 0} (f : X → Bool) (i : ℕ) (xs : List X) (k : ℕ) (x : X) : Type 0 where
  at : ℕ
  is : k ≡ i + at
  found : First f xs at x

from : {X : Type 0} (f : X → Bool) (i : ℕ) (xs : List X) (k : ℕ) (x : X) → first_passing f i xs ≡ Some (k, x) → From f i xs k x
from f i [] k x e = absurd cc
from {X} f i (y ∷ ys) k x e =
    ⊎_elim
    (λ yes'.
    let is : (i, y) ≡ (k, x) = ap (λ o. inside o (i, y)) (sym (cond-true (f y) (Some (i, y)) (first_passing f (i + 1) ys) yes') ∙ e) in
    let place : i ≡ k = ap (λ z. z.0) is in
    let same : y ≡ x = ap (λ z. z.1) is in
    record {
      at = 0;
      is = omega arith;
      found = record {
        whole = ap (λ (z : X). z ∷ ys) same;
        within = omega arith;
        passes = subst (λ (z : X). f z ≡ true) same yes';
        before = λ z j. absurd (in_none j);
      };
    })
    (λ no'. let h = from f (i + 1) ys k x (sym (cond-false (f y) _ _ no') ∙ e) in
    record {
      at = suc h.at;
      is = omega (arith, h.is);
      found = record {
        whole = ap (λ (l : List X). y ∷ l) h.found.whole;
        within = omega (arith, h.found.within);
        passes = h.found.passes;
        before = λ z j. one y ys h.at no' h.found.before z j;
      };
    })
    (cases_Bool (f y))
  where
    one : (y : X) (ys : List X) (n : ℕ) → f y ≡ false → ((z : X) → z ∈ take n ys → f z ≡ false) → (z : X) → z ∈ (y ∷ take n ys) → f z ≡ false
    one y ys n no' rest z (here q) = subst (λ (u : X). f u ≡ false) (sym q) no'
    one y ys n no' rest z (there j) = rest z j

pub first_at : {X : Type 0} (f : X → Bool) (xs : List X) (k : ℕ) (x : X) → first_passing f 0 xs ≡ Some (k, x) → First f xs k x
first_at f xs k x e = let h = from f 0 xs k x e in let is : h.at ≡ k = omega (arith, h.is) in subst (λ (n : ℕ). First f xs n x) is h.found

pub none_passes : {X : Type 0} (f : X → Bool) (i : ℕ) (xs : List X) → first_passing f i xs ≡ None → (y : X) → y ∈ xs → f y ≡ false
none_passes f i [] e y j = absurd (in_none j)
none_passes {X} f i (x ∷ xs) e y j =
    ⊎_elim
    (λ yes'. let clash : Some (i, x) ≡ None = sym (cond-true (f x) (Some (i, x)) (first_passing f (i + 1) xs) yes') ∙ e in absurd cc)
    (λ no'. go no' (none_passes f (i + 1) xs (sym (cond-false (f x) _ _ no') ∙ e)) j)
    (cases_Bool (f x))
  where
    go : f x ≡ false → ((z : X) → z ∈ xs → f z ≡ false) → y ∈ (x ∷ xs) → f y ≡ false
    go no' rest (here q) = subst (λ (u : X). f u ≡ false) (sym q) no'
    go no' rest (there j) = rest y j

-- the element at a place, with those before it and those after it
pub record Nth {X : Type 0} (xs : List X) (k : ℕ) (x : X) : Type 0 where
  pub whole : xs ≡ take k xs ++ (x ∷ drop (suc k) xs)
  pub at : length (take k xs) ≡ k

pub nth_at : {X : Type 0} (xs : List X) (k : ℕ) (x : X) → k < length xs → x ≡ get_or xs k x → Nth xs k x
nth_at [] k x lt e = absurd (omega arith)
nth_at {X} (y ∷ ys) zero x lt e = record { whole = ap (λ (z : X). z ∷ ys) (sym e); at = refl }
nth_at {X} (y ∷ ys) (suc k) x lt e =
    let h = nth_at ys k x (omega arith) e in
    record { whole = ap (λ (l : List X). y ∷ l) h.whole; at = ap suc h.at }
