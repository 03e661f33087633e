-- A search for the first element that passes a test.
use Rattle.std.proofs.Common.{◌≡◌, ℕ, ◌+◌, ◌<◌, ◌≤◌, Bool, true, false, cond, subst, List, [], ◌∷◌, length, get_or, drop, Some, None, Option, sym, ap, ◌∙◌, ⊎_elim, arith}
use Rattle.std.proofs.lemmas.List.{at_drop_more}
use Rattle.std.proofs.lemmas.Bool.{cases_Bool, cond-true, cond-false}
use Rattle.std.specs.Prelude.{Decides}
use Rattle.std.proofs.Common.{zero, suc}
use Rattle.std.proofs.lemmas.Bool.{true≢false}
use Rattle.seats.specs.Outcomes.{first_passing}
use Rattle.seats.specs.Scans.{FirstSuch}

-- one step of a search, and its two ends
module _ {X : Type 0} (f : X → Bool) (xs : List X) (i : ℕ) (r : Option (ℕ × X)) (so_far : first_passing f i (drop i xs) ≡ r) where
  seen : (x : X) → i < length xs → x ≡ get_or xs i x → cond (f x) (Some (i, x)) (first_passing f (i + 1) (drop (i + 1) xs)) ≡ r
  seen x lt at = ap (λ y. cond (f y) (Some (i, y)) (first_passing f (i + 1) (drop (i + 1) xs))) at ∙ sym (at_drop_more (first_passing f i) xs i x lt) ∙ so_far

  pub first_on : (x : X) → i < length xs → x ≡ get_or xs i x → f x ≡ false → first_passing f (i + 1) (drop (i + 1) xs) ≡ r
  first_on x lt at fails = sym (ap (λ b. cond b (Some (i, x)) (first_passing f (i + 1) (drop (i + 1) xs))) fails) ∙ seen x lt at

  pub first_found : (x : X) → i < length xs → x ≡ get_or xs i x → f x ≡ true → Some (i, x) ≡ r
  first_found x lt at passes = sym (ap (λ b. cond b (Some (i, x)) (first_passing f (i + 1) (drop (i + 1) xs))) passes) ∙ seen x lt at

-- what is known of an element that is found
pub record Found {X : Type 0} (f : X → Bool) (i : ℕ) (xs : List X) (k : ℕ) (x : X) : Type 0 where
  pub passes : f x ≡ true
  pub from : i ≤ k
  pub within : k < i + length xs

abbrev inside : {X : Type 0} → Option X → X → X
inside (Some x) d = x
inside None d = d

-- a search that finds
pub found : {X : Type 0} (f : X → Bool) (i : ℕ) (xs : List X) (k : ℕ) (x : X) → first_passing f i xs ≡ Some (k, x) → Found f i xs k x
found f i [] k x e = let z : ◌≡◌ {A = ℕ} 0 1 = cc in absurd (omega arith)
found {X} f i (y ∷ ys) k x e =
    ⊎_elim
    (λ yes'.
    let is : (i, y) ≡ (k, x) = ap (λ o. inside o (i, y)) (sym (cond-true (f y) (Some (i, y)) (first_passing f (i + 1) ys) yes') ∙ e) in
    let place : i ≡ k = ap (λ z. z.0) is in
    record { passes = sym (ap (λ z. f z.1) is) ∙ yes'; from = omega arith; within = omega arith })
    (λ no'. let h = found f (i + 1) ys k x (sym (cond-false (f y) _ _ no') ∙ e) in record { passes = h.passes; from = omega (arith, h.from); within = omega (arith, h.within) })
    (cases_Bool (f y))

-- a test that decides something: a search by the test is one for that
module _ {X : Type 0} (f : X → Bool) (Is : X → Type 0) (decides : (x : X) → Decides (f x) (Is x)) where
  -- what is found, counted from the first that was looked at
  record From (i : ℕ) (xs : List X) (k : ℕ) (x : X) : Type 0 where
    at : ℕ
    is : k ≡ i + at
    within : at < length xs
    here : x ≡ get_or xs at x
    holds : Is x
    before : (j : ℕ) → j < at → ¬ (Is (get_or xs j x))

  fails : (x : X) → f x ≡ false → ¬ (Is x)
  fails x no' is = true≢false (sym ((decides x).1 is) ∙ no')

  none_such : (i : ℕ) (xs : List X) → first_passing f i xs ≡ None → (k : ℕ) (d : X) → k < length xs → ¬ (Is (get_or xs k d))
  none_such i [] e k d h = absurd (omega arith)
  none_such i (y ∷ ys) e k d h =
      ⊎_elim
      (λ yes'. let z : ◌≡◌ {A = Option (ℕ × X)} (Some (i, y)) None = sym (cond-true (f y) (Some (i, y)) (first_passing f (i + 1) ys) yes') ∙ e in let w : ◌≡◌ {A = ℕ} 0 1 = cc in absurd (omega arith))
      (λ no'. go no' (none_such (i + 1) ys (sym (cond-false (f y) _ _ no') ∙ e)) k h)
      (cases_Bool (f y))
    where
      go : f y ≡ false → ((j : ℕ) (d : X) → j < length ys → ¬ (Is (get_or ys j d))) → (j : ℕ) → j < suc (length ys) → ¬ (Is (get_or (y ∷ ys) j d))
      go no' later zero h = fails y no'
      go no' later (suc j) h = later j d (omega arith)

  found_such : (i : ℕ) (xs : List X) (k : ℕ) (x : X) → first_passing f i xs ≡ Some (k, x) → From i xs k x
  found_such i [] k x e = let z : ◌≡◌ {A = ℕ} 0 1 = cc in absurd (omega arith)
  found_such i (y ∷ ys) k x e =
      ⊎_elim
      (λ yes'.
      let is : (i, y) ≡ (k, x) = ap (λ o. inside o (i, y)) (sym (cond-true (f y) (Some (i, y)) (first_passing f (i + 1) ys) yes') ∙ e) in
      let place : i ≡ k = ap (λ z. z.0) is in
      record { at = 0; is = omega arith; within = omega arith; here = sym (ap (λ z. z.1) is); holds = (decides x).0 (sym (ap (λ z. f z.1) is) ∙ yes'); before = λ j h. absurd (omega arith) })
      (λ no'.
      let r = found_such (i + 1) ys k x (sym (cond-false (f y) _ _ no') ∙ e) in
      record { at = suc r.at; is = omega (arith, r.is); within = omega (arith, r.within); here = r.here; holds = r.holds; before = go no' r })
      (cases_Bool (f y))
    where
      go : f y ≡ false → (r : From (i + 1) ys k x) → (j : ℕ) → j < suc r.at → ¬ (Is (get_or (y ∷ ys) j x))
      go no' r zero h = fails y no'
      go no' r (suc j) h = r.before j (omega arith)

  pub first_such : (xs : List X) (r : Option (ℕ × X)) → r ≡ first_passing f 0 xs → FirstSuch Is xs r
  first_such xs None e = none_such 0 xs (sym e)
  first_such xs (Some found) e =
      let r = found_such 0 xs found.0 found.1 (sym e) in
      let at : r.at ≡ found.0 = omega (arith, r.is) in
      (omega (arith, r.within), subst (λ j. found.1 ≡ get_or xs j found.1) at r.here, r.holds, λ k h. r.before k (omega arith))
