-- What is picked out of rows, as rows are added, cleared and closed up.
use Rattle.std.proofs.Common.{◌≡◌, ℕ, zero, suc, ◌+◌, ◌<◌, ◌≤◌, Bool, true, false, cond, List, [], ◌∷◌, ◌++◌, length, get_or, sym, refl, ap, ◌∙◌, subst, ⊎_elim, append-nil, add-one, arith, length-append}
use Rattle.std.specs.List.{remove}
use Rattle.std.proofs.lemmas.List.{get_or_append_left, get_or_at}
use Rattle.std.proofs.lemmas.Bool.{cases_eq}
use Rattle.carriers.proofs.Removed.{removed_left, removed_end}
use Rattle.spool.specs.Rows.{picks}

module _ {L : Type 0} where
  one : Bool → L → List L
  one b x = cond b (x ∷ []) []

  pub picks_same : (t t' : ℕ → Bool) (f f' : ℕ → L) (n : ℕ) → ((r : ℕ) → r < n → t r ≡ t' r) → ((r : ℕ) → r < n → t r ≡ true → f r ≡ f' r) → picks t f n ≡ picks t' f' n
  picks_same t t' f f' zero e h = refl
  picks_same t t' f f' (suc n) e h =
      let front = picks_same t t' f f' n (λ r l. e r (omega arith)) (λ r l. h r (omega arith)) in
      let at = e n (omega arith) in
      let same : (b : Bool) → t n ≡ b → cond b (f n ∷ []) [] ≡ cond b (f' n ∷ []) [] = λ b. elim b as (λ v. t n ≡ v → cond v (f n ∷ []) [] ≡ cond v (f' n ∷ []) []) [ true ↦ λ y. ap (λ x. x ∷ []) (h n (omega arith) y) | false ↦ λ y. refl ] in
      ap (λ l. l ++ cond (t n) (f n ∷ []) []) front ∙ ap (λ l. picks t' f' n ++ l) (same (t n) refl ∙ ap (λ b. cond b (f' n ∷ []) []) at)

  -- a row that passes makes the list longer
  pub picks_grow : (t : ℕ → Bool) (f : ℕ → L) (i n : ℕ) → i < n → t i ≡ true → length (picks t f i) < length (picks t f n)
  picks_grow t f i zero h y = absurd (omega arith)
  picks_grow t f i (suc n) h y = ⊎_elim
      (λ same. subst (λ m. length (picks t f i) < length (picks t f m ++ cond (t m) (f m ∷ []) [])) same
      (rw (y, length-append (picks t f i) (f i ∷ [])) (omega arith)))
      (λ other. let less = picks_grow t f i n (omega arith) y in
      omega (arith, less, length-append (picks t f n) (cond (t n) (f n ∷ []) [])))
      (cases_eq i n)

  -- the letter at the place of a row
  pub picks_at : (t : ℕ → Bool) (f : ℕ → L) (i n : ℕ) (d : L) → i < n → t i ≡ true → get_or (picks t f n) (length (picks t f i)) d ≡ f i
  picks_at t f i zero d h y = absurd (omega arith)
  picks_at t f i (suc n) d h y = ⊎_elim
      (λ same. subst (λ m. get_or (picks t f m ++ cond (t m) (f m ∷ []) []) (length (picks t f i)) d ≡ f i) same
      (rw y (get_or_at (picks t f i) (f i) [] d (length (picks t f i)) refl)))
      (λ other. get_or_append_left (picks t f n) _ d _ (picks_grow t f i n (omega arith) y) ∙ picks_at t f i n d (omega arith) y)
      (cases_eq i n)

  -- the row i no longer passes
  pub picks_clear : (t t' : ℕ → Bool) (f f' : ℕ → L) (i n : ℕ) → i < n → t i ≡ true → t' i ≡ false →
      ((r : ℕ) → r < n → (r ≡ i → ⊥) → t r ≡ t' r) → ((r : ℕ) → r < n → (r ≡ i → ⊥) → f r ≡ f' r) →
      picks t' f' n ≡ remove (picks t f n) (length (picks t f i))
  picks_clear t t' f f' i zero h y z e g = absurd (omega arith)
  picks_clear t t' f f' i (suc n) h y z e g = ⊎_elim
      (λ same.
      let front : picks t f i ≡ picks t' f' i = picks_same t t' f f' i (λ r l. e r (omega arith) (omega arith)) (λ r l _. g r (omega arith) (omega arith)) in
      subst (λ m. picks t' f' m ++ cond (t' m) (f' m ∷ []) [] ≡ remove (picks t f m ++ cond (t m) (f m ∷ []) []) (length (picks t f i))) same
      (rw (y, z) (append-nil (picks t' f' i) ∙ sym front ∙ sym (removed_end (picks t f i) (f i)))))
      (λ other.
      let back : cond (t n) (f n ∷ []) [] ≡ cond (t' n) (f' n ∷ []) [] =
      ap (λ x. cond (t n) (x ∷ []) []) (g n (omega arith) (λ s. other (sym s))) ∙ ap (λ b. cond b (f' n ∷ []) []) (e n (omega arith) (λ s. other (sym s))) in
      ap (λ l. l ++ cond (t' n) (f' n ∷ []) []) (picks_clear t t' f f' i n (omega arith) y z (λ r l. e r (omega arith)) (λ r l. g r (omega arith)))
      ∙ ap (λ l. remove (picks t f n) (length (picks t f i)) ++ l) (sym back)
      ∙ sym (removed_left (picks t f n) _ _ (picks_grow t f i n (omega arith) y)))
      (cases_eq i n)

  -- a row that does not pass is closed up
  pub picks_close : (t t' : ℕ → Bool) (f f' : ℕ → L) (i n : ℕ) → i ≤ n → t i ≡ false →
      ((r : ℕ) → r < i → (t r ≡ t' r) × (f r ≡ f' r)) → ((r : ℕ) → i ≤ r → r < n → (t (suc r) ≡ t' r) × (f (suc r) ≡ f' r)) →
      picks t' f' n ≡ picks t f (suc n)
  picks_close t t' f f' i zero h z e g =
      let none : i ≡ 0 = omega arith in
      sym (ap (λ b. cond b (f 0 ∷ []) []) (subst (λ j. t j ≡ false) none z))
  picks_close t t' f f' i (suc n) h z e g = ⊎_elim
      (λ same.
      let front : picks t f (suc n) ≡ picks t' f' (suc n) = picks_same t t' f f' (suc n) (λ r l. (e r (omega arith)).0) (λ r l _. (e r (omega arith)).1) in
      sym (ap (λ b. picks t f (suc n) ++ cond b (f (suc n) ∷ []) []) (subst (λ j. t j ≡ false) same z) ∙ append-nil (picks t f (suc n)) ∙ front))
      (λ other.
      let le : i ≤ n = omega arith in
      let at = g n le (omega arith) in
      ap (λ l. l ++ cond (t' n) (f' n ∷ []) []) (picks_close t t' f f' i n le z e (λ r l m. g r l (omega arith)))
      ∙ ap (λ b. picks t f (suc n) ++ cond b (f' n ∷ []) []) (sym at.0) ∙ ap (λ x. picks t f (suc n) ++ cond (t (suc n)) (x ∷ []) []) (sym at.1))
      (cases_eq i (suc n))

  pub picks_yes : (t : ℕ → Bool) (f : ℕ → L) (n : ℕ) → t n ≡ true → length (picks t f (n + 1)) ≡ length (picks t f n) + 1
  picks_yes t f n y = ap (λ m. length (picks t f m)) (add-one n) ∙ ap (λ b. length (picks t f n ++ cond b (f n ∷ []) [])) y ∙ length-append (picks t f n) (f n ∷ [])

  pub picks_not : (t : ℕ → Bool) (f : ℕ → L) (n : ℕ) → t n ≡ false → length (picks t f (n + 1)) ≡ length (picks t f n)
  picks_not t f n z = ap (λ m. length (picks t f m)) (add-one n) ∙ ap (λ b. length (picks t f n ++ cond b (f n ∷ []) [])) z ∙ ap length (append-nil (picks t f n))
