-- The rows that a row buffer lends, one by one.
use Rattle.std.proofs.Common.{◌≡◌, false, true, ℕ, zero, suc, ◌+◌, ◌-◌, ◌*◌, ◌^◌, min, cond, slice_get, is_some, Option, Some, None, Ok, Err, Result, OkIff, ⊎_elim, ◌<◌, ◌≤◌, Bool, inl, inr, add-one, List, [], ◌∷◌, length, get_or, take, drop, sym, refl, ap, ◌∙◌, subst, arith}
use Rattle.std.proofs.lemmas.List.{drop-drop, take_all}
use Rattle.std.proofs.lemmas.List.Sums.{count_by_more_no, count_by_more_yes, sum_by-cons}
use Rattle.std.proofs.lemmas.Bool.{cases_Bool, cases_lt, true≢false}
use Rattle.std.proofs.lemmas.Option.{slice_get_within}
use Rattle.std.specs.List.{count_by, enumerate_from, filter}
use Rattle.std.specs.Option.{option_map, unwrap_or}
use Rattle.std.specs.Result.{result_unwrap_or}
use Rattle.std.specs.Simd.{first_chunks}
use Rattle.spool.specs.Masks.{marked}
use Rattle.spool.specs.declared.row_buffer.TheConstants.{ROW_SIZE}
use Rattle.spool.specs.Rows.{marks_at, mask_of, picks, row_at}
use Rattle.spool.proofs.Picks.{picks_yes, picks_not}

pub take_rows : (c k : ℕ) (bs : List ℕ) → c ≤ k → take c (first_chunks ROW_SIZE k bs) ≡ first_chunks ROW_SIZE c bs
take_rows zero k bs h = refl
take_rows (suc c) zero bs h = absurd (omega arith)
take_rows (suc c) (suc k) bs h = ap (λ l. take ROW_SIZE bs ∷ l) (take_rows c k (drop ROW_SIZE bs) (omega arith))

pub length_rows : (k : ℕ) (bs : List ℕ) → length (first_chunks ROW_SIZE k bs) ≡ k
length_rows zero bs = refl
length_rows (suc k) bs = ap suc (length_rows k (drop ROW_SIZE bs))

pub row_is : (k : ℕ) (bs : List ℕ) (r : ℕ) → r < k → get_or (first_chunks ROW_SIZE k bs) r [] ≡ row_at bs r
row_is zero bs r h = absurd (omega arith)
row_is (suc k) bs zero h = refl
row_is (suc k) bs (suc r) h =
    let size : suc r * ROW_SIZE ≡ ROW_SIZE + r * ROW_SIZE = omega arith in
    row_is k (drop ROW_SIZE bs) r (omega arith)
    ∙ ap (take ROW_SIZE) (drop-drop (r * ROW_SIZE) ROW_SIZE bs ∙ ap (λ n. drop n bs) (sym size))

-- what stands at a place of the numbered rows that pass a test
module _ (p : List ℕ → Bool) where
  abbrev passing : ℕ → List (List ℕ) → List (ℕ × List ℕ)
  passing i xs = filter (λ (e : ℕ × List ℕ). p e.1) (enumerate_from i xs)

  abbrev Found : List (List ℕ) → ℕ → ℕ → Type 0
  Found xs i place = (q : ℕ × List ℕ) × (slice_get (passing i xs) place ≡ Some q)
      × (k : ℕ) × (q.0 ≡ i + k) × (k < length xs) × (p (get_or xs k []) ≡ true) × (count_by p (take k xs) ≡ place)

  module _ (x : List ℕ) (xs : List (List ℕ)) (i : ℕ) where
    counted : (b : Bool) → p x ≡ b → (ys : List (List ℕ)) → count_by p (x ∷ ys) ≡ cond b 1 0 + count_by p ys
    counted b e ys = sum_by-cons (λ y. cond (p y) 1 0) x ys ∙ ap (λ v. cond v 1 0 + count_by p ys) e

    -- the first row passes, or not, and what is looked for is behind it
    behind : (b : Bool) → p x ≡ b → (place : ℕ) → Found xs (i + 1) place → Found (x ∷ xs) i (cond b (suc place) place)
    behind true e place r = (
      r.0,
      ap (λ v. slice_get (cond v ((i, x) ∷ passing (i + 1) xs) (passing (i + 1) xs)) (suc place)) e ∙ r.1,
      suc r.2,
      omega (arith, r.3),
      omega (arith, r.4),
      r.5,
      counted true e (take r.2 xs) ∙ omega (arith, r.6),
    )
    behind false e place r = (
      r.0,
      ap (λ v. slice_get (cond v ((i, x) ∷ passing (i + 1) xs) (passing (i + 1) xs)) place) e ∙ r.1,
      suc r.2,
      omega (arith, r.3),
      omega (arith, r.4),
      r.5,
      counted false e (take r.2 xs) ∙ omega (arith, r.6),
    )

    here : p x ≡ true → Found (x ∷ xs) i 0
    here e = ((i, x), ap (λ v. slice_get (cond v ((i, x) ∷ passing (i + 1) xs) (passing (i + 1) xs)) 0) e, 0, omega arith, omega arith, e, refl)

  found : (xs : List (List ℕ)) (i place : ℕ) → place < count_by p xs → Found xs i place
  found [] i place h = absurd (omega arith)
  found (x ∷ xs) i zero h = elim (cases_Bool (p x)) [
    | inl y ↦ here x xs i y
    | inr z ↦ behind x xs i false z 0 (found xs (i + 1) 0 (omega (arith, h, counted x xs i false z xs)))
  ]
  found (x ∷ xs) i (suc place) h = elim (cases_Bool (p x)) [
    | inl y ↦ behind x xs i true y place (found xs (i + 1) place (omega (arith, h, counted x xs i true y xs)))
    | inr z ↦ behind x xs i false z (suc place) (found xs (i + 1) (suc place) (omega (arith, h, counted x xs i false z xs)))
  ]

  -- as many numbered rows pass as rows do
  passed : (xs : List (List ℕ)) (i : ℕ) → length (passing i xs) ≡ count_by p xs
  passed [] i = refl
  passed (x ∷ xs) i = elim (cases_Bool (p x)) [
    | inl y ↦ omega (arith, ap (λ v. length (cond v ((i, x) ∷ passing (i + 1) xs) (passing (i + 1) xs))) y, passed xs (i + 1), counted x xs i true y xs)
    | inr z ↦ omega (arith, ap (λ v. length (cond v ((i, x) ∷ passing (i + 1) xs) (passing (i + 1) xs))) z, passed xs (i + 1), counted x xs i false z xs)
  ]

-- the mask of a row that is lent, and a test of it, are those of the row at its number
module _ (count : ℕ) (bs : List ℕ) (lent : List (List ℕ)) (is : lent ≡ first_chunks ROW_SIZE count bs) where
  pub all_lent : length lent ≡ count
  all_lent = ap length is ∙ length_rows count bs

  pub lent_mask : (r mask : ℕ) → r < count → mask ≡ mask_of (get_or lent r []) → mask ≡ mask_of (row_at bs r)
  lent_mask r mask h cut = cut ∙ ap (λ l. mask_of (get_or l r [])) is ∙ ap mask_of (row_is count bs r h)

  pub row_marked : (seat r mask : ℕ) (answer : Bool) → r < length lent → mask ≡ mask_of (get_or lent r []) → answer ≡ marked mask seat
      → answer ≡ marks_at bs seat r
  row_marked seat r mask answer h cut test = test ∙ ap (λ m. marked m seat) (lent_mask r mask (omega (arith, all_lent)) cut)

  -- as many rows are picked as lent ones pass the test
  module _ {L : Type 0} (f : ℕ → L) (seat : ℕ) where
    first_counted : (n : ℕ) → n ≤ count → length (picks (marks_at bs seat) f n) ≡ count_by (λ row. marked (mask_of row) seat) (take n lent)
    first_counted zero h = refl
    first_counted (suc n) h =
        let before = first_counted n (omega arith) in
        let within : n < length lent = omega (arith, all_lent) in
        let same : marked (mask_of (get_or lent n [])) seat ≡ marks_at bs seat n = row_marked seat n _ _ within refl refl in
        subst (λ m. length (picks (marks_at bs seat) f m) ≡ count_by (λ row. marked (mask_of row) seat) (take m lent)) (add-one n)
        (elim (cases_Bool (marks_at bs seat n)) [
          | inl y ↦ picks_yes (marks_at bs seat) f n y ∙ ap (λ k. k + 1) before ∙ sym (count_by_more_yes _ lent n [] within (same ∙ y))
          | inr z ↦ picks_not (marks_at bs seat) f n z ∙ before ∙ sym (count_by_more_no _ lent n [] within (same ∙ z))
        ])

    pub all_counted : length (picks (marks_at bs seat) f count) ≡ count_by (λ row. marked (mask_of row) seat) lent
    all_counted = first_counted count (omega arith) ∙ ap (count_by (λ row. marked (mask_of row) seat)) (take_all count lent (omega (arith, all_lent)))

    -- the row at a place among those that pass
    pub place_found : (place : ℕ) → place < length (picks (marks_at bs seat) f count)
        → (q : ℕ × List ℕ) × (slice_get (filter (λ (e : ℕ × List ℕ). marked (mask_of e.1) seat) (enumerate_from 0 lent)) place ≡ Some q)
        × (q.0 < count) × (marks_at bs seat q.0 ≡ true) × (length (picks (marks_at bs seat) f q.0) ≡ place)
    place_found place h =
        let r = found (λ row. marked (mask_of row) seat) lent 0 place (omega (arith, h, all_counted)) in
        let same : r.2 ≡ r.0.0 = omega (arith, r.3) in
        let below : r.2 < count = omega (arith, r.4, all_lent) in (
          r.0,
          r.1,
          omega (arith, same, below),
          subst (λ n. marks_at bs seat n ≡ true) same (sym (row_marked seat r.2 _ _ r.4 refl refl) ∙ r.5),
          subst (λ n. length (picks (marks_at bs seat) f n) ≡ place) same (first_counted r.2 (omega (arith, below)) ∙ r.6),
        )

    -- a row that is found stands at a place below how many pass
    pub place_within : (place : ℕ) (q : ℕ × List ℕ) → slice_get (filter (λ (e : ℕ × List ℕ). marked (mask_of e.1) seat) (enumerate_from 0 lent)) place ≡ Some q
        → place < length (picks (marks_at bs seat) f count)
    place_within place q is =
        omega (arith, slice_get_within _ place q is, passed (λ row. marked (mask_of row) seat) lent 0, all_counted)

-- a number as 32 bits, which is held to the greatest of them
pub clamped : {E : Type 0} (r : Result ℕ E) (x : ℕ) → OkIff r (x < 2 ^ 32) x → result_unwrap_or r (2 ^ 32 - 1) ≡ min x (2 ^ 32 - 1)
clamped (Ok y) x h = let below = h.0 in h.1 ∙ omega arith
clamped (Err e) x h = ⊎_elim (λ below. absurd (h below)) (λ above. omega arith) (cases_lt x (2 ^ 32))

-- what an answer is of which a reading is known
module _ {A B : Type 0} (read : A → B) where
  pub some_read : (o : Option A) (x : A) (y : B) → option_map read o ≡ Some y → o ≡ Some x → read x ≡ y
  some_read o x y e is = ap (λ u. unwrap_or u y) (sym (ap (option_map read) is) ∙ e)

  pub none_read : (o : Option A) (y : B) → option_map read o ≡ Some y → o ≡ None → ⊥
  none_read o y e is = true≢false (ap is_some (sym e ∙ ap (option_map read) is))
