-- What a write to a table leaves, and what it leaves of each part.
use Rattle.std.proofs.Common.{◌≡◌, ℕ, zero, suc, ◌+◌, ◌-◌, ◌*◌, ◌<◌, ◌≤◌, ◌≢◌, ◌⊎◌, List, [], ◌∷◌, ◌++◌, length, get_or, take, drop, set, sym, ap, ◌∙◌, inl, inr, ⊎_elim, mul-le-mul_right, suc-mul, arith}
use Rattle.std.specs.List.{remove}
use Rattle.std.proofs.lemmas.List.Edits.{length-paste, take-paste, drop-paste, length-remove, get_or-remove_below, get_or-remove_above}
use Rattle.std.proofs.lemmas.List.{drop-set-add, drop-set-lt, take-set-le, take_more_set, length-drop, length-take-le, get_or-take, get_or-drop, get_or_append_left, get_or-append_right, same_lists}
use Rattle.std.proofs.lemmas.Bool.{cases_lt}
use Rattle.seats.specs.Rooms.{table_closed_up}

-- what holds of the first k elements, and of the new one, holds of the first k after the write
pub set-each_below : {X : Type 0} (P : X → Type 0) (d : X) (k : ℕ) (xs : List X) (i : ℕ) (x : X) → P x → ((t : ℕ) → t < k → P (get_or xs t d)) → (t : ℕ) → t < k → P (get_or (set xs i x) t d)
set-each_below P d k [] i x new old t lt = old t lt
set-each_below P d k (y ∷ ys) zero x new old zero lt = new
set-each_below P d k (y ∷ ys) zero x new old (suc t) lt = old (suc t) lt
set-each_below P d k (y ∷ ys) (suc i) x new old zero lt = old zero lt
set-each_below P d zero (y ∷ ys) (suc i) x new old (suc t) lt = absurd (omega arith)
set-each_below P d (suc k) (y ∷ ys) (suc i) x new old (suc t) lt = set-each_below P d k ys i x new (λ j h. old (suc j) (omega arith)) t (omega arith)

-- what holds of each element, and of the new one, holds of each after the write
pub set_each : {X : Type 0} (P : X → Type 0) (d : X) (xs : List X) (i : ℕ) (x : X) → P x → ((t : ℕ) → P (get_or xs t d)) → (t : ℕ) → P (get_or (set xs i x) t d)
set_each P d [] i x new old t = old t
set_each P d (y ∷ ys) zero x new old zero = new
set_each P d (y ∷ ys) zero x new old (suc t) = old (suc t)
set_each P d (y ∷ ys) (suc i) x new old zero = old zero
set_each P d (y ∷ ys) (suc i) x new old (suc t) = set_each P d ys i x new (λ k. old (suc k)) t

-- a part of a table: n places from a on
abbrev pub part : {X : Type 0} → ℕ → ℕ → List X → List X
part a n xs = take n (drop a xs)

-- a write behind a part makes it longer by one
pub part_push : {X : Type 0} (xs : List X) (a n : ℕ) (y : X) → a + n < length xs → part a (n + 1) (set xs (a + n) y) ≡ part a n xs ++ y ∷ []
part_push xs a n y lt =
    ap (take (n + 1)) (drop-set-add a xs n y) ∙ take_more_set (drop a xs) n y (omega (arith, length-drop a xs))

-- a write outside a part leaves it
pub part_set_out : {X : Type 0} (xs : List X) (a n k : ℕ) (y : X) → (k < a) ⊎ (a + n ≤ k) → part a n (set xs k y) ≡ part a n xs
part_set_out xs a n k y out =
    ⊎_elim
    (λ before. ap (take n) (drop-set-lt a xs k y before))
    (λ after.
    let j = k - a in
    let is : k ≡ a + j = omega arith in
    ap (λ i. take n (drop a (set xs i y))) is ∙ ap (take n) (drop-set-add a xs j y) ∙ take-set-le n (drop a xs) j y (omega arith))
    out

-- the rows of different seats lie apart
pub rows_apart : (w s t x n : ℕ) → s ≢ t → x < w → n ≤ w → (s * w + x < t * w) ⊎ (t * w + n ≤ s * w + x)
rows_apart w s t x n ne few small =
    ⊎_elim
    (λ lt. inl (omega (arith, suc-mul s w, mul-le-mul_right {m = suc s} {n = t} w (omega arith))))
    (λ ge. inr (omega (arith, suc-mul t w, mul-le-mul_right {m = suc t} {n = s} w (omega arith))))
    (cases_lt s t)

-- the elements of a table in which n letters moved down by one
module _ {X : Type 0} (xs : List X) (at n : ℕ) (fits : at + n < length xs) (i : ℕ) (d : X) where
  front : i < at + n → get_or (table_closed_up xs at n) i d ≡ get_or (take at xs ++ take n (drop (at + 1) xs)) i d
  front lt =
      sym (get_or-take (at + n) (table_closed_up xs at n) i d lt)
      ∙ ap (λ l. get_or l i d) (take-paste xs at (drop (at + 1) xs) n (omega arith) (omega (arith, length-drop (at + 1) xs)))

  pub closed_before : i < at → get_or (table_closed_up xs at n) i d ≡ get_or xs i d
  closed_before lt =
      let size = length-take-le at xs (omega arith) in
      front (omega arith) ∙ get_or_append_left (take at xs) _ d i (omega arith) ∙ get_or-take at xs i d lt

  pub closed_within : at ≤ i → i < at + n → get_or (table_closed_up xs at n) i d ≡ get_or xs (i + 1) d
  closed_within ge lt =
      let size = length-take-le at xs (omega arith) in
      front lt
      ∙ get_or-append_right (take at xs) (take n (drop (at + 1) xs)) at i d size ge
      ∙ get_or-take n (drop (at + 1) xs) (i - at) d (omega arith)
      ∙ get_or-drop (at + 1) xs (i - at) d
      ∙ ap (λ k. get_or xs k d) (omega arith)

  pub closed_after : at + n ≤ i → get_or (table_closed_up xs at n) i d ≡ get_or xs i d
  closed_after ge =
      let there : at + n + (i - (at + n)) ≡ i = omega arith in
      ap (λ k. get_or (table_closed_up xs at n) k d) (sym there)
      ∙ sym (get_or-drop (at + n) (table_closed_up xs at n) (i - (at + n)) d)
      ∙ ap (λ l. get_or l (i - (at + n)) d) (drop-paste xs at (drop (at + 1) xs) n (omega arith) (omega (arith, length-drop (at + 1) xs)))
      ∙ get_or-drop (at + n) xs (i - (at + n)) d
      ∙ ap (λ k. get_or xs k d) there

-- closing up keeps the length of the table
pub length-closed : {X : Type 0} (xs : List X) (at n : ℕ) → at + n < length xs → length (table_closed_up xs at n) ≡ length xs
length-closed xs at n fits = length-paste xs at (drop (at + 1) xs) n (omega arith) (omega (arith, length-drop (at + 1) xs))

-- a part within the table is as long as asked
pub length_part : {X : Type 0} (xs : List X) (a n : ℕ) → a + n ≤ length xs → length (part a n xs) ≡ n
length_part xs a n fits = length-take-le n (drop a xs) (omega (arith, length-drop a xs))

-- an element of a part
pub get_d_part : {X : Type 0} (xs : List X) (a n i : ℕ) (d : X) → i < n → get_or (part a n xs) i d ≡ get_or xs (a + i) d
get_d_part xs a n i d lt = get_or-take n (drop a xs) i d lt ∙ get_or-drop a xs i d

-- a part that closes up over its letter at k loses that letter
module _ {X : Type 0} (xs : List X) (a k n : ℕ) (lt : k < n) (fits : a + n ≤ length xs) where
  same_length : length (part a (n - 1) (table_closed_up xs (a + k) (n - k - 1))) ≡ length (remove (part a n xs) k)
  same_length =
      let whole = length_part xs a n fits in
      let less = length-remove (part a n xs) k (omega arith) in
      let kept = length-closed xs (a + k) (n - k - 1) (omega arith) in
      length_part (table_closed_up xs (a + k) (n - k - 1)) a (n - 1) (omega arith) ∙ omega arith

  pub part_closed : part a (n - 1) (table_closed_up xs (a + k) (n - k - 1)) ≡ remove (part a n xs) k
  part_closed =
      let whole = length_part xs a n fits in
      let kept = length-closed xs (a + k) (n - k - 1) (omega arith) in
      let size = length_part (table_closed_up xs (a + k) (n - k - 1)) a (n - 1) (omega arith) in
      same_lists _ _ same_length (λ i d h.
      let inside : i < n - 1 = omega arith in
      get_d_part (table_closed_up xs (a + k) (n - k - 1)) a (n - 1) i d inside
      ∙ ⊎_elim
      (λ below. closed_before xs (a + k) (n - k - 1) (omega arith) (a + i) d (omega arith) ∙ sym (get_d_part xs a n i d (omega arith)) ∙ sym (get_or-remove_below (part a n xs) k d i below (omega arith)))
      (λ above. closed_within xs (a + k) (n - k - 1) (omega arith) (a + i) d (omega arith) (omega arith) ∙ ap (λ j. get_or xs j d) (omega arith) ∙ sym (get_d_part xs a n (i + 1) d (omega arith)) ∙ sym (get_or-remove_above (part a n xs) k d i above (omega arith)))
      (cases_lt i k))

-- a part that lies apart from the letters that moved stays
pub part_closed_out : {X : Type 0} (xs : List X) (at n b m : ℕ) → at + n < length xs → b + m ≤ length xs → (b + m ≤ at) ⊎ (at + n ≤ b) → part b m (table_closed_up xs at n) ≡ part b m xs
part_closed_out xs at n b m fits inside out =
    let kept = length-closed xs at n fits in
    let size = length_part (table_closed_up xs at n) b m (omega arith) in
    same_lists _ _ (size ∙ sym (length_part xs b m inside)) (λ i d h.
    let lt : i < m = omega arith in
    get_d_part (table_closed_up xs at n) b m i d lt
    ∙ ⊎_elim (λ before. closed_before xs at n fits (b + i) d (omega arith)) (λ after. closed_after xs at n fits (b + i) d (omega arith)) out
    ∙ sym (get_d_part xs b m i d lt))
