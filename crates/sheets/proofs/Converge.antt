-- Two lists of the same elements, in each of which none is related to a later one, give the same result.
use Rattle.std.proofs.Common.{◌≡◌, ℕ, suc, ◌+◌, ◌<◌, ◌≤◌, ◌⊎◌, List, [], ◌∷◌, length, fold, sym, refl, ap, ◌∙◌, subst, inl, inr, arith}
use Rattle.letters.specs.Lists.{NoPair, SameElements, ◌∈◌, here, there}

-- zs is ys with one x taken out
data Without {L : Type 0} (x : L) : List L → List L → Type 0 where
  first : {ys : List L} → Without x (x ∷ ys) ys
  later : {y : L} {ys zs : List L} → Without x ys zs → Without x (y ∷ ys) (y ∷ zs)

record Found {L : Type 0} (x : L) (ys : List L) : Type 0 where
  rest : List L
  out : Without x ys rest

module _ {L : Type 0} where
  find : (x : L) (ys : List L) → x ∈ ys → Found x ys
  find x [] i = elim i [ ]
  find x (y ∷ ys) (here e) = record { rest = ys; out = subst (λ (z : L). Without x (z ∷ ys) ys) e first }
  find x (y ∷ ys) (there i) = let f = find x ys i in record { rest = y ∷ f.rest; out = later f.out }

  was_in : {x : L} {ys zs : List L} → Without x ys zs → x ∈ ys
  was_in first = here refl
  was_in (later w) = there (was_in w)

  still_in : {x : L} {ys zs : List L} → Without x ys zs → (z : L) → z ∈ zs → z ∈ ys
  still_in first z i = there i
  still_in (later w) z (here e) = here e
  still_in (later w) z (there i) = there (still_in w z i)

  or_left : {x : L} {ys zs : List L} → Without x ys zs → (z : L) → z ∈ ys → (z ≡ x) ⊎ (z ∈ zs)
  or_left first z (here e) = inl e
  or_left first z (there i) = inr i
  or_left (later w) z (here e) = inr (here e)
  or_left (later w) z (there i) = elim (or_left w z i) [ inl e ↦ inl e | inr j ↦ inr (there j) ]

  one_shorter : {x : L} {ys zs : List L} → Without x ys zs → length ys ≡ suc (length zs)
  one_shorter first = refl
  one_shorter (later w) = ap suc (one_shorter w)

-- R relates each element to itself, so that no element stands twice where none is related to a later one
module _ {L : Type 0} (R : L → L → Type 0) (itself : (x : L) → R x x) where
  still_apart : {x : L} {ys zs : List L} → Without x ys zs → NoPair R ys → NoPair R zs
  still_apart first o = o.1
  still_apart (later w) o = (λ z i. o.0 z (still_in w z i), still_apart w o.1)

  no_longer_in : {x : L} {ys zs : List L} → Without x ys zs → NoPair R ys → x ∈ zs → ⊥
  no_longer_in {x} first o i = o.0 x i (itself x)
  no_longer_in {x} (later w) o (here e) = o.0 x (was_in w) (subst (λ (z : L). R z x) e (itself x))
  no_longer_in {x} (later w) o (there i) = no_longer_in w o.1 i

  -- what is left of two lists of the same elements, with the same one taken out
  same_left : {x : L} (xs : List L) {ys zs : List L} → NoPair R (x ∷ xs) → NoPair R ys → SameElements (x ∷ xs) ys →
      Without x ys zs → SameElements xs zs
  same_left {x} xs {ys} {zs} ox oy same w z = (forth, back)
    where
      forth : z ∈ xs → z ∈ zs
      forth i = elim (or_left w z ((same z).0 (there i))) [ inl e ↦ absurd (ox.0 z i (subst (λ (y : L). R x y) (sym e) (itself x))) | inr j ↦ j ]

      back : z ∈ zs → z ∈ xs
      back i = elim ((same z).1 (still_in w z i)) [ here e ↦ absurd (no_longer_in w oy (subst (λ (y : L). y ∈ zs) e i)) | there j ↦ j ]

  module _ {M : Type 0} (enter : M → L → M) (count : M → ℕ) (places : ℕ)
      (adds : (m : M) (x : L) → count m < places → count (enter m x) ≡ count m + 1)
      (commutes : (m : M) (x y : L) → count m + 2 ≤ places → ¬ (R x y) → ¬ (R y x) → enter (enter m x) y ≡ enter (enter m y) x) where
    -- an element that is related to none of the others may be entered first
    to_front : {x : L} {ys zs : List L} (m : M) → Without x ys zs → NoPair R ys → ((z : L) → z ∈ zs → ¬ (R x z)) →
        count m + length ys ≤ places → fold enter m ys ≡ fold enter (enter m x) zs
    to_front m first o free fits = refl
    to_front {x} m (later {y} {ys} {zs} w) o free fits =
        let shorter = one_shorter w in
        let room : count m + 2 ≤ places = omega arith in
        let added = adds m y (omega arith) in
        to_front (enter m y) w o.1 (λ z i. free z (there i)) (omega arith)
        ∙ ap (λ n. fold enter n zs) (commutes m y x room (o.0 x (was_in w)) (free y (here refl)))

    record Agree (m : M) (xs ys : List L) : Type 0 where
      long : length xs ≡ length ys
      same : fold enter m xs ≡ fold enter m ys

    agree : (m : M) (xs ys : List L) → NoPair R xs → NoPair R ys → SameElements xs ys → count m + length xs ≤ places → Agree m xs ys
    agree m [] [] ox oy same fits = record { long = refl; same = refl }
    agree m [] (y ∷ ys) ox oy same fits = absurd (elim ((same y).1 (here refl)) [ ])
    agree m (x ∷ xs) ys ox oy same fits =
        let f = find x ys ((same x).0 (here refl)) in
        let w = f.out in
        let left = same_left xs ox oy same w in
        let added = adds m x (omega arith) in
        let rest = agree (enter m x) xs f.rest ox.1 (still_apart w oy) left (omega arith) in
        let shorter = one_shorter w in
        let as_long = rest.long in
        record {
          long = omega arith;
          same = rest.same ∙ sym (to_front m w oy (λ z i. ox.0 z ((left z).1 i)) (omega arith));
        }

    pub same_fold : (m : M) (xs ys : List L) → NoPair R xs → NoPair R ys → SameElements xs ys → count m + length xs ≤ places → fold enter m xs ≡ fold enter m ys
    same_fold m xs ys ox oy same fits = (agree m xs ys ox oy same fits).same
