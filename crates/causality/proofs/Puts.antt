-- What a put does to who waits: a copy is there, nothing is lost, and nothing else comes.
use Rattle.std.proofs.Common.{◌≡◌, ℕ, zero, suc, ◌⊎◌, List, [], ◌∷◌, ◌++◌, replicate, sym, refl, subst, inl, inr, ⊎_elim}
use Rattle.std.specs.List.Sorted.{IsPermutation}
use Rattle.std.specs.List.{AllByRecursion as All}
use Rattle.std.proofs.lemmas.List.Sorted.{IsPermutation-sym}
use Rattle.std.proofs.ByRecursion.{all_shuffled}
use Rattle.carriers.specs.Putting.{Gains}
use Rattle.letters.specs.Lists.{◌∈◌, here, there}
use Rattle.causality.proofs.Lists.{in_none, in_either, in_right}

module _ {A : Type 0} where
  all_in : (P : A → Type 0) (l : List A) → ((x : A) → x ∈ l → P x) → All P l
  all_in P [] each = tt
  all_in P (x ∷ l) each = (each x (here refl), all_in P l (λ y i. each y (there i)))

  in_all : (P : A → Type 0) (l : List A) (x : A) → All P l → x ∈ l → P x
  in_all P [] x all i = absurd (in_none i)
  in_all P (y ∷ l) x all (here e) = subst P (sym e) all.0
  in_all P (y ∷ l) x all (there i) = in_all P l x all.1 i

  -- a reordering has the same elements
  in_shuffled : (xs ys : List A) (x : A) → IsPermutation xs ys → x ∈ xs → x ∈ ys
  in_shuffled xs ys x s i =
      in_all (λ y. y ∈ ys) xs x (all_shuffled (λ y. y ∈ ys) ys xs (IsPermutation-sym xs ys s) (all_in (λ y. y ∈ ys) ys (λ y j. j))) i

  in_replicate : (n : ℕ) (x y : A) → y ∈ replicate n x → y ≡ x
  in_replicate zero x y i = absurd (in_none i)
  in_replicate (suc n) x y (here e) = e
  in_replicate (suc n) x y (there i) = in_replicate n x y i

  module _ (x : A) (xs ys : List A) (g : Gains x xs ys) where
    pub gains_copy : x ∈ ys
    gains_copy = in_shuffled (replicate (suc g.more) x ++ xs) ys x g.reordered (here refl)

    pub gains_kept : (y : A) → y ∈ xs → y ∈ ys
    gains_kept y i = in_shuffled (replicate (suc g.more) x ++ xs) ys y g.reordered (in_right (replicate (suc g.more) x) i)

    pub gains_only : (y : A) → y ∈ ys → (y ≡ x) ⊎ (y ∈ xs)
    gains_only y i = ⊎_elim {C = (y ≡ x) ⊎ (y ∈ xs)}
        (λ (j : y ∈ replicate (suc g.more) x). inl (in_replicate (suc g.more) x y j)) (λ (j : y ∈ xs). inr j)
        (in_either (replicate (suc g.more) x) xs
        (in_shuffled ys (replicate (suc g.more) x ++ xs) y (IsPermutation-sym (replicate (suc g.more) x ++ xs) ys g.reordered) i))
