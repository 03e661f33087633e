-- A pair of lawful carriers is lawful.
use Rattle.std.specs.Prelude.{◌≡◌, ℕ, Bool, true, false, List, [], ◌∷◌, ◌++◌, ◌==◌, refl}
use Rattle.std.proofs.Common.{sym, ap, subst, ◌∙◌, ⊎_elim, arith}
use Rattle.std.proofs.lemmas.Bool.{eqb-true, and_left, and_from, cond-true, cases_Bool}
use Rattle.carriers.specs.Meaning.{Meaning, LawfulMeaning}
use Rattle.pair.specs.Pairs.{Rested, joined, both}

module _ {L : Type 0} where
  nil_left : (xs ys : List L) → xs ++ ys ≡ [] → xs ≡ []
  nil_left [] ys e = refl
  nil_left (x ∷ xs) ys e = cc

  nil_right : (xs ys : List L) → xs ++ ys ≡ [] → ys ≡ []
  nil_right [] ys e = e
  nil_right (x ∷ xs) ys e = let z : ◌≡◌ {A = ℕ} 0 1 = cc in absurd (omega arith)

  pub both_level : (m n : Meaning L) (b : Bool) → b ≡ (m.seats == n.seats) → b ≡ true → both m n ≡ joined m n
  both_level m n b e t = cond-true _ _ _ (sym e ∙ t)

  pub both_alone : (m n : Meaning L) (b : Bool) → b ≡ (m.seats == n.seats) → b ≡ false → both m n ≡ m
  both_alone m n b e t = rw (sym e ∙ t) refl

  lawful_joined : (m n : Meaning L) → m.seats ≡ n.seats → LawfulMeaning m → LawfulMeaning n → LawfulMeaning (joined m n)
  lawful_joined m n s a b = record {
    some_seats = a.some_seats;
    few_seats = a.few_seats;
    no_waiting = λ k h. let e = a.no_waiting k h in let f = b.no_waiting k (omega arith) in rw (e, f);
    no_fits = λ k h. and_left _ _ (a.no_fits k h);
    empty_fits = λ none p h.
        and_from _ _
        (a.empty_fits (λ k. nil_left _ _ (none k)) p h)
        (b.empty_fits (λ k. nil_right (m.waiting k) _ (none k)) p (omega arith));
  }

  pub lawful_both : (m n : Meaning L) → LawfulMeaning m → LawfulMeaning n → LawfulMeaning (both m n)
  lawful_both m n a b =
      ⊎_elim
      (λ t. subst LawfulMeaning (sym (both_level m n _ refl t)) (lawful_joined m n (eqb-true _ _ t) a b))
      (λ f. subst LawfulMeaning (sym (both_alone m n _ refl f)) a)
      (cases_Bool (m.seats == n.seats))

-- a refusal leaves what a pair means, since it leaves what each of the two means
module _ {C D L : Type 0} (mean : C → Meaning L) (mean' : D → Meaning L) (rests : C → C → Type 0) (rests' : D → D → Type 0)
    (still : (c after : C) → rests c after → mean after ≡ mean c) (still' : (d after : D) → rests' d after → mean' after ≡ mean' d) where
  pub still_both : (c c' : C) (d d' : D) → Rested rests c c' → Rested rests' d d' → both (mean c') (mean' d') ≡ both (mean c) (mean' d)
  still_both c c' d d' one two =
      let first : mean c' ≡ mean c = ⊎_elim (λ same. ap mean same) (still c c') one in
      let second : mean' d' ≡ mean' d = ⊎_elim (λ same. ap mean' same) (still' d d') two in
      λ i. both (first i) (second i)
