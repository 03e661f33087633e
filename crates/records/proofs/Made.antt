-- Arrays that are made place by place.
use Rattle.std.proofs.Common.{◌≡◌, ℕ, zero, suc, ◌+◌, ◌<◌, ◌≤◌, List, get_or, sym, ap, ◌∙◌, subst, ⊎_elim, arith}
use Rattle.std.proofs.lemmas.Bool.{cases_eq}
use Rattle.std.specs.Array.{IsFromFnResultFrom}
use Rattle.std.specs.Fn.{Called}
use denote.Param.Members.{Mut}

module _ {F : Type 0} (g : Mut F (ℕ × Unit {0}) ℕ) (f : F) (h : ℕ → ℕ) (ys : List ℕ)
    (calls : (x y : ℕ) (q : F) → Called g f (x, tt) y q → (q ≡ f) × (y ≡ h x)) where
  -- what a call at each place gave, if each call gives what h says
  pub made_at : (n i : ℕ) → IsFromFnResultFrom g f ys i n → (k : ℕ) → i ≤ k → k < i + n → get_or ys k 0 ≡ h k
  made_at zero i each k le lt = absurd (omega arith)
  made_at (suc n) i each k le lt =
      let call = calls i each.1 each.0 each.3 in
      ⊎_elim
      (λ same. ap (λ j. get_or ys j 0) same ∙ each.2.1 0 ∙ call.1 ∙ ap h (sym same))
      (λ other. made_at n (i + 1) (subst (λ q. IsFromFnResultFrom g q ys (i + 1) n) call.0 each.4) k (omega arith) (omega arith))
      (cases_eq k i)
