-- What follows where every check passed, and where checks look.
use Rattle.std.specs.Prelude.{◌≡◌, ℕ, zero, suc, ◌+◌, ◌<◌, ◌≤◌, Bool, true, false, not, cond, ◌⊎◌, List, [], ◌∷◌, length, Some, None, Option, slice_index, refl}
use Rattle.std.specs.List.{position, position_from}
use Rattle.std.specs.Option.{option_map}
use Rattle.std.proofs.Common.{inl, inr, sym, ap, ◌∙◌, arith}
use Rattle.std.proofs.lemmas.Iterator.Adapters.{position_from-zero}
use Rattle.letters.specs.Checks.{check, first_failing}
use Rattle.letters.specs.declared.body.TheConstants.{BODY_SPACE}
use Rattle.letters.specs.Forms.{Near}

pub some_none : {X : Type 0} (place : ℕ) → Some place ≡ None → X
some_none place e = let z : ◌≡◌ {A = ℕ} 0 1 = cc in absurd (omega arith)

pub passed : (test : Bool) (place : ℕ) (later : Option ℕ) → check test place later ≡ None → (test ≡ true) × (later ≡ None)
passed true place later e = (refl, e)
passed false place later e = some_none place e

-- a check that names a place failed there, or later
pub failed : (test : Bool) (at : ℕ) (later : Option ℕ) (place : ℕ) → check test at later ≡ Some place
    → ((test ≡ false) × (place ≡ at)) ⊎ ((test ≡ true) × (later ≡ Some place))
failed true at later place e = inr (refl, e)
failed false at later place e = inl (refl, cc)

pub near_check : (test : Bool) (place : ℕ) (later : Option ℕ) → place ≤ BODY_SPACE → Near later → Near (check test place later)
near_check true place later h k = k
near_check false place later h k = h

pub near_cond : (test : Bool) (x y : Option ℕ) → Near x → Near y → Near (cond test x y)
near_cond true x y h k = h
near_cond false x y h k = k

cond_check : (test : Bool) (place : ℕ) (x y : Option ℕ) → x ≡ y → cond (not test) (Some place) x ≡ check test place y
cond_check true place x y e = e
cond_check false place x y e = refl

check_on : (test : Bool) (start place : ℕ) (x y : Option ℕ) → option_map (λ k. start + k) x ≡ y
    → option_map (λ k. start + k) (check test place x) ≡ check test (start + place) y
check_on true start place x y e = e
check_on false start place x y e = refl

module _ (test : ℕ → Bool) where
  position_failing : (place : ℕ) (bs : List ℕ) → position_from (λ b. not (test b)) place bs ≡ first_failing test place bs
  position_failing place [] = refl
  position_failing place (b ∷ bs) = cond_check (test b) place _ _ (position_failing (place + 1) bs)

  -- the first element that fails a test is the first that passes the opposite one
  pub first_position : (bs : List ℕ) → position (λ b. not (test b)) bs ≡ first_failing test 0 bs
  first_position bs = position_from-zero (λ b. not (test b)) bs ∙ position_failing 0 bs

  failing_on : (start place : ℕ) (bs : List ℕ) → option_map (λ k. start + k) (first_failing test place bs) ≡ first_failing test (start + place) bs
  failing_on start place [] = refl
  failing_on start place (b ∷ bs) =
      check_on (test b) start place _ _ (failing_on start (place + 1) bs ∙ ap (λ k. first_failing test k bs) (omega arith))

  -- so too where the list begins at another place, which is added to what is found
  pub failing_after : (start : ℕ) (bs : List ℕ) → option_map (λ k. start + k) (position (λ b. not (test b)) bs) ≡ first_failing test start bs
  failing_after start bs =
      ap (option_map (λ k. start + k)) (first_position bs) ∙ failing_on start 0 bs ∙ ap (λ k. first_failing test k bs) (omega arith)

  -- the first that fails does, and those before it pass
  pub record Fails (start : ℕ) (bs : List ℕ) (place : ℕ) : Type 0 where
    pub at : ℕ
    pub is : place ≡ start + at
    pub inside : at < length bs
    pub fails : test (slice_index bs at) ≡ false
    pub before : (k : ℕ) → k < at → test (slice_index bs k) ≡ true

  pub fails_at : (start : ℕ) (bs : List ℕ) (place : ℕ) → first_failing test start bs ≡ Some place → Fails start bs place
  fails_at start [] place e = some_none place (sym e)
  fails_at start (b ∷ bs) place e = go (failed (test b) start (first_failing test (start + 1) bs) place e) (fails_at (start + 1) bs place)
    where
      passing : (r : Fails (start + 1) bs place) → test b ≡ true → (k : ℕ) → k < suc r.at → test (slice_index (b ∷ bs) k) ≡ true
      passing r here zero h = here
      passing r here (suc k) h = r.before k (omega arith)

      go : ((test b ≡ false) × (place ≡ start)) ⊎ ((test b ≡ true) × (first_failing test (start + 1) bs ≡ Some place))
          → (first_failing test (start + 1) bs ≡ Some place → Fails (start + 1) bs place) → Fails start (b ∷ bs) place
      go (inl here) next = record { at = 0; is = omega (arith, here.1); inside = omega arith; fails = here.0; before = λ k h. absurd (omega arith) }
      go (inr later) next =
          let r = next later.1 in
          record { at = suc r.at; is = omega (arith, r.is); inside = omega (arith, r.inside); fails = r.fails; before = passing r later.0 }

  -- none fails just when each passes
  pub each_passes : (place : ℕ) (bs : List ℕ) → first_failing test place bs ≡ None → (k : ℕ) → k < length bs → test (slice_index bs k) ≡ true
  each_passes place [] e k h = absurd (omega arith)
  each_passes place (b ∷ bs) e zero h = (passed (test b) place (first_failing test (place + 1) bs) e).0
  each_passes place (b ∷ bs) e (suc k) h =
      each_passes (place + 1) bs (passed (test b) place (first_failing test (place + 1) bs) e).1 k (omega arith)

  pub none_fails : (place : ℕ) (bs : List ℕ) → ((k : ℕ) → k < length bs → test (slice_index bs k) ≡ true) → first_failing test place bs ≡ None
  none_fails place [] each = refl
  none_fails place (b ∷ bs) each =
      let here : test b ≡ true = each 0 (omega arith) in
      let later = none_fails (place + 1) bs (λ k h. each (suc k) (omega arith)) in
      rw here later

  pub near_failing : (place : ℕ) (bs : List ℕ) → place + length bs ≤ BODY_SPACE → Near (first_failing test place bs)
  near_failing place [] h = tt
  near_failing place (b ∷ bs) h = near_check (test b) place _ (omega arith) (near_failing (place + 1) bs (omega arith))
