-- What a filter keeps of rows that pass a test in pairs.
use Rattle.std.proofs.Common.{◌≡◌, Bool, true, false, List, [], ◌∷◌, filter, refl, ap, inl, inr}
use Rattle.std.proofs.lemmas.Bool.{cases_Bool, and_parts, and_from}
use Rattle.sheets.specs.Placing.{pairs_pass, passes_each}

module _ {X : Type 0} (test : X → X → Bool) (keep : X → Bool) where
  -- rows that pass the test with r: all of them are kept, if each such row is
  module _ (r : X) where
    pub all_kept : (rs : List X) → passes_each test r rs ≡ true → ((s : X) → test r s ≡ true → keep s ≡ true)
        → filter keep rs ≡ rs
    all_kept [] pass each = refl
    all_kept (s ∷ ss) pass each =
        let both = and_parts (test r s) (passes_each test r ss) pass in
        rw (each s both.0) (ap (λ l. s ∷ l) (all_kept ss both.1 each))

    pub none_kept : (rs : List X) → passes_each test r rs ≡ true → ((s : X) → test r s ≡ true → keep s ≡ false)
        → filter keep rs ≡ []
    none_kept [] pass each = refl
    none_kept (s ∷ ss) pass each =
        let both = and_parts (test r s) (passes_each test r ss) pass in
        rw (each s both.0) (none_kept ss both.1 each)

    pub passes_each_kept : (rs : List X) → passes_each test r rs ≡ true → passes_each test r (filter keep rs) ≡ true
    passes_each_kept [] pass = refl
    passes_each_kept (s ∷ ss) pass =
        let both = and_parts (test r s) (passes_each test r ss) pass in
        let rest = passes_each_kept ss both.1 in
        elim (cases_Bool (keep s)) [ inl e ↦ rw e (and_from (test r s) _ both.0 rest) | inr e ↦ rw e rest ]

  pub pairs_pass_kept : (rows : List X) → pairs_pass test rows ≡ true → pairs_pass test (filter keep rows) ≡ true
  pairs_pass_kept [] up = refl
  pairs_pass_kept (r ∷ rs) up =
      let both = and_parts (passes_each test r rs) (pairs_pass test rs) up in
      let rest = pairs_pass_kept rs both.1 in
      elim (cases_Bool (keep r)) [
        | inl e ↦ rw e (and_from (passes_each test r (filter keep rs)) _ (passes_each_kept r rs both.0) rest)
        | inr e ↦ rw e rest
      ]
