-- Of rows that pass a test in pairs one at most is what is looked for. Taking that one out leaves all others.
use Rattle.std.proofs.Common.{◌≡◌, ℕ, ◌≤◌, Bool, true, not, List, [], ◌∷◌, length, Some, None, position, remove, filter, refl, sym, ap, ◌∙◌, inl, inr, arith, one-add}
use Rattle.std.specs.List.{position_or_len}
use Rattle.std.proofs.lemmas.Bool.{cases_Bool, and_parts}
use Rattle.std.proofs.lemmas.Grind.{common_steps}
use Rattle.sheets.specs.Placing.{pairs_pass, passes_each}
use Rattle.sheets.proofs.Rising.{all_kept, pairs_pass_kept}

module _ {X : Type 0} (test : X → X → Bool) (is : X → Bool)
    (differs : (r s : X) → is r ≡ true → test r s ≡ true → not (is s) ≡ true) where
  abbrev other_rows : List X → List X
  other_rows rows = filter (λ r. not (is r)) rows

  first_out : (rows : List X) → pairs_pass test rows ≡ true → remove rows (position_or_len is rows) ≡ other_rows rows
  first_out [] up = refl
  first_out (r ∷ rs) up =
      let both = and_parts (passes_each test r rs) (pairs_pass test rs) up in
      elim (cases_Bool (is r)) [
        | inl same ↦ rw same (sym (all_kept test (λ s. not (is s)) r rs both.0 (λ s pass. differs r s same pass)))
        | inr other ↦ rw (other, one-add) (ap (λ l. r ∷ l) (first_out rs both.1))
      ]

  -- it stands at a place
  pub one_out : (rows : List X) (at : ℕ) → position is rows ≡ Some at → pairs_pass test rows ≡ true
      → other_rows rows ≡ remove rows at
  one_out rows at found up =
      let place : position_or_len is rows ≡ at = grind (arith, common_steps) in
      sym (first_out rows up) ∙ ap (λ k. remove rows k) place

  pub pairs_pass_out : (rows : List X) (at : ℕ) → position is rows ≡ Some at → pairs_pass test rows ≡ true
      → pairs_pass test (remove rows at) ≡ true
  pairs_pass_out rows at found up =
      sym (ap (pairs_pass test) (one_out rows at found up)) ∙ pairs_pass_kept test (λ r. not (is r)) rows up

  -- it stands nowhere
  pub none_out : (rows : List X) → position is rows ≡ None → pairs_pass test rows ≡ true → other_rows rows ≡ rows
  none_out rows missed up =
      let place : length rows ≤ position_or_len is rows = grind (arith, common_steps) in
      let all : remove rows (position_or_len is rows) ≡ rows = grind (arith, common_steps) in
      sym (first_out rows up) ∙ all
