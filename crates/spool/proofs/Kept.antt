-- What every row of a spool keeps, through the steps of a put and a draw.
use Rattle.std.proofs.Common.{◌≡◌, ℕ, ◌+◌, ◌-◌, ◌<◌, ◌≤◌, List, sym, subst, ⊎_elim, arith}
use Rattle.std.proofs.lemmas.Bool.{cases_eq, cases_lt}
use Rattle.spool.specs.Rows.{mask_of, row_at}

-- a property of masks that each of the first rows has
abbrev pub Each : (ℕ → Type 0) → ℕ → List ℕ → Type 0
Each P rows bytes = (r : ℕ) → r < rows → P (mask_of (row_at bytes r))

module _ (P : ℕ → Type 0) (rows : ℕ) (b a : List ℕ) (each : Each P rows b) where
  -- one row was written, within the rows or just behind them
  pub each_written : (i n : ℕ) → ((r : ℕ) → ¬ (r ≡ i) → row_at a r ≡ row_at b r) → n ≤ rows + 1 → (rows < n → i ≡ rows) → P (mask_of (row_at a i)) → Each P n a
  each_written i n same le at here r l = ⊎_elim
      (λ e. subst (λ j. P (mask_of (row_at a j))) (sym e) here)
      (λ ne. subst (λ w. P (mask_of w)) (sym (same r ne)) (each r (below r l ne)))
      (cases_eq r i)
    where
      below : (r : ℕ) → r < n → ¬ (r ≡ i) → r < rows
      below r l ne = ⊎_elim
          (λ in_rows. in_rows)
          (λ past. let last : i ≡ rows = at (omega arith) in absurd (ne (omega arith)))
          (cases_lt r rows)

  -- a row was closed up
  pub each_closed : (i : ℕ) → ((r : ℕ) → r < i → row_at a r ≡ row_at b r) → ((r : ℕ) → i ≤ r → r + 1 < rows → row_at a r ≡ row_at b (r + 1)) → Each P (rows - 1) a
  each_closed i before behind r l = ⊎_elim
      (λ below. subst (λ w. P (mask_of w)) (sym (before r below)) (each r (omega arith)))
      (λ above. subst (λ w. P (mask_of w)) (sym (behind r above (omega arith))) (each (r + 1) (omega arith)))
      (cases_lt r i)
