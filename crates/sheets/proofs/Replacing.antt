-- Rows of which no two are level. Where the row that is level with a new one is taken out, and the new one put in at its
-- place, it has replaced that row, and again no two are level.
use Rattle.std.proofs.Common.{◌≡◌, Bool, true, false, ◌||◌, List, [], ◌∷◌, ◌++◌, filter, refl, inl, inr, ap, arith}
use Rattle.std.specs.Cmp.{IsStrictWeakOrder}
use Rattle.std.proofs.lemmas.Bool.{cases_Bool, and_parts, and_from}
use Rattle.std.proofs.lemmas.Bool.Decides.{nat_tests}
use Rattle.sheets.specs.OrderLemmas.{past_level}
use Rattle.sheets.specs.Placing.{passes_each, placed, rising, with_row}
use Rattle.sheets.proofs.Rising.{all_kept, none_kept, pairs_pass_kept, passes_each_kept}

module _ {X : Type 0} (after : X → X → Bool) (laws : IsStrictWeakOrder after) (x : X) where
  abbrev ahead : X → Bool
  ahead r = after x r

  abbrev behind : X → Bool
  behind r = after r x

  abbrev all_after : X → List X → Bool
  all_after r rows = passes_each (λ r s. after s r) r rows

  -- what stands after a row that is not ahead of x stands after x
  past_x : (r s : X) → ahead r ≡ false → after s r ≡ true → behind s ≡ true
  past_x r s e f = past_level after laws s r x f e

  past_not_ahead : (r s : X) → ahead r ≡ false → after s r ≡ true → ahead s ≡ false
  past_not_ahead r s e f = laws.one_way s x (past_x r s e f)

  -- rows that all stand after x
  record Past (rs : List X) : Type 0 where
    none_ahead : filter ahead rs ≡ []
    all_behind : filter behind rs ≡ rs

  past : (r : X) (rs : List X) → ahead r ≡ false → all_after r rs ≡ true → Past rs
  past r rs e up = record {
    none_ahead = none_kept (λ r s. after s r) ahead r rs up (λ s f. past_not_ahead r s e f);
    all_behind = all_kept (λ r s. after s r) behind r rs up (λ s f. past_x r s e f);
  }

  placed_first : (r : X) (rs : List X) → ahead r ≡ false → all_after r rs ≡ true → placed after rs x ≡ x ∷ rs
  placed_first r [] e up = refl
  placed_first r (s ∷ ss) e up = let f = past_x r s e (and_parts (after s r) (all_after r ss) up).0 in rw f

  -- other are the rows that are not level with x
  module _ (other : X → Bool) (apart : (r : X) → other r ≡ (ahead r || behind r)) where
    ahead_other : (r : X) → ahead r ≡ true → other r ≡ true
    ahead_other r e = let is = apart r in grind (arith, nat_tests)

    behind_other : (r : X) → behind r ≡ true → other r ≡ true
    behind_other r e = let is = apart r in grind (arith, nat_tests)

    level_not_other : (r : X) → ahead r ≡ false → behind r ≡ false → other r ≡ false
    level_not_other r e f = let is = apart r in grind (arith, nat_tests)

    all_other : (r : X) (rs : List X) → ahead r ≡ false → all_after r rs ≡ true → filter other rs ≡ rs
    all_other r rs e up = all_kept (λ r s. after s r) other r rs up (λ s f. behind_other s (past_x r s e f))

    pub placed_replaces : (rows : List X) → rising after rows ≡ true → placed after (filter other rows) x ≡ with_row after rows x
    placed_replaces [] up = refl
    placed_replaces (r ∷ rs) up =
        let both = and_parts (all_after r rs) (rising after rs) up in
        elim (cases_Bool (ahead r)) [
          | inl e ↦
              let stays = ahead_other r e in
              let not_behind = laws.one_way x r e in
              simp (e, not_behind, stays) (ap (λ l. r ∷ l) (placed_replaces rs both.1))
          | inr e ↦
              let far = past r rs e both.0 in
              let others = all_other r rs e both.0 in
              elim (cases_Bool (behind r)) [
                | inl f ↦ let stays = behind_other r f in simp (e, f, stays, far.none_ahead, far.all_behind, others)
                | inr f ↦
                    let goes = level_not_other r e f in
                    simp (e, f, goes, far.none_ahead, far.all_behind, others) (placed_first r rs e both.0)
              ]
        ]

  all_after_join : (r : X) (ks bs : List X) → all_after r ks ≡ true → after x r ≡ true → all_after r bs ≡ true
      → all_after r (ks ++ x ∷ bs) ≡ true
  all_after_join r [] bs f g h = and_from (after x r) (all_after r bs) g h
  all_after_join r (a ∷ ks) bs f g h =
      let both = and_parts (after a r) (all_after r ks) f in
      and_from (after a r) (all_after r (ks ++ x ∷ bs)) both.0 (all_after_join r ks bs both.1 g h)

  behind_kept : (rs : List X) → all_after x (filter behind rs) ≡ true
  behind_kept [] = refl
  behind_kept (r ∷ rs) = elim (cases_Bool (behind r)) [
    | inl e ↦ rw e (and_from (after r x) _ e (behind_kept rs))
    | inr e ↦ rw e (behind_kept rs)
  ]

  -- the rows from x on
  rising_from : (rows : List X) → rising after rows ≡ true → rising after (x ∷ filter behind rows) ≡ true
  rising_from rows up =
      and_from (all_after x (filter behind rows)) _ (behind_kept rows) (pairs_pass_kept (λ r s. after s r) behind rows up)

  pub rising_with : (rows : List X) → rising after rows ≡ true → rising after (with_row after rows x) ≡ true
  rising_with [] up = refl
  rising_with (r ∷ rs) up =
      let both = and_parts (all_after r rs) (rising after rs) up in
      elim (cases_Bool (ahead r)) [
        | inl e ↦
            let not_behind = laws.one_way x r e in
            let ahead_kept = passes_each_kept (λ r s. after s r) ahead r rs both.0 in
            let behind_too = passes_each_kept (λ r s. after s r) behind r rs both.0 in
            let below = all_after_join r (filter ahead rs) (filter behind rs) ahead_kept e behind_too in
            simp (e, not_behind) (and_from (all_after r (with_row after rs x)) _ below (rising_with rs both.1))
        | inr e ↦
            let far = past r rs e both.0 in
            simp (e, far.none_ahead) (rising_from (r ∷ rs) up)
      ]
