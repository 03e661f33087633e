-- Rows that may be placed in either order.
use Rattle.std.specs.Prelude.{◌≡◌, Bool, true, false, cond, not, List, [], ◌∷◌, ◌++◌, filter}
use Rattle.std.specs.Cmp.{IsStrictWeakOrder}
use Rattle.std.proofs.Common.{append_assoc, inl, inr, sym, ap, ◌∙◌, arith}
use Rattle.std.proofs.lemmas.Bool.{cases_Bool}
use Rattle.std.proofs.lemmas.Bool.Decides.{nat_tests}
use Rattle.std.proofs.lemmas.List.Elements.{filter-append}
use Rattle.std.proofs.lemmas.List.{append-nil}
use Rattle.sheets.specs.FilterLemmas.{kept_all, kept_none, kept_swap}
use Rattle.sheets.specs.OrderLemmas.{before_level, beyond}
use Rattle.sheets.specs.Placing.{placed, with_row}

either_first : {Y : Type 0} (s t : Bool) (x y : Y) → s ≡ not t → cond s x y ≡ cond t y x
either_first s t x y e = grind (arith, nat_tests)

-- a filter that keeps the new row may go before or after it
pub filter_with_row : {X : Type 0} (after : X → X → Bool) (test : X → Bool) (rows : List X) (new : X)
    → test new ≡ true → filter test (with_row after rows new) ≡ with_row after (filter test rows) new
filter_with_row after test rows new keeps =
    let ahead = filter (λ r. after new r) rows in
    let behind = filter (λ r. after r new) rows in
    filter-append test ahead (new ∷ behind)
    ∙ simp keeps (ap (λ l. l ++ new ∷ filter test behind) (kept_swap test (λ r. after new r) rows)
    ∙ ap (λ l. filter (λ r. after new r) (filter test rows) ++ new ∷ l) (kept_swap test (λ r. after r new) rows))

-- rows in an order by its laws
module _ {X : Type 0} (after : X → X → Bool) (laws : IsStrictWeakOrder after) where
  -- two new rows, one of which stands after the other, may be placed in either order
  pub placed_swap : (rows : List X) (a b : X) → after a b ≡ not (after b a)
      → placed after (placed after rows a) b ≡ placed after (placed after rows b) a
  placed_swap [] a b differ = either_first (after a b) (after b a) (b ∷ a ∷ []) (a ∷ b ∷ []) differ
  placed_swap (r ∷ rs) a b differ = elim (cases_Bool (after r a)) [
    | inl ra ↦ elim (cases_Bool (after r b)) [
      | inl rb ↦ simp (ra, rb) (either_first (after a b) (after b a) (b ∷ a ∷ r ∷ rs) (a ∷ b ∷ r ∷ rs) differ)
      | inr rb ↦ let ba = before_level after laws r a b ra rb in let ab = laws.one_way b a ba in simp (ra, rb, ab)
    ]
    | inr ra ↦ elim (cases_Bool (after r b)) [
      | inl rb ↦ let ab = before_level after laws r b a rb ra in let ba = laws.one_way a b ab in simp (ra, rb, ba)
      | inr rb ↦ simp (ra, rb) (ap (λ l. r ∷ l) (placed_swap rs a b differ))
    ]
  ]

  -- y stands after x
  module _ (x y : X) (up : after y x ≡ true) where
    not_back : after x y ≡ false
    not_back = laws.one_way y x up

    below_both : (r : X) → after x r ≡ true → after y r ≡ true
    below_both r e = beyond after laws y x r up e

    below_not : (r : X) → after x r ≡ true → after r y ≡ false
    below_not r e = laws.one_way y r (below_both r e)

    above_both : (r : X) → after r y ≡ true → after r x ≡ true
    above_both r e = beyond after laws r y x e up

    above_not : (r : X) → after r y ≡ true → after x r ≡ false
    above_not r e = laws.one_way r x (above_both r e)

    module _ (rows : List X) where
      -- the rows that x stands after, those between x and y, and those that stand after y
      abbrev low : List X
      low = filter (λ r. after x r) rows

      abbrev between : List X
      between = filter (λ r. after y r) (filter (λ r. after r x) rows)

      abbrev high : List X
      high = filter (λ r. after r y) rows

      x_then_y : with_row after (with_row after rows x) y ≡ (low ++ x ∷ between) ++ y ∷ high
      x_then_y =
          let over = filter (λ r. after r x) rows in
          let under : filter (λ r. after y r) (with_row after rows x) ≡ low ++ x ∷ between =
          filter-append (λ r. after y r) low (x ∷ over) ∙ simp (up, kept_all (λ r. after y r) (λ r. after x r) below_both rows) in
          let past : filter (λ r. after r y) (with_row after rows x) ≡ high =
          filter-append (λ r. after r y) low (x ∷ over)
          ∙ simp (not_back, kept_none (λ r. after r y) (λ r. after x r) below_not rows)
          (kept_swap (λ r. after r y) (λ r. after r x) rows ∙ kept_all (λ r. after r x) (λ r. after r y) above_both rows) in
          ap (λ l. l ++ y ∷ filter (λ r. after r y) (with_row after rows x)) under ∙ ap (λ l. (low ++ x ∷ between) ++ y ∷ l) past

      y_then_x : with_row after (with_row after rows y) x ≡ low ++ x ∷ (between ++ y ∷ high)
      y_then_x =
          let under_y = filter (λ r. after y r) rows in
          let under : filter (λ r. after x r) (with_row after rows y) ≡ low =
          filter-append (λ r. after x r) under_y (y ∷ high)
          ∙ simp (not_back, kept_none (λ r. after x r) (λ r. after r y) above_not rows, append-nil)
          (kept_swap (λ r. after x r) (λ r. after y r) rows ∙ kept_all (λ r. after y r) (λ r. after x r) below_both rows) in
          let past : filter (λ r. after r x) (with_row after rows y) ≡ between ++ y ∷ high =
          filter-append (λ r. after r x) under_y (y ∷ high)
          ∙ simp (up, kept_all (λ r. after r x) (λ r. after r y) above_both rows)
          (ap (λ l. l ++ y ∷ high) (kept_swap (λ r. after r x) (λ r. after y r) rows)) in
          ap (λ l. l ++ x ∷ filter (λ r. after r x) (with_row after rows y)) under ∙ ap (λ l. low ++ x ∷ l) past

      upper_last : with_row after (with_row after rows x) y ≡ with_row after (with_row after rows y) x
      upper_last = x_then_y ∙ append_assoc low (x ∷ between) (y ∷ high) ∙ sym y_then_x

  -- the same where they replace what is level with them
  pub with_row_swap : (rows : List X) (a b : X) → after a b ≡ not (after b a)
      → with_row after (with_row after rows a) b ≡ with_row after (with_row after rows b) a
  with_row_swap rows a b differ = elim (cases_Bool (after b a)) [
    | inl up ↦ upper_last a b up rows
    | inr e ↦ let down : after a b ≡ true = grind (arith, nat_tests) in sym (upper_last b a down rows)
  ]
