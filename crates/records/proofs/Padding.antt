-- What stands after the body in its space, and looking there for a byte that is not zero.
use Rattle.std.proofs.Common.{◌≡◌, ℕ, ◌+◌, ◌-◌, ◌<◌, not, List, length, get_or, take, drop, Option, sym, ap, ◌∙◌, ⊎_elim, arith, length-drop}
use Rattle.std.proofs.lemmas.List.{drop-take, drop_all, get_or-drop, get_or-take, length-take, length-take-le, take_all}
use Rattle.std.proofs.lemmas.Bool.{cases_lt}
use Rattle.std.specs.List.{position}
use Rattle.std.specs.Option.{option_map}
use Rattle.letters.specs.Checks.{first_failing}
use Rattle.letters.specs.ChecksLemmas.{failing_after}
use Rattle.records.specs.declared.record.TheConstants.{BODY_END, BODY_PLACE, RECORD_SIZE}
use Rattle.records.specs.Records.{is_zero, length_byte, padding}

-- leaving out a front of a front, in either order
pub drop-of-take : (from to : ℕ) (bs : List ℕ) → drop from (take to bs) ≡ take (to - from) (drop from bs)
drop-of-take from to bs = ⊎_elim
    (λ l.
    let none : to - from ≡ 0 = omega arith in
    drop_all from (take to bs) (omega (arith, length-take to bs)) ∙ sym (ap (λ n. take n (drop from bs)) none))
    (λ g. let sum : to ≡ from + (to - from) = omega arith in ap (λ n. drop from (take n bs)) sum ∙ drop-take from (to - from) bs)
    (cases_lt to from)

-- what is found after a place of the body's space, counted from the record's beginning
pub nonzero_found : (bs : List ℕ) (from : ℕ) (r : Option ℕ) → r ≡ position (λ b. not (is_zero b)) (take (BODY_END - from) (drop from bs))
    → option_map (λ k. from + k) r ≡ first_failing is_zero from (drop from (take BODY_END bs))
nonzero_found bs from r is =
    let rest = sym (drop-of-take from BODY_END bs) in
    ap (option_map (λ k. from + k)) (is ∙ ap (position (λ b. not (is_zero b))) rest) ∙ failing_after is_zero from (drop from (take BODY_END bs))

module _ (bs : List ℕ) where
  pub padding_at : (i : ℕ) → BODY_PLACE + length_byte bs + i < BODY_END → get_or (padding bs) i 0 ≡ get_or bs (BODY_PLACE + length_byte bs + i) 0
  padding_at i h =
      get_or-drop (BODY_PLACE + length_byte bs) (take BODY_END bs) i 0 ∙ get_or-take BODY_END bs (BODY_PLACE + length_byte bs + i) 0 h

  pub padding_long : length bs ≡ RECORD_SIZE → length (padding bs) ≡ BODY_END - (BODY_PLACE + length_byte bs)
  padding_long long =
      length-drop (BODY_PLACE + length_byte bs) (take BODY_END bs)
      ∙ ap (λ n. n - (BODY_PLACE + length_byte bs)) (length-take-le BODY_END bs (omega arith))

  -- the body's space is the last of a record
  pub padding_last : length bs ≡ RECORD_SIZE → padding bs ≡ drop (BODY_PLACE + length_byte bs) bs
  padding_last long = ap (drop (BODY_PLACE + length_byte bs)) (take_all BODY_END bs (omega arith))
