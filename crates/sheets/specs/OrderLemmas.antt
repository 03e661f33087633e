-- What follows from the laws of an order.
use Rattle.std.specs.Prelude.{◌≡◌, Bool, true, false}
use Rattle.std.specs.Cmp.{IsStrictWeakOrder}
use Rattle.std.proofs.Common.{inl, inr, arith}
use Rattle.std.proofs.lemmas.Bool.{cases_Bool}
use Rattle.std.proofs.lemmas.Bool.Decides.{nat_tests}

module _ {X : Type 0} (after : X → X → Bool) (laws : IsStrictWeakOrder after) where
  pub not_itself : (a : X) → after a a ≡ false
  not_itself a = elim (cases_Bool (after a a)) [ inl e ↦ laws.one_way a a e | inr e ↦ e ]

  -- a stands after b, and c does not: a stands after c
  pub past_level : (a b c : X) → after a b ≡ true → after c b ≡ false → after a c ≡ true
  past_level a b c up level = elim (cases_Bool (after a c)) [
    | inl e ↦ e
    | inr e ↦ let f = laws.chain a c b e level in grind (arith, nat_tests)
  ]

  -- a stands after b, and not after c: c stands after b
  pub before_level : (a b c : X) → after a b ≡ true → after a c ≡ false → after c b ≡ true
  before_level a b c up level = elim (cases_Bool (after c b)) [
    | inl e ↦ e
    | inr e ↦ let f = laws.chain a c b level e in grind (arith, nat_tests)
  ]

  pub beyond : (a b c : X) → after a b ≡ true → after b c ≡ true → after a c ≡ true
  beyond a b c e f = past_level a b c e (laws.one_way b c f)
