-- What letters that are side by side have different.
use Rattle.std.proofs.Common.{inl, inr, ap, arith}
use Rattle.std.specs.Prelude.{◌≢◌}
use Rattle.std.proofs.lemmas.Bool.{cases_lt}
use Rattle.letters.specs.declared.letter.Letter.{Letter}
use Rattle.letters.specs.Letters.{entry_at, number_of}
use Rattle.letters.specs.Order.{SideBySide}

-- of two letters from one poster, the one with the greater number covers the other
pub beside_posters : {B : Type 0} (x y : Letter B) → SideBySide x y → x.poster ≢ y.poster
beside_posters x y side same =
    let in-x = ap (entry_at x.stamp) same in
    let in-y = ap (entry_at y.stamp) same in
    elim (cases_lt (number_of x) (number_of y)) [ inl less ↦ side.back (omega arith) | inr more ↦ side.forth (omega arith) ]
