-- The place at which a search stops.
use Rattle.std.proofs.Common.{◌≡◌, Bool, not, List, length, unwrap_or, arith}
use Rattle.std.specs.List.{position, position_or_len}
use Rattle.std.proofs.lemmas.Bool.Decides.{nat_tests}
use Rattle.std.proofs.lemmas.List.Sums.{prefix_len-le-length}

-- the first place that passes, or the end
pub unwrap_or-position : {X : Type 0} (p : X → Bool) (xs : List X) → unwrap_or (position p xs) (length xs) ≡ position_or_len p xs
unwrap_or-position p xs = let most = prefix_len-le-length (λ x. not (p x)) xs in grind (arith, nat_tests)
