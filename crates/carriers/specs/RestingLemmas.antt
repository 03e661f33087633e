-- What a refused put or draw leaves of a carrier itself, C, where it leaves all of it.
use Rattle.std.specs.Prelude.{◌≡◌}
use Rattle.std.proofs.Common.{ap}

module _ {C M : Type 0} (meaning : C → M) where
  -- its meaning stays
  pub as_it_was : (c after : C) → after ≡ c → meaning after ≡ meaning c
  as_it_was c after same = ap meaning same
