-- What was done to a carrier, in terms of the carrier itself: C is the carrier, L the type of the letters.
use Rattle.std.specs.Prelude.{ℕ, List, [], ◌∷◌}
use Rattle.carriers.specs.Meaning.{Drawn, Meaning}

-- `meaning` says what a carrier means, `puts` what one put of it does, and `rests` what its refusal leaves
module _ {C L : Type 0} (meaning : C → Meaning L) (puts : C → L → C → Type 0) (rests : C → C → Type 0) where
  -- The letters, the newest first, were put on it one after the other, each of them once. Apart from that there were draws and
  -- refusals, in any order and any number.
  pub data Served (from : C) : List L → C → Type 0 where
    nothing : Served from [] from
    one_put : {letters : List L} {c c' : C} {x : L} → Served from letters c → puts c x c' → Served from (x ∷ letters) c'
    one_draw : {letters : List L} {c c' : C} {seat place : ℕ} → Served from letters c → Drawn (meaning c) seat place (meaning c') → Served from letters c'
    one_no : {letters : List L} {c c' : C} → Served from letters c → rests c c' → Served from letters c'
