-- Lists of any elements: what stands in one, and in which order.
use Rattle.std.specs.Prelude.{◌≡◌, List, [], ◌∷◌}

infix 40 ◌∈◌
-- x stands somewhere in the list
pub data ◌∈◌ {A : Type 0} (x : A) : List A → Type 0 where
  here : {y : A} {l : List A} → x ≡ y → x ∈ (y ∷ l)
  there : {y : A} {l : List A} → x ∈ l → x ∈ (y ∷ l)

-- no element of the list is related to a later one
abbrev pub NoPair : {A : Type 0} → (A → A → Type 0) → List A → Type 0
NoPair R [] = Unit {0}
NoPair {A} R (x ∷ l) = ((y : A) → y ∈ l → ¬ (R x y)) × NoPair R l

-- the same elements stand in both lists
abbrev pub SameElements : {A : Type 0} → List A → List A → Type 0
SameElements {A} xs ys = (x : A) → (x ∈ xs → x ∈ ys) × (x ∈ ys → x ∈ xs)
