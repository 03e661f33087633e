-- What the arguments of the program ask for.
use Rattle.std.specs.Prelude.{◌≡◌, ℕ, List, [], ◌∷◌, map, codes, String, string_bytes}

-- behind the program's name there is one word, and it is this one
abbrev pub AsksFor : {A : Type 0} → List (String A) → List ℕ → Type 0
AsksFor args word = (program : List ℕ) × (map string_bytes args ≡ program ∷ word ∷ [])

abbrev pub AsksTexts : {A : Type 0} → List (String A) → Type 0
AsksTexts args = AsksFor args (codes "text")

abbrev pub AsksJobs : {A : Type 0} → List (String A) → Type 0
AsksJobs args = AsksFor args (codes "job")

-- anything else: no word, another one, or more than one
abbrev pub AsksForNone : {A : Type 0} → List (String A) → Type 0
AsksForNone args = (¬ (AsksTexts args)) × (¬ (AsksJobs args))
