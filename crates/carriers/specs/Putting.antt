-- What a put does to the lists of letters that wait for the seats. L is the type of the letters.
use Rattle.std.specs.Prelude.{◌≡◌, ℕ, suc, ◌<◌, List, ◌++◌, replicate}
use Rattle.std.specs.List.Sorted.{IsPermutation}

module _ {L : Type 0} where
  -- ys is a reordering of xs and one or more copies of x
  pub record Gains (x : L) (xs ys : List L) : Type 0 where
    -- how many copies there are besides the first
    pub more : ℕ
    pub reordered : IsPermutation (replicate (suc more) x ++ xs) ys

  -- a poster put x on a carrier of so many seats: each other seat's list gained it, and the poster's own stayed
  pub record Put (seats poster : ℕ) (x : L) (before after : ℕ → List L) : Type 0 where
    pub own : after poster ≡ before poster
    pub others : (k : ℕ) → k < seats → ¬ (k ≡ poster) → Gains x (before k) (after k)
