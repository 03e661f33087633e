-- A test of each number below a bound.
use Rattle.std.specs.List.{list_all, range_with_len}
use Rattle.std.proofs.Common.{◌&&◌, ◌≡◌, ℕ, zero, suc, ◌+◌, ◌<◌, Bool, true, [], ◌∷◌, map, Decides, refl, sym, ap, ◌∙◌, arith}
use Rattle.std.proofs.Math.Bool.{and_comm, and-true}
use Rattle.std.proofs.lemmas.Bool.Decides.{Decides-below_and}
use Rattle.std.proofs.lemmas.List.Folds.{list_all-append, list_all-map}
use Rattle.std.proofs.lemmas.List.FromFn.{map-range_with_len_more}
use Rattle.letters.specs.Order.{each_below}

module _ (test : ℕ → Bool) where
  pub decides_each : (P : ℕ → Type 0) → ((k : ℕ) → Decides (test k) (P k)) → (n : ℕ) → Decides (each_below test n) ((k : ℕ) → k < n → P k)
  decides_each P each n = Decides-below_and test P (each_below test) each refl (λ m. refl) n

  each_mapped : (n : ℕ) → list_all (λ b. b) (map test (range_with_len 0 n)) ≡ each_below test n
  each_mapped zero = refl
  each_mapped (suc n) =
      let size : suc n ≡ n + 1 = omega arith in
      ap (λ k. list_all (λ b. b) (map test (range_with_len 0 k))) size
      ∙ ap (list_all (λ b. b)) (map-range_with_len_more test 0 n n (omega arith))
      ∙ list_all-append (λ b. b) (map test (range_with_len 0 n)) (test n ∷ [])
      ∙ ap (λ b. b && (test n && true)) (each_mapped n) ∙ and_comm (each_below test n) (test n && true)
      ∙ ap (λ b. b && each_below test n) (and-true (test n))

  -- the same test of the numbers as a list
  pub each_listed : (n : ℕ) → list_all test (range_with_len 0 n) ≡ each_below test n
  each_listed n = sym (list_all-map (λ b. b) test (range_with_len 0 n)) ∙ each_mapped n
