-- The chunks of eight bytes.
use Rattle.std.proofs.Common.{◌≡◌, ℕ, ◌+◌, ◌*◌, min, List, ◌++◌, length, take, drop, sym, ap, ◌∙◌, arith}
use Rattle.std.proofs.lemmas.List.{drop-drop, drop_at, take_at, take_min}

module _ (rest chunk later : List ℕ) (split : rest ≡ chunk ++ later) where
  -- a chunk is the front of what is left
  pub chunk_front : length chunk ≡ min 8 (length rest) → chunk ≡ take 8 rest
  chunk_front size = sym (take_at chunk later (min 8 (length rest)) size) ∙ ap (take (min 8 (length rest))) (sym split) ∙ take_min 8 rest

  -- and where it is whole, eight bytes fewer are left
  pub chunk_later : (bs : List ℕ) (k : ℕ) → rest ≡ drop (k * 8) bs → length chunk ≡ 8 → later ≡ drop ((k + 1) * 8) bs
  chunk_later bs k left size =
      let next : k * 8 + 8 ≡ (k + 1) * 8 = omega arith in
      sym (drop_at chunk later 8 size) ∙ ap (drop 8) (sym split ∙ left) ∙ drop-drop 8 (k * 8) bs ∙ ap (λ n. drop n bs) next
