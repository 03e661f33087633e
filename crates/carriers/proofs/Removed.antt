-- Lists from which one place is taken out.
use Rattle.std.proofs.Common.{◌≡◌, ℕ, suc, ◌+◌, ◌<◌, ◌≤◌, List, [], ◌∷◌, ◌++◌, length, take, drop, sym, refl, ap, suc-add, zero-add, arith}
use Rattle.std.specs.List.{remove}
use Rattle.std.proofs.lemmas.List.{take-append-le, drop-append-le, append_assoc}

module _ {L : Type 0} where
  -- a place of the first of two lists
  pub removed_left : (xs ys : List L) (i : ℕ) → i < length xs → remove (xs ++ ys) i ≡ remove xs i ++ ys
  removed_left xs ys i h =
      let h' : i ≤ length xs = omega arith in
      let h'' : suc i ≤ length xs = omega arith in
      rw (take-append-le i xs ys h', drop-append-le (suc i) xs ys h'') (sym (append_assoc (take i xs) (drop (suc i) xs) ys))

  -- a place of the second
  pub removed_right : (xs ys : List L) (i : ℕ) → remove (xs ++ ys) (length xs + i) ≡ xs ++ remove ys i
  removed_right [] ys i = rw (zero-add i)
  removed_right (x ∷ xs) ys i = rw (suc-add (length xs) i) (ap (λ l. x ∷ l) (removed_right xs ys i))

  -- the last place
  pub removed_end : (xs : List L) (x : L) → remove (xs ++ (x ∷ [])) (length xs) ≡ xs
  removed_end [] x = refl
  removed_end (y ∷ ys) x = ap (λ l. y ∷ l) (removed_end ys x)
