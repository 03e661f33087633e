-- A chunk that is filled read by read.
use Rattle.std.proofs.lemmas.Bool.{cases_lt}
use Rattle.std.proofs.Common.{◌≡◌, ℕ, ◌+◌, ◌≤◌, ◌⊎◌, take-append-drop, inl, inr, ⊎_elim, List, ◌++◌, length, take, drop, Option, sym, ap, ◌∙◌, subst, append_assoc, arith}
use Rattle.std.proofs.lemmas.List.{take_at, length-append, length-take-le}
use Rattle.std.specs.Io.KnownBytes.{Consumes, IsAtEnd}
use Rattle.chunks.specs.Chunks.{Filled}
use Rattle.chunks.proofs.Streams.{consumed}

-- a chunk that is filled so far
pub record Filling (known left : Option (List ℕ)) (chunk : List ℕ) (at : ℕ) : Type 0 where
  pub fits : at ≤ length chunk
  pub read : Consumes known left (take at chunk)

pub filling_on : (known left left' : Option (List ℕ)) (chunk buf tail : List ℕ) (at n : ℕ) → Filling known left chunk at → n ≤ length buf
    → Consumes left left' (take n buf) → Filling known left' (take at chunk ++ (buf ++ tail)) (at + n)
filling_on known left left' chunk buf tail at n f le c = record {
  fits = (let d = long in let a = length-append (take at chunk) (buf ++ tail) in let b = length-append buf tail in omega arith);
  read = subst (Consumes known left') (sym front_is) (consumed known left left' (take at chunk) (take n buf) f.read c);
}
  where
    long : length (take at chunk) ≡ at
    long = length-take-le at chunk f.fits

    front_is : take (at + n) (take at chunk ++ (buf ++ tail)) ≡ take at chunk ++ take n buf
    front_is =
        ap (λ (l : List ℕ). take (at + n) (take at chunk ++ (l ++ tail))) (sym (take-append-drop n buf))
        ∙ ap (λ (l : List ℕ). take (at + n) (take at chunk ++ l)) (append_assoc (take n buf) (drop n buf) tail)
        ∙ ap (take (at + n)) (sym (append_assoc (take at chunk) (take n buf) (drop n buf ++ tail)))
        ∙ take_at (take at chunk ++ take n buf) (drop n buf ++ tail) (at + n)
        (let a = length-append (take at chunk) (take n buf) in let b = length-take-le n buf le in let d = long in omega arith)

-- a chunk of this size was read whole, or nothing is left
pub full_or_end : (known left : Option (List ℕ)) (chunk : List ℕ) (n size : ℕ) → length chunk ≡ size → Filled known left chunk n
    → (length (take n chunk) ≡ size) ⊎ IsAtEnd left
full_or_end known left chunk n size long f = ⊎_elim
    (λ lt. inr (f.short (omega arith)))
    (λ ge. inl (length-take-le n chunk f.fits ∙ (let a = f.fits in omega arith)))
    (cases_lt n size)
