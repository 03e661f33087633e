-- What is read and written piece after piece.
use Rattle.std.proofs.Common.{◌≡◌, ℕ, List, ◌++◌, Some, None, Option, sym, refl, ap, ◌∙◌, append_assoc}
use Rattle.std.specs.Io.KnownBytes.{Appends, Consumes}

pub consumed : (a b c : Option (List ℕ)) (x y : List ℕ) → Consumes a b x → Consumes b c y → Consumes a c (x ++ y)
consumed None b c x y p q = tt
consumed (Some a) None c x y p q = absurd p
consumed (Some a) (Some b) None x y p q = absurd q
consumed (Some a) (Some b) (Some c) x y p q = p ∙ ap (λ (l : List ℕ). x ++ l) q ∙ sym (append_assoc x y c)

pub appended : (a b c : Option (List ℕ)) (x y : List ℕ) → Appends a b x → Appends b c y → Appends a c (x ++ y)
appended None b c x y p q = tt
appended (Some a) None c x y p q = absurd p
appended (Some a) (Some b) None x y p q = absurd q
appended (Some a) (Some b) (Some c) x y p q = q ∙ ap (λ (l : List ℕ). l ++ y) p ∙ append_assoc a x y

-- what is left of known bytes when a piece of them was read
pub record ReadOn (rest : List ℕ) (left : Option (List ℕ)) (piece : List ℕ) : Type 0 where
  pub later : List ℕ
  pub is_left : left ≡ Some later
  pub split : rest ≡ piece ++ later

pub read_on : (rest : List ℕ) (left : Option (List ℕ)) (piece : List ℕ) → Consumes (Some rest) left piece → ReadOn rest left piece
read_on rest None piece p = absurd p
read_on rest (Some ys) piece p = record { later = ys; is_left = refl; split = p }
