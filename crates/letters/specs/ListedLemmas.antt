-- A list of known length is its elements, written out.
use Rattle.std.specs.Prelude.{◌≡◌, ℕ, zero, suc, ◌+◌, List, [], ◌∷◌, length, drop, slice_index}
use Rattle.std.proofs.Common.{ap, ◌∙◌, arith}
use Rattle.std.proofs.lemmas.List.{drop_all, drop_more}

-- n elements from the place k on
abbrev pub elements_from : ℕ → ℕ → List ℕ → List ℕ
elements_from k zero bs = []
elements_from k (suc n) bs = slice_index bs k ∷ elements_from (k + 1) n bs

items_from : (n k : ℕ) (bs : List ℕ) → length bs ≡ k + n → drop k bs ≡ elements_from k n bs
items_from zero k bs e = drop_all k bs (omega arith)
items_from (suc n) k bs e =
    drop_more bs k 0 (omega arith) ∙ ap (λ rest. slice_index bs k ∷ rest) (items_from n (k + 1) bs (omega arith))

pub written_out : (n : ℕ) (bs : List ℕ) → length bs ≡ n → bs ≡ elements_from 0 n bs
written_out n bs e = items_from n 0 bs (omega arith)
