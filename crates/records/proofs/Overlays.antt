-- Bytes written over a part of others.
use Rattle.std.proofs.Common.{◌≡◌, ℕ, ◌+◌, List, [], ◌++◌, length, take, drop, sym, refl, ap, ◌∙◌, append_assoc, arith}
use Rattle.std.proofs.lemmas.List.{drop-drop, drop_at, take_at, append-nil, drop_all, length-drop, length-append}
use Rattle.records.specs.Buffers.{overlaid}

-- bytes written just after a front
pub overlaid-after : (front old new : List ℕ) (at : ℕ) → length front ≡ at → overlaid (front ++ old) at new ≡ (front ++ new) ++ drop (length new) old
overlaid-after front old new at e =
    let before : take at (front ++ old) ≡ front = take_at front old at e in
    let past : drop at (front ++ old) ≡ old = drop_at front old at e in
    let after : drop (at + length new) (front ++ old) ≡ drop (length new) old =
    sym (drop-drop (length new) at (front ++ old)) ∙ ap (drop (length new)) past in
    let apart = append_assoc front new (drop (length new) old) in cc

-- three parts that fill a buffer, one after another
pub three_parts : (old a b c x y z : List ℕ) (p q : ℕ) → length a ≡ p → length a + length b ≡ q → length old ≡ q + length c
    → x ≡ overlaid old 0 a → y ≡ overlaid x p b → z ≡ overlaid y q c → z ≡ a ++ (b ++ c)
three_parts old a b c x y z p q ea eb ec ex ey ez =
    let first : x ≡ a ++ drop (length a) old = ex ∙ overlaid-after [] old a 0 refl in
    let second : y ≡ (a ++ b) ++ drop (length b) (drop (length a) old) =
    ey ∙ ap (λ l. overlaid l p b) first ∙ overlaid-after a (drop (length a) old) b p ea in
    let third : z ≡ ((a ++ b) ++ c) ++ drop (length c) (drop (length b) (drop (length a) old)) =
    ez ∙ ap (λ l. overlaid l q c) second ∙ overlaid-after (a ++ b) (drop (length b) (drop (length a) old)) c q (simp length-append eb) in
    let none : drop (length c) (drop (length b) (drop (length a) old)) ≡ [] =
    drop_all (length c) (drop (length b) (drop (length a) old)) (simp length-drop (omega arith)) in
    third ∙ ap (λ l. ((a ++ b) ++ c) ++ l) none ∙ append-nil ((a ++ b) ++ c) ∙ append_assoc a b c
