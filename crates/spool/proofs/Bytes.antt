-- Rows and their parts.
use Rattle.std.proofs.Common.{◌≡◌, ℕ, ◌+◌, ◌-◌, ◌*◌, ◌<◌, ◌≤◌, List, ◌++◌, length, get_or, take, drop, set, sym, ap, ◌∙◌, arith, append_assoc, length-append, length-drop, length-set}
use Rattle.std.proofs.lemmas.List.{get_or-take, get_or-drop, take-take, length-take-le, ext_get_or, take-set-le, drop-set-add, get_or-set_same, get_or-set_other, drop-drop}
use Rattle.carriers.specs.Places.{OnlyAt}
use Rattle.carriers.proofs.Rows.{other_queue}
use Rattle.records.specs.declared.record.TheConstants.{RECORD_SIZE}
use Rattle.records.specs.Buffers.{overlaid}
use Rattle.records.proofs.Overlays.{overlaid-after}
use Rattle.spool.specs.declared.row_buffer.TheConstants.{ROW_SIZE}
use Rattle.spool.specs.Rows.{mask_of, record_part, row_at}

pub byte_at : (bytes : List ℕ) (row k : ℕ) → k < ROW_SIZE → get_or (row_at bytes row) k 0 ≡ get_or bytes (row * ROW_SIZE + k) 0
byte_at bytes row k h = get_or-take ROW_SIZE (drop (row * ROW_SIZE) bytes) k 0 h ∙ get_or-drop (row * ROW_SIZE) bytes k 0

pub record_at : (bytes : List ℕ) (row : ℕ) → record_part (row_at bytes row) ≡ take RECORD_SIZE (drop (row * ROW_SIZE) bytes)
record_at bytes row = take-take RECORD_SIZE ROW_SIZE (drop (row * ROW_SIZE) bytes) (omega arith)

pub mask_at : (bytes : List ℕ) (row : ℕ) → mask_of (row_at bytes row) ≡ get_or bytes (row * ROW_SIZE + RECORD_SIZE) 0 + get_or bytes (row * ROW_SIZE + RECORD_SIZE + 1) 0 * 256
mask_at bytes row =
    let next : row * ROW_SIZE + (RECORD_SIZE + 1) ≡ row * ROW_SIZE + RECORD_SIZE + 1 = omega arith in
    let low : get_or (row_at bytes row) RECORD_SIZE 0 ≡ get_or bytes (row * ROW_SIZE + RECORD_SIZE) 0 = byte_at bytes row RECORD_SIZE (omega arith) in
    let high : get_or (row_at bytes row) (RECORD_SIZE + 1) 0 ≡ get_or bytes (row * ROW_SIZE + RECORD_SIZE + 1) 0 = byte_at bytes row (RECORD_SIZE + 1) (omega arith) ∙ ap (λ k. get_or bytes k 0) next in
    omega arith

length_row : (bytes : List ℕ) (row : ℕ) → row * ROW_SIZE + ROW_SIZE ≤ length bytes → length (row_at bytes row) ≡ ROW_SIZE
length_row bytes row h = let d = length-drop (row * ROW_SIZE) bytes in length-take-le ROW_SIZE (drop (row * ROW_SIZE) bytes) (omega arith)

-- rows are equal where their bytes are
pub rows_equal : (a b : List ℕ) (r s : ℕ) → r * ROW_SIZE + ROW_SIZE ≤ length a → s * ROW_SIZE + ROW_SIZE ≤ length b → ((k : ℕ) → k < ROW_SIZE → get_or a (r * ROW_SIZE + k) 0 ≡ get_or b (s * ROW_SIZE + k) 0) → row_at a r ≡ row_at b s
rows_equal a b r s ha hb e =
    let la = length_row a r ha in
    let lb = length_row b s hb in
    ext_get_or 0 (row_at a r) (row_at b s) (la ∙ sym lb)
    (λ k h. let l : k < ROW_SIZE = omega arith in byte_at a r k l ∙ e k l ∙ sym (byte_at b s k l))

pub only_wider : (start n m : ℕ) (a b : List ℕ) → n ≤ m → OnlyAt start n a b → OnlyAt start m a b
only_wider start n m a b le only =
    let sum : start + n + (m - n) ≡ start + m = omega arith in
    (only.0, ap (λ k. drop k b) (sym sum) ∙ sym (drop-drop (m - n) (start + n) b) ∙ ap (drop (m - n)) only.1 ∙ drop-drop (m - n) (start + n) a ∙ ap (λ k. drop k a) sum)

-- what two bytes at the end of a row change
module _ (bytes : List ℕ) (row x y : ℕ) (fits : row * ROW_SIZE + ROW_SIZE ≤ length bytes) where
  abbrev pub ending : List ℕ
  ending = set (set bytes (row * ROW_SIZE + RECORD_SIZE) x) (row * ROW_SIZE + RECORD_SIZE + 1) y

  pub mask_ending : mask_of (row_at ending row) ≡ x + y * 256
  mask_ending =
      let long = length-set bytes (row * ROW_SIZE + RECORD_SIZE) x in
      let low : get_or ending (row * ROW_SIZE + RECORD_SIZE) 0 ≡ x = get_or-set_other _ (row * ROW_SIZE + RECORD_SIZE + 1) (row * ROW_SIZE + RECORD_SIZE) y 0 (omega arith) ∙ get_or-set_same bytes (row * ROW_SIZE + RECORD_SIZE) x 0 (omega arith) in
      let high : get_or ending (row * ROW_SIZE + RECORD_SIZE + 1) 0 ≡ y = get_or-set_same _ (row * ROW_SIZE + RECORD_SIZE + 1) y 0 (omega arith) in
      omega (arith, mask_at ending row)

  pub letter_ending : record_part (row_at ending row) ≡ record_part (row_at bytes row)
  letter_ending =
      let next : row * ROW_SIZE + RECORD_SIZE + 1 ≡ row * ROW_SIZE + (RECORD_SIZE + 1) = omega arith in
      record_at ending row
      ∙ ap (take RECORD_SIZE) (ap (λ k. drop (row * ROW_SIZE) (set (set bytes (row * ROW_SIZE + RECORD_SIZE) x) k y)) next ∙ drop-set-add (row * ROW_SIZE) _ (RECORD_SIZE + 1) y ∙ ap (λ l. set l (RECORD_SIZE + 1) y) (drop-set-add (row * ROW_SIZE) bytes RECORD_SIZE x))
      ∙ take-set-le RECORD_SIZE _ (RECORD_SIZE + 1) y (omega arith) ∙ take-set-le RECORD_SIZE _ RECORD_SIZE x (omega arith) ∙ sym (record_at bytes row)

-- the rows other than the one that was written
pub kept_rows : (b a : List ℕ) (i : ℕ) → OnlyAt (i * ROW_SIZE) ROW_SIZE b a → (r : ℕ) → (r ≡ i → ⊥) → row_at a r ≡ row_at b r
kept_rows b a i only r ne = other_queue ROW_SIZE i r ROW_SIZE b a only ne (omega arith)

-- bytes that are written behind others which were written, at once
pub overlaid_behind : (b r m : List ℕ) (at n : ℕ) → at ≤ length b → length r ≡ n → overlaid (overlaid b at r) (at + n) m ≡ overlaid b at (r ++ m)
overlaid_behind b r m at n within long =
    let front = take at b ++ r in
    let far : length front ≡ at + n = omega (arith, length-append (take at b) r, length-take-le at b within) in
    let end : at + length r + length m ≡ at + length (r ++ m) = omega (arith, length-append r m) in
    ap (λ l. overlaid l (at + n) m) (sym (append_assoc (take at b) r (drop (at + length r) b)))
    ∙ overlaid-after front (drop (at + length r) b) m (at + n) far
    ∙ ap (λ l. (front ++ m) ++ l) (drop-drop (length m) (at + length r) b ∙ ap (λ k. drop k b) end)
    ∙ ap (λ l. l ++ drop (at + length (r ++ m)) b) (append_assoc (take at b) r m)
    ∙ append_assoc (take at b) (r ++ m) (drop (at + length (r ++ m)) b)
