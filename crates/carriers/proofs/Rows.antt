-- Queues side by side in one row of places.
use Rattle.std.proofs.Common.{◌≡◌, ℕ, ◌+◌, ◌-◌, ◌*◌, ◌<◌, ◌≤◌, List, ◌++◌, length, get_or, set, take, drop, sym, ap, ◌∙◌, ⊎_elim, arith, length-drop}
use Rattle.std.proofs.lemmas.Bool.{cases_order}
use borrow.Rule.Slice.PartMut.{put_mid}
use lib.Seq.{take-add}
use Rattle.std.proofs.lemmas.List.{take-take, drop-take, drop_at, append_assoc, take-append-drop, take-append-le, drop-drop, length-take-le, set-append_left, set-append_right}
use Rattle.std.proofs.lemmas.Slice.{take-put_mid_below, drop-put_mid}
use Rattle.std.specs.List.{copy_within, remove}
use Rattle.std.proofs.lemmas.List.{get_or-take}
use Rattle.carriers.specs.Places.{OnlyAt, part_at}
use Rattle.carriers.specs.LineLemmas.{queue_end}

module _ {X : Type 0} (start size : ℕ) (row : List X) (fits : start + size ≤ length row) where
  -- the part of the row that is lent to one queue, as the code cuts it
  abbrev pub cut : ℕ
  cut = start + size - start

  module _ (part : List X) (long : length part ≡ cut) where
    pub only_part : OnlyAt start size row (put_mid start cut row part)
    only_part = (
      take-put_mid_below start cut row part start (omega arith) (omega arith),
      drop-put_mid start cut row part (start + size) (omega arith) (omega arith) long,
    )

    pub queue_in_part : (n : ℕ) → n ≤ size → part_at start n (put_mid start cut row part) ≡ take n part
    queue_in_part n le =
        ap (take n) (drop_at (take start row) _ start (length-take-le start row (omega arith))) ∙ take-append-le n part _ (omega arith)

  pub queue_of_part : (n : ℕ) → n ≤ size → take n (take cut (drop start row)) ≡ part_at start n row
  queue_of_part n le = take-take n cut (drop start row) (omega arith)

  module _ (part : List X) (long : length part ≡ cut) (n : ℕ) where
    -- a place taken out
    pub taken_out : (place : ℕ) → n ≤ size → take (n - 1) part ≡ remove (take n (take cut (drop start row))) place
        → part_at start (n - 1) (put_mid start cut row part) ≡ remove (part_at start n row) place
    taken_out place le is = queue_in_part part long (n - 1) (omega arith) ∙ is ∙ ap (λ l. remove l place) (queue_of_part n le)

  -- the place that is read
  pub read_in_part : (n place : ℕ) (d : X) → place < n → n ≤ size → get_or (take cut (drop start row)) place d ≡ get_or (part_at start n row) place d
  read_in_part n place d lt le = get_or-take cut (drop start row) place d (omega arith) ∙ sym (get_or-take n (drop start row) place d (omega arith))

module _ {X : Type 0} (start size : ℕ) (row : List X) (fits : start + size ≤ length row) where
  abbrev k : ℕ
  k = cut start size row fits

  abbrev mid : List X
  mid = take k (drop start row)

  length-mid : length mid ≡ k
  length-mid = let long = length-drop start row in length-take-le k (drop start row) (omega (arith, long))

  abbrev rest : List X
  rest = drop k (drop start row)

  -- the row: what is in front of the part, the part, and the rest
  in_parts : row ≡ take start row ++ (mid ++ rest)
  in_parts = sym (ap (λ l. take start row ++ l) (take-append-drop k (drop start row)) ∙ take-append-drop start row)

  -- a place that is written in the part is written in the row
  pub written_in_part : (n : ℕ) (x : X) → n < size → put_mid start k row (set mid n x) ≡ set row (start + n) x
  written_in_part n x lt =
      let there : start + n - start ≡ n = omega arith in
      sym (ap (λ l. set l (start + n) x) in_parts
      ∙ set-append_right (take start row) (mid ++ rest) start (start + n) x (length-take-le start row (omega arith)) (omega arith)
      ∙ ap (λ i. take start row ++ set (mid ++ rest) i x) there
      ∙ ap (λ l. take start row ++ l) (set-append_left mid rest n x (omega (arith, length-mid))))

  -- places that move within the part move within the row
  pub moved_in_part : (from upto dest : ℕ) → dest ≤ from → from ≤ upto → upto ≤ size
      → put_mid start k row (copy_within mid from upto dest) ≡ copy_within row (start + from) (start + upto) (start + dest)
  moved_in_part from upto dest low some high =
      let part = drop start row in
      let j = upto - from in
      let q = dest + j in
      let front : take dest mid ≡ take dest part = take-take dest k part (omega arith) in
      let whole : k ≡ from + (k - from) = omega arith in
      let moved : take j (drop from mid) ≡ take j (drop (start + from) row) =
      ap (λ w. take j (drop from (take w part))) whole ∙ ap (take j) (drop-take from (k - from) part) ∙ take-take j (k - from) (drop from part) (omega arith) ∙ ap (take j) (drop-drop from start row) in
      let whole' : k ≡ q + (k - q) = omega arith in
      let behind : drop q mid ++ rest ≡ drop (start + q) row =
      ap (λ w. drop q (take w part) ++ drop w part) whole'
      ∙ ap (λ l. l ++ drop (q + (k - q)) part) (drop-take q (k - q) part)
      ∙ ap (λ l. take (k - q) (drop q part) ++ l) (sym (drop-drop (k - q) q part))
      ∙ take-append-drop (k - q) (drop q part)
      ∙ drop-drop q start row in
      let a = take dest mid in
      let m = take j (drop from mid) in
      let b = drop q mid in
      let e : take start row ++ (((a ++ m) ++ b) ++ rest) ≡ (take (start + dest) row ++ take j (drop (start + from) row)) ++ drop (start + q) row =
      ap (λ l. take start row ++ l) (append_assoc (a ++ m) b rest)
      ∙ sym (append_assoc (take start row) (a ++ m) (b ++ rest))
      ∙ ap (λ l. l ++ (b ++ rest)) (sym (append_assoc (take start row) a m))
      ∙ ap (λ l. ((take start row ++ l) ++ m) ++ (b ++ rest)) front
      ∙ ap (λ l. (l ++ m) ++ (b ++ rest)) (sym (take-add start dest row))
      ∙ ap (λ l. (take (start + dest) row ++ l) ++ (b ++ rest)) moved
      ∙ ap (λ l. (take (start + dest) row ++ take j (drop (start + from) row)) ++ l) behind in
      let same : j ≡ start + upto - (start + from) = omega arith in
      let end : start + q ≡ start + dest + (start + upto - (start + from)) = omega arith in
      e ∙ ap (λ n. (take (start + dest) row ++ take n (drop (start + from) row)) ++ drop (start + q) row) same
      ∙ ap (λ n. (take (start + dest) row ++ take (start + upto - (start + from)) (drop (start + from) row)) ++ drop n row) end

module _ {X : Type 0} where
  -- the queues before and behind the one that was written are as they were
  pub other_queue : (size at other n : ℕ) (before after : List X) → OnlyAt (at * size) size before after → (other ≡ at → ⊥) → n ≤ size → part_at (other * size) n after ≡ part_at (other * size) n before
  other_queue size at other n before after only ne le = ⊎_elim
      (λ same. absurd (ne same))
      (⊎_elim
      (λ below.
      let inside : other * size + n ≤ at * size = omega (arith, queue_end size other at below) in
      let same : take (other * size + n) after ≡ take (other * size + n) before =
      sym (take-take (other * size + n) (at * size) after inside) ∙ ap (take (other * size + n)) only.0 ∙ take-take (other * size + n) (at * size) before inside in
      sym (drop-take (other * size) n after) ∙ ap (drop (other * size)) same ∙ drop-take (other * size) n before)
      (λ above.
      let from = at * size + size in
      let gap = other * size - from in
      let far : from + gap ≡ other * size = omega (arith, queue_end size at other above) in
      let same : drop (other * size) after ≡ drop (other * size) before =
      ap (λ k. drop k after) (sym far) ∙ sym (drop-drop gap from after) ∙ ap (drop gap) only.1 ∙ drop-drop gap from before ∙ ap (λ k. drop k before) far in
      ap (take n) same))
      (cases_order other at)
