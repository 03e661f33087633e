-- How many letters wait in each queue of lines, and what a step on one queue does to the others.
use Rattle.std.proofs.Common.{◌≡◌, ℕ, ◌*◌, ◌<◌, ◌≤◌, ◌≢◌, List, length, get_or, set, sym, ap, ◌∙◌, subst, ⊎_elim, arith}
use Rattle.std.proofs.lemmas.List.{get_or-set_same, get_or-set_other, set_past}
use Rattle.std.proofs.lemmas.Bool.{cases_eq, cases_lt}
use Rattle.carriers.specs.Places.{OnlyAt, part_at}
use Rattle.carriers.specs.Lines.{lines_meaning}
use Rattle.carriers.proofs.Rows.{other_queue}

-- the counts after one is set
pub within_set : (counts : List ℕ) (at v size : ℕ) → v ≤ size → ((k : ℕ) → get_or counts k 0 ≤ size) → (k : ℕ) → get_or (set counts at v) k 0 ≤ size
within_set counts at v size le all k = ⊎_elim
    (λ same. ⊎_elim
    (λ inside. subst (λ n. n ≤ size) (sym (ap (λ i. get_or (set counts at v) i 0) same ∙ get_or-set_same counts at v 0 inside)) le)
    (λ past. subst (λ l. get_or l k 0 ≤ size) (sym (set_past counts at v past)) (all k))
    (cases_lt at (length counts)))
    (λ other. subst (λ n. n ≤ size) (sym (get_or-set_other counts at k v 0 other)) (all k))
    (cases_eq k at)

pub beyond_set : (counts : List ℕ) (at v seats : ℕ) → at < seats → ((k : ℕ) → seats ≤ k → get_or counts k 0 ≡ 0) → (k : ℕ) → seats ≤ k → get_or (set counts at v) k 0 ≡ 0
beyond_set counts at v seats h all k le =
    let other : k ≢ at = omega arith in
    get_or-set_other counts at k v 0 other ∙ all k le

-- a step on the queue of one seat, which writes only its places and sets its count
module _ {L : Type 0} (seats size : ℕ) (counts : List ℕ) (row row' : List L) (at v : ℕ) (only : OnlyAt (at * size) size row row') where
  pub other_waiting : (k : ℕ) → get_or counts k 0 ≤ size → ¬ (k ≡ at) → (lines_meaning seats size (set counts at v) row').waiting k ≡ (lines_meaning seats size counts row).waiting k
  other_waiting k within ne =
      ap (λ n. part_at (k * size) n row') (get_or-set_other counts at k v 0 ne) ∙ other_queue size at k (get_or counts k 0) row row' only ne within

  pub own_waiting : at < length counts → (lines_meaning seats size (set counts at v) row').waiting at ≡ part_at (at * size) v row'
  own_waiting h = ap (λ n. part_at (at * size) n row') (get_or-set_same counts at v 0 h)
