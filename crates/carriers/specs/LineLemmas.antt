-- Lines are lawful.
use Rattle.std.specs.Prelude.{◌≡◌, Decides, ℕ, zero, suc, ◌+◌, ◌*◌, ◌<◌, ◌≤◌, true, ◌||◌, List, length, take, drop, ◌==◌, nat_lt, slice_index, refl}
use Rattle.std.proofs.Common.{ap, sym, subst, ◌∙◌, ⊎_elim, arith, suc-mul, mul-le-mul_right, length-drop}
use Rattle.std.proofs.lemmas.List.{length-take-le}
use Rattle.std.proofs.lemmas.Bool.{cases_eq, lt-ltb, le-ltb, ltb-true, eq-eqb, eqb-true, and_from, and_left, and_parts, or_cases, or_left, or_right}
use Rattle.carriers.specs.declared.lines.Lines.{Lines}
use Rattle.carriers.specs.Meaning.{LawfulMeaning}
use Rattle.carriers.specs.Places.{part_at}
use Rattle.carriers.specs.Lines.{HasPlaces, lines_of, others_free}

-- a queue ends before a later one begins
pub queue_end : (size at other : ℕ) → at < other → at * size + size ≤ other * size
queue_end size at other h = let e = suc-mul at size in let le : suc at * size ≤ other * size = mul-le-mul_right size h in omega arith

-- a queue is as long as its count says
pub length_queue : {L : Type 0} (size seats at n : ℕ) (row : List L) → at < seats → n ≤ size → seats * size ≤ length row → length (part_at (at * size) n row) ≡ n
length_queue size seats at n row h le fits =
    let d = length-drop (at * size) row in
    length-take-le n (drop (at * size) row) (omega (arith, queue_end size at seats h))

-- one seat more has a free place, or is the poster
pub free_more : (counts : List ℕ) (size poster n : ℕ) → (¬ (n ≡ poster) → slice_index counts n < size) → others_free counts size poster n ≡ true → others_free counts size poster (suc n) ≡ true
free_more counts size poster n here r = and_from _ _
    (⊎_elim
    (λ same. or_left (n == poster) _ (eq-eqb n poster same))
    (λ other. or_right (n == poster) _ (lt-ltb _ _ (here other)))
    (cases_eq n poster))
    r

-- each of them has, but for the poster
free_all : (counts : List ℕ) (size poster n : ℕ) → ((k : ℕ) → k < n → ¬ (k ≡ poster) → slice_index counts k < size) → others_free counts size poster n ≡ true
free_all counts size poster zero all = refl
free_all counts size poster (suc n) all = free_more counts size poster n (all n (omega arith)) (free_all counts size poster n (λ k h. all k (omega arith)))

-- the others have where the test says so
pub free_at : (counts : List ℕ) (size poster n k : ℕ) → others_free counts size poster n ≡ true → k < n → ¬ (k ≡ poster) → slice_index counts k < size
free_at counts size poster zero k r h ne = absurd (omega arith)
free_at counts size poster (suc n) k r h ne =
    let parts = and_parts ((n == poster) || nat_lt (slice_index counts n) size) (others_free counts size poster n) r in
    ⊎_elim
    (λ same. ⊎_elim
    (λ e. absurd (ne (same ∙ eqb-true _ _ e)))
    (λ l. subst (λ i. slice_index counts i < size) (sym same) (ltb-true _ _ l))
    (or_cases (n == poster) (nat_lt (slice_index counts n) size) parts.0))
    (λ other. free_at counts size poster n k parts.1 (omega arith) ne)
    (cases_eq k n)

module _ {B : Type 0} (l : Lines B) where
  pub length_waiting : (k : ℕ) → k < l.seats → length ((lines_of l).waiting k) ≡ slice_index l.counts k
  length_waiting k h = length_queue l.size l.seats k (slice_index l.counts k) l.places.now h (l.within k) l.whole

  pub lawful_lines : LawfulMeaning (lines_of l)
  lawful_lines = record {
    some_seats = l.some;
    few_seats = l.few;
    no_waiting = λ k h. ap (λ n. take n (drop (k * l.size) l.places.now)) (l.beyond k h);
    no_fits = λ k h. and_left _ _ (le-ltb k l.seats h);
    empty_fits = λ none p h. and_from _ _ (lt-ltb p l.seats h)
        (free_all l.counts l.size p l.seats (λ k lt ne.
        let nothing : length ((lines_of l).waiting k) ≡ 0 = ap length (none k) in
        let sized = l.sized in
        omega (arith, length_waiting k lt, nothing)));
  }

  -- whether a letter fits, in terms of the lists
  pub fits_decides : (p : ℕ) → Decides ((lines_of l).fits p) (HasPlaces l p)
  fits_decides p = (
    λ fits.
        let parts = and_parts (nat_lt p l.seats) (others_free l.counts l.size p l.seats) fits in
        (ltb-true _ _ parts.0, λ k h ne. let free = free_at l.counts l.size p l.seats k parts.1 h ne in omega (arith, length_waiting k h, free)),
    λ has. and_from _ _ (lt-ltb p l.seats has.0)
        (free_all l.counts l.size p l.seats (λ k h ne. let free = has.1 k h ne in omega (arith, length_waiting k h, free))),
  )
