-- A put on its way through the seats of lines.
use Rattle.std.proofs.Common.{◌≡◌, ℕ, suc, ◌+◌, ◌*◌, ◌<◌, ◌≤◌, not, ltb, ◌==◌, List, [], ◌∷◌, ◌++◌, get_or, set, sym, ap, ◌∙◌, subst, ⊎_elim, arith}
use Rattle.std.proofs.lemmas.List.{get_or-set_other}
use Rattle.std.proofs.lemmas.Bool.{cases_eq, cases_lt, cond-true, cond-false, and_from, and_left, and_right, lt-ltb, le-ltb, eq-eqb, ne_eqb}
use Rattle.letters.specs.declared.letter.Letter.{Letter}
use Rattle.carriers.specs.declared.lines.Lines.{Lines}
use Rattle.carriers.specs.Meaning.{PutOn}
use Rattle.carriers.specs.Appending.{appended}
use Rattle.carriers.specs.Lines.{lines_of, put_places, table_put}
use Rattle.carriers.proofs.Appended.{put_appended}

module _ {B : Type 0} (old : Lines B) (x : Letter B) where
  -- the seats of the old lines below i have the letter in the new ones, but for its poster
  pub record Sent (i : ℕ) (new : Lines B) : Type 0 where
    pub seats : new.seats ≡ old.seats
    pub size : new.size ≡ old.size
    pub lender : new.places.ghost_name ≡ old.places.ghost_name
    pub passed : (k : ℕ) → k < i → ¬ (k ≡ x.poster) → (lines_of new).waiting k ≡ (lines_of old).waiting k ++ (x ∷ [])
    pub own : (lines_of new).waiting x.poster ≡ (lines_of old).waiting x.poster
    pub counts : (k : ℕ) → i ≤ k → get_or new.counts k 0 ≡ get_or old.counts k 0
    pub ahead : (k : ℕ) → i ≤ k → (lines_of new).waiting k ≡ (lines_of old).waiting k
    pub table : new.places.now ≡ put_places old.size old.counts x.poster x old.places.now i

  -- the places once the seats below n have the letter
  abbrev placed : ℕ → List (Letter B)
  placed n = put_places old.size old.counts x.poster x old.places.now n

  module _ (i : ℕ) (mid : Lines B) (s : Sent i mid) where
    next : i + 1 ≡ suc i
    next = omega arith

    pub sent_skip : i ≡ x.poster → Sent (i + 1) mid
    sent_skip e = record {
      seats = s.seats;
      size = s.size;
      lender = s.lender;
      passed = λ k h ne. let other : ¬ (k ≡ i) = (λ same. ne (same ∙ e)) in s.passed k (omega arith) ne;
      own = s.own;
      counts = λ k h. s.counts k (omega arith);
      ahead = λ k h. s.ahead k (omega arith);
      table = s.table ∙ sym (ap placed next ∙ cond-true (i == x.poster) (placed i) _ (eq-eqb i x.poster e));
    }

    pub sent_more : (new : Lines B) → ¬ (i ≡ x.poster) →
        new.seats ≡ mid.seats → new.size ≡ mid.size → new.places.ghost_name ≡ mid.places.ghost_name → new.counts ≡ set mid.counts i (get_or mid.counts i 0 + 1) →
        (lines_of new).waiting i ≡ (lines_of mid).waiting i ++ (x ∷ []) → ((k : ℕ) → ¬ (k ≡ i) → (lines_of new).waiting k ≡ (lines_of mid).waiting k) →
        new.places.now ≡ set mid.places.now (i * mid.size + get_or mid.counts i 0) x → Sent (i + 1) new
    sent_more new ne seats size lender counts grown others table = record {
      seats = seats ∙ s.seats;
      size = size ∙ s.size;
      lender = lender ∙ s.lender;
      passed = λ k lt not_own. ⊎_elim
          (λ same. subst (λ j. (lines_of new).waiting j ≡ (lines_of old).waiting j ++ (x ∷ [])) (sym same) (grown ∙ ap (λ l. l ++ (x ∷ [])) (s.ahead i (omega arith))))
          (λ other. others k other ∙ s.passed k (omega arith) not_own)
          (cases_eq k i);
      own = others x.poster (λ e. ne (sym e)) ∙ s.own;
      counts = λ k le. let other : ¬ (k ≡ i) = (λ e. omega arith) in ap (λ l. get_or l k 0) counts ∙ get_or-set_other mid.counts i k _ 0 other ∙ s.counts k (omega arith);
      ahead = λ k le. let other : ¬ (k ≡ i) = (λ e. omega arith) in others k other ∙ s.ahead k (omega arith);
      table = table
          ∙ ap (λ l. set l (i * mid.size + get_or mid.counts i 0) x) s.table
          ∙ ap (λ n. set (placed i) (i * n + get_or mid.counts i 0) x) s.size
          ∙ ap (λ n. set (placed i) (i * old.size + n) x) (s.counts i (omega arith))
          ∙ sym (ap placed next ∙ cond-false (i == x.poster) _ _ (ne_eqb i x.poster ne));
    }

    pub sent_exact : i ≡ old.seats → (k : ℕ) → (lines_of mid).waiting k ≡ appended (lines_of old) x.poster x k
    sent_exact e k = ⊎_elim
        (λ own. subst (λ j. (lines_of mid).waiting j ≡ (lines_of old).waiting j) (sym own) s.own
        ∙ sym (cond-false _ _ _ (and_right (ltb k old.seats) _ (ap not (eq-eqb k x.poster own)))))
        (λ other. ⊎_elim
        (λ below. s.passed k (omega arith) other ∙ sym (cond-true _ _ _ (and_from _ _ (lt-ltb k old.seats below) (ap not (ne_eqb k x.poster other)))))
        (λ above. s.ahead k (omega arith) ∙ sym (cond-false _ _ _ (and_left _ _ (le-ltb k old.seats above))))
        (cases_lt k old.seats))
        (cases_eq k x.poster)

    pub sent_table : i ≡ old.seats → mid.places.now ≡ table_put old x
    sent_table e = s.table ∙ ap placed e

    pub sent_all : i ≡ old.seats → PutOn (lines_of old) x.poster x (lines_of mid)
    sent_all e = put_appended (lines_of old) (lines_of mid) x.poster x s.seats (sent_exact e)
