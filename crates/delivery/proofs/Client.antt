-- What follows for a user of a carrier from its contract.
use Rattle.std.proofs.Common.{inl, ◌⊎◌, ◌≡◌, ℕ, zero, suc, ◌<◌, true, false, ◌&&◌, ◌==◌, List, [], ◌++◌, length, get_or, replicate, Ok, Err, OnOk, Result, sym, refl, ap, ◌∙◌, subst, ⊎_elim, arith, length-append}
use lib.ListN.{length-replicate}
use Rattle.std.specs.List.{AllByRecursion as All}
use Rattle.std.proofs.ByRecursion.{All-append, All-get_or, all_shuffled}
use Rattle.std.proofs.lemmas.List.{get_or-map}
use Rattle.std.proofs.lemmas.List.Sorted.{length_permutation}
use Rattle.std.proofs.lemmas.Bool.{and_from, and_left, and_right, cases_eq, cases_lt, eq-eqb, le-ltb, lt-ltb, ne_eqb}
use Rattle.letters.specs.declared.letter.Letter.{Letter}
use Rattle.letters.specs.declared.refusal.Refusal.{Refusal}
use Rattle.letters.specs.declared.parts.Parts.{Parts}
use Rattle.letters.specs.Letters.{parts_of}
use Rattle.letters.specs.Refusals.{Reason, as_answer, plain}
use Rattle.carriers.specs.Putting.{Gains}
use Rattle.carriers.specs.Meaning.{DrawLeaves, Empty, LawfulMeaning, Meaning, PutOn, put_answer, waits_at}
use Rattle.carriers.proofs.Decisions.{not_both, put_ok}
use Rattle.delivery.specs.Passing.{Passes, first_answer, parts_by, pass_answer}

module _ {L : Type 0} (x : L) where
  only_copies : (n : ℕ) → All (λ y. y ≡ x) (replicate n x)
  only_copies zero = tt
  only_copies (suc n) = (refl, only_copies n)

  -- a list that was empty and gained x holds x and nothing else
  pub gained_first : (ys : List L) → Gains x [] ys → (0 < length ys) × ((d : L) → get_or ys 0 d ≡ x)
  gained_first ys g =
      let copies : List L = replicate (suc g.more) x in
      let all : All (λ y. y ≡ x) ys = all_shuffled (λ y. y ≡ x) (copies ++ []) ys g.reordered (All-append (λ y. y ≡ x) copies [] (only_copies (suc g.more)) tt) in
      let long : length ys ≡ length (copies ++ []) = length_permutation (copies ++ []) ys g.reordered in
      let some : 0 < length ys = omega (arith, long, length-append copies [], length-replicate {A = L} (suc g.more) x) in
      (some, λ d. All-get_or (λ y. y ≡ x) ys 0 d some all)

  -- a list that gained x is not empty
  gained_some : (xs ys : List L) → Gains x xs ys → 0 < length ys
  gained_some xs ys g =
      let copies : List L = replicate (suc g.more) x in
      let long : length ys ≡ length (copies ++ xs) = length_permutation (copies ++ xs) ys g.reordered in
      omega (arith, long, length-append copies xs, length-replicate {A = L} (suc g.more) x)

  -- something waits for the seat: the letter, if it is not its poster's own, or what waited there before
  abbrev pub SomeFor : Meaning L → ℕ → ℕ → Type 0
  SomeFor m poster seat = (¬ (seat ≡ poster)) ⊎ (0 < waits_at m seat)

  pub some_waits : (m mid : Meaning L) (poster seat : ℕ) → PutOn m poster x mid → seat < m.seats → SomeFor m poster seat → 0 < waits_at mid seat
  some_waits m mid poster seat put h some =
      let gained : ¬ (seat ≡ poster) → 0 < waits_at mid seat = λ other. let long = gained_some (m.waiting seat) (mid.waiting seat) (put.lists.others seat h other) in omega (arith, long) in
      ⊎_elim
      gained
      (λ there. ⊎_elim
      (λ own. let same : length (mid.waiting seat) ≡ length (m.waiting seat) = ap length (subst (λ k. mid.waiting k ≡ m.waiting k) (sym own) put.lists.own) in omega (arith, same))
      gained
      (cases_eq seat poster))
      some

  -- then putting and drawing are both accepted
  pub pass_ok : (m : Meaning L) (poster seat : ℕ) → poster < m.seats → m.fits poster ≡ true → seat < m.seats → SomeFor m poster seat → pass_answer m poster seat ≡ Ok tt
  pass_ok m poster seat h f l some =
      let waits : (seat == poster && waits_at m seat == 0) ≡ false = ⊎_elim
      (λ other. and_left _ _ (ne_eqb seat poster other))
      (λ there. and_right _ _ (ne_eqb (waits_at m seat) 0 (λ none. absurd (omega (arith, there, none)))))
      some in
      rw (put_ok m poster h f, lt-ltb seat m.seats l, waits) refl

-- what holds where an answer accepts, of an answer that accepts
pub after_yes : (r : Result (Unit {0}) Refusal) (P : Type 0) → as_answer (λ u. u) r ≡ Ok tt → OnOk r P → P
after_yes (Ok u) P took p = p
after_yes (Err why) P took p = not_both took

-- a seat that is not the poster draws
pub first_ok : (seats p seat : ℕ) → p < seats → seat < seats → ¬ (seat ≡ p) → first_answer seats p seat ≡ Ok tt
first_ok seats p seat h here other = rw (lt-ltb p seats h, lt-ltb seat seats here, ne_eqb seat p other) refl

module _ {B C : Type 0} (meaning : C → Meaning (Letter B)) (puts : C → Letter B → C → Type 0) (c : C) (x : Letter B) (seat : ℕ) (lent filled : Parts B) (after : C) where
  -- after one put, a draw that was accepted
  pub passed : (mid : C) (r : Result (Unit {0}) Refusal) → as_answer (λ u. u) r ≡ Ok tt → puts c x mid → PutOn (meaning c) x.poster x (meaning mid)
      → DrawLeaves parts_of r (meaning mid) seat 0 (meaning after) lent filled → Passes meaning puts r c x seat lent after filled
  passed mid (Ok u) took once put left = (mid, once, put, left.0, left.1)
  passed mid (Err why) took once put left = not_both took

  nothing_filled : (r : Result (Unit {0}) Refusal) (why : Reason) → as_answer (λ u. u) r ≡ Err why → Passes meaning puts r c x seat lent after filled → filled ≡ lent
  nothing_filled (Ok u) why refused passes = not_both (sym refused)
  nothing_filled (Err w) why refused passes = passes.1

  -- where nothing waited before, the letter is drawn by every other seat
  own_filled : (r : Result (Unit {0}) Refusal) → as_answer (λ u. u) r ≡ Ok tt → Empty (meaning c) → seat < (meaning c).seats → ¬ (seat ≡ x.poster)
      → Passes meaning puts r c x seat lent after filled → filled ≡ parts_of x
  own_filled (Ok u) took none h other (mid, once, put, drawn, fill) =
      let gains : Gains x [] ((meaning mid).waiting seat) = subst (λ l. Gains x l ((meaning mid).waiting seat)) (none seat) (put.lists.others seat h other) in
      let first = gained_first x ((meaning mid).waiting seat) gains in
      fill ∙ get_or-map parts_of ((meaning mid).waiting seat) 0 x lent first.0 ∙ ap parts_of (first.1 x)
  own_filled (Err why) took none h other passes = not_both took

-- on a carrier with nothing waiting, a letter that is put is the first that another seat draws
module _ {B C : Type 0} (meaning : C → Meaning (Letter B)) (puts : C → Letter B → C → Type 0) (c : C) (law : LawfulMeaning (meaning c)) (none : Empty (meaning c))
    (x : Letter B) (seat : ℕ) (lent filled : Parts B) (r : Result (Unit {0}) Refusal) (after : C) where
  abbrev m : Meaning (Letter B)
  m = meaning c

  abbrev p : ℕ
  p = x.poster

  abbrev EndsBy : Result (Unit {0}) Reason → Type 0
  EndsBy d = (as_answer (λ u. u) r ≡ d) × (filled ≡ parts_by d (parts_of x) lent)

  abbrev Left : Type 0
  Left = (as_answer (λ u. u) r ≡ pass_answer m p seat) × Passes meaning puts r c x seat lent after filled

  ends_refused : (why : Reason) → Left → pass_answer m p seat ≡ Err why → first_answer m.seats p seat ≡ Err why → EndsBy (first_answer m.seats p seat)
  ends_refused why left pass first =
      let no = left.0 ∙ pass in
      subst EndsBy (sym first) (no, nothing_filled meaning puts c x seat lent filled after r why no left.1)

  pub first_drawn : Left → EndsBy (first_answer m.seats p seat)
  first_drawn left = ⊎_elim
      (λ h. let took : put_answer m p ≡ Ok tt = put_ok m p h (law.empty_fits none p h) in
      ⊎_elim
      (λ here. ⊎_elim
      (λ own.
      let nothing : length (m.waiting seat) ≡ 0 = ap length (none seat) in
      let zero' : waits_at m seat ≡ 0 = omega (arith, nothing) in
      let both' : (seat == p && waits_at m seat == 0) ≡ true = and_from _ _ (eq-eqb seat p own) (eq-eqb (waits_at m seat) 0 zero') in
      ends_refused (plain 14) left (rw (took, lt-ltb seat m.seats here, both') refl) (rw (lt-ltb p m.seats h, lt-ltb seat m.seats here, eq-eqb seat p own) refl))
      (λ other.
      let yes' = left.0 ∙ pass_ok x m p seat h (law.empty_fits none p h) here (inl other) in
      let first = first_ok m.seats p seat h here other in
      subst EndsBy (sym first) (yes', own_filled meaning puts c x seat lent filled after r yes' none here other left.1))
      (cases_eq seat p))
      (λ out. ends_refused (plain 8) left (rw (took, le-ltb seat m.seats out) refl) (rw (lt-ltb p m.seats h, le-ltb seat m.seats out) refl))
      (cases_lt seat m.seats))
      (λ out. ends_refused (plain 8) left (rw (le-ltb p m.seats out) refl) (rw (le-ltb p m.seats out) refl))
      (cases_lt p m.seats)
