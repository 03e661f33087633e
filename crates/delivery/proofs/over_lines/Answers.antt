use Rattle.std.proofs.Common.{inl, rules, ◌≡◌, ℕ, zero, suc, ◌+◌, ◌-◌, ◌*◌, ◌<◌, not, ◌&&◌, nat_lt, ◌++◌, drop, cond, List, [], ◌∷◌, length, get_or, set, replicate, Ok, Err, OnOk, Result, sym, ap, ◌∙◌, arith, refl, ◌==◌}
use Rattle.std.proofs.Math.Seq.{paste, paste-zero}
use Rattle.std.specs.List.{copy_within}
use Rattle.std.proofs.lemmas.Bool.{and_from, cond-true, lt-ltb, ne_eqb}
use Rattle.letters.specs.declared.refusal.Refusal.{Refusal}
use Rattle.letters.specs.Letters.{parts_of}
use Rattle.carriers.specs.Appending.{Appends}
use Rattle.carriers.specs.Lines.{lines_of, put_places, table_drawn, table_put}
use Rattle.carriers.specs.LineLemmas.{lawful_lines, length_waiting}
use Rattle.carriers.proofs.Decisions.{draw_ok, no_refusal, put_accepted, put_ok}
use Rattle.delivery.specs.Passing.{and_then, delivery_answer, first_answer, parts_by}
use Rattle.delivery.proofs.Client.{SomeFor, after_yes, first_drawn, first_ok, pass_ok, passed, some_waits}
use Rattle.delivery.proofs.over_lines.Goals as goal

-- what holds anyway holds where the answer accepts
after_ok : (r : Result (Unit {0}) Refusal) (P : Type 0) → P → OnOk r P
after_ok (Ok u) P p = p
after_ok (Err why) P p = tt

-- where the counts are the same, so are the places
same_places : {L : Type 0} (size : ℕ) (counts other : List ℕ) (poster : ℕ) (x : L) (places : List L) (n : ℕ)
    → ((k : ℕ) → k < n → get_or counts k 0 ≡ get_or other k 0) → put_places size counts poster x places n ≡ put_places size other poster x places n
same_places size counts other poster x places zero same = refl
same_places size counts other poster x places (suc n) same =
    let before = same_places size counts other poster x places n (λ k h. same k (omega arith)) in
    let here = same n (omega arith) in
    ap (λ l. cond (n == poster) l (set l (n * size + get_or counts n 0) x)) before
    ∙ ap (λ c. cond (n == poster) (put_places size other poster x places n) (set (put_places size other poster x places n) (n * size + c) x)) here

-- closing up behind the last place moves nothing
nothing_closed : {L : Type 0} (xs : List L) (from to at : ℕ) → from ≡ to → copy_within xs from to at ≡ xs
nothing_closed xs from to at e =
    let none : to - from ≡ 0 = omega arith in
    ap (λ n. paste xs at (drop from xs) n) none ∙ sym (paste-zero xs at (drop from xs))

zeros_at : (n k : ℕ) → ◌≡◌ {A = ℕ} (get_or (replicate n 0) k 0) 0
zeros_at zero k = refl
zeros_at (suc n) zero = refl
zeros_at (suc n) (suc k) = zeros_at n k

pub returns : goal.returns
returns g c =
    let l = c.new-lines.result in
    let m = lines_of l in
    let mid = c.put.new.self in
    let x = c.args.letter.now in
    let seats = c.args.seats in
    let seat = c.args.seat in
    let lent = c.args.parts.now in
    let none = c.new-lines.ensures.empty in
    let law = lawful_lines l in
    let below : x.poster < l.seats = omega (arith, c.poster-poster.ensures, c.new-lines.ensures.seats, c.if-poster-seats.false) in
    let here : seat < l.seats = omega (arith, c.new-lines.ensures.seats, c.if-seat-seats.false) in
    let other : ¬ (seat ≡ x.poster) = λ own. c.if-seat-poster.false (own ∙ sym c.poster-poster.ensures) in
    let fits = law.empty_fits none x.poster below in
    let took = c.put.ensures.answer ∙ put_ok m x.poster below fits in
    let put = put_accepted m (lines_of mid) x.poster x c.put.result took c.put.ensures.leaves in
    let some : SomeFor x m x.poster seat = inl other in
    let there : seat < (lines_of mid).seats = omega (arith, here, put.seats) in
    let drew = c.draw.ensures.answer ∙ draw_ok (lines_of mid) seat 0 there (some_waits x m (lines_of mid) x.poster seat put here some) in
    let passes = passed lines_of (λ o y after. Appends (lines_of o) y.poster y (lines_of after)) l x seat lent c.draw.new.parts c.draw.new.self mid c.draw.result drew (after_yes c.put.result _ took c.put.ensures.once) put c.draw.ensures.leaves in
    let ends = first_drawn lines_of _ l law none x seat lent c.draw.new.parts c.draw.result c.draw.new.self (drew ∙ sym (pass_ok x m x.poster seat below fits here some), passes) in
    let same : first_answer l.seats x.poster seat ≡ delivery_answer seats c.args.size (length c.args.places.now) x.poster seat =
    ap (λ n. first_answer n x.poster seat) c.new-lines.ensures.seats ∙ ap (λ a. and_then a (first_answer seats x.poster seat)) c.in_ok-check.ensures in
    let after = c.draw.new.self in
    let zeros : List ℕ = replicate 16 0 in
    let grown = after_yes c.put.result _ took c.put.ensures.once seat in
    let waits : length ((lines_of mid).waiting seat) ≡ 1 =
    ap length (grown ∙ cond-true (nat_lt seat l.seats && not (seat == x.poster)) _ _ (and_from _ _ (lt-ltb seat l.seats here) (ap not (ne_eqb seat x.poster other))) ∙ ap (λ w. w ++ (x ∷ [])) (none seat)) in
    let one : get_or mid.counts seat 0 ≡ 1 = sym (length_waiting mid seat there) ∙ waits in
    let closed : table_drawn mid seat 0 ≡ mid.places.now = nothing_closed mid.places.now (seat * mid.size + 1) (seat * mid.size + get_or mid.counts seat 0) (seat * mid.size + 0) (sym (ap (λ n. seat * mid.size + n) one)) in
    let empties : (k : ℕ) → k < l.seats → get_or l.counts k 0 ≡ get_or zeros k 0 = λ k h. sym (length_waiting l k h) ∙ ap length (none k) ∙ sym (zeros_at 16 k) in
    let drawn : after.places.now ≡ table_drawn mid seat 0 = after_yes c.draw.result _ drew c.draw.ensures.table in
    let written : mid.places.now ≡ table_put l x = after_yes c.put.result _ took c.put.ensures.table in
    let whole = drawn ∙ closed ∙ written ∙ same_places l.size l.counts zeros x.poster x l.places.now l.seats empties
    ∙ ap (λ z. put_places z zeros x.poster x l.places.now l.seats) c.new-lines.ensures.size
    ∙ ap (λ t. put_places c.args.size zeros x.poster x t l.seats) c.new-lines.ensures.table
    ∙ ap (λ n. put_places c.args.size zeros x.poster x c.args.places.now n) c.new-lines.ensures.seats in
    record {
      answer = ends.0 ∙ same;
      filled = ends.1 ∙ ap (λ d. parts_by d (parts_of x) lent) same;
      kept = no_refusal _ _ (ends.0 ∙ first_ok l.seats x.poster seat below here other);
      table = after_ok c.draw.result _ (let is : c.places-1.given.0 ≡ c.draw.new.self.places.now = search rules in is ∙ whole);
    }
