-- What the steps of a pair do, by those of its two carriers.
use Rattle.std.proofs.Common.{inl, inr, ◌≡◌, ℕ, ◌+◌, ◌-◌, ◌^◌, ◌<◌, ◌≤◌, min, true, ◌++◌, map, length, get_or, Ok, Err, OnOk, Result, sym, refl, ap, ◌∙◌, subst, ⊎_elim, arith, length-append}
use Rattle.std.specs.List.{remove}
use Rattle.std.proofs.lemmas.List.{get_or_append_left, get_or-append_right, map-append, length-map}
use Rattle.std.proofs.lemmas.Bool.{eq-eqb, and_from, cases_lt}
use Rattle.letters.specs.declared.refusal.Refusal.{Refusal}
use Rattle.letters.specs.Refusals.{Reason, as_answer, plain}
use Rattle.carriers.specs.Meaning.{Meaning, PutOn, Drawn, waits_at, put_answer, PutLeaves, draw_answer, DrawLeaves}
use Rattle.carriers.proofs.Decisions.{not_both, put_ok, draw_ok, draw_no_seat, draw_no_place, put_accepted, accepted_put, draw_accepted, accepted_draw, draw_refused, refused_draw}
use Rattle.carriers.proofs.Gained.{gains_append}
use Rattle.carriers.proofs.Removed.{removed_left, removed_right}
use Rattle.pair.specs.Pairs.{DrawsOne, joined, both}
use Rattle.pair.specs.PairLemmas.{both_level}

-- what holds of the first's put, which was accepted, and of the second's holds of both where the second's was
pub once_both : (r₁ r₂ : Result (Unit {0}) Refusal) (P Q : Type 0) → as_answer (λ u. u) r₁ ≡ Ok tt → OnOk r₁ P → OnOk r₂ Q → OnOk r₂ (P × Q)
once_both (Ok u) (Ok v) P Q took p q = (p, q)
once_both (Ok u) (Err why) P Q took p q = tt
once_both (Err why) r₂ P Q took p q = not_both took

module _ {L : Type 0} where
  -- a put that both take
  pub put_joined : (m n m' n' : Meaning L) (p : ℕ) (x : L) (r₁ r₂ : Result (Unit {0}) Refusal) →
      m.seats ≡ n.seats → p < m.seats → m.fits p ≡ true → n.fits p ≡ true →
      as_answer (λ u. u) r₁ ≡ put_answer m p → PutLeaves r₁ m p x m' → as_answer (λ u. u) r₂ ≡ put_answer n p → PutLeaves r₂ n p x n' →
      (as_answer (λ u. u) r₂ ≡ put_answer (both m n) p) × PutLeaves r₂ (both m n) p x (both m' n') × PutLeaves r₂ m p x m'
  put_joined m n m' n' p x r₁ r₂ s h f₁ f₂ a₁ l₁ a₂ l₂ =
      let h₂ : p < n.seats = omega arith in
      let yes₂ = put_ok n p h₂ f₂ in
      let d₁ : PutOn m p x m' = put_accepted m m' p x r₁ (a₁ ∙ put_ok m p h f₁) l₁ in
      let d₂ : PutOn n p x n' = put_accepted n n' p x r₂ (a₂ ∙ yes₂) l₂ in
      let before : both m n ≡ joined m n = both_level m n _ refl (eq-eqb _ _ s) in
      let after : both m' n' ≡ joined m' n' = both_level m' n' _ refl (eq-eqb _ _ (d₁.seats ∙ s ∙ sym d₂.seats)) in
      let d : PutOn (joined m n) p x (joined m' n') = record {
        seats = d₁.seats;
        lists = record {
          own = let e = d₁.lists.own in let e₂ = d₂.lists.own in rw (e, e₂);
          others = λ k lt ne. gains_append x _ _ _ _ (d₁.lists.others k lt ne) (d₂.lists.others k (omega arith) ne);
        };
      } in (
        a₂ ∙ yes₂ ∙ sym (ap (λ w. put_answer w p) before ∙ put_ok (joined m n) p h (and_from _ _ f₁ f₂)),
        accepted_put (both m n) (both m' n') p x r₂ (a₂ ∙ yes₂)
            (subst (λ w. PutOn w p x (both m' n')) (sym before) (subst (λ w. PutOn (joined m n) p x w) (sym after) d)),
        accepted_put m m' p x r₂ (a₂ ∙ yes₂) d₁,
      )

  pub waits_joined : (m n : Meaning L) (k a b : ℕ) → m.seats ≡ n.seats → a ≡ waits_at m k → b ≡ waits_at n k → min (a + b) (2 ^ 32 - 1) ≡ waits_at (both m n) k
  waits_joined m n k a b s e₁ e₂ =
      let before : both m n ≡ joined m n = both_level m n _ refl (eq-eqb _ _ s) in
      let len : length (m.waiting k ++ n.waiting k) ≡ length (m.waiting k) + length (n.waiting k) = length-append _ _ in
      let sum : min (a + b) (2 ^ 32 - 1) ≡ waits_at (joined m n) k = omega arith in
      sum ∙ sym (ap (λ w. waits_at w k) before)

  module _ {P : Type 0} (see : L → P) where
    -- what a draw answers and leaves
    abbrev pub Draws : Result (Unit {0}) Refusal → Meaning L → ℕ → ℕ → Meaning L → P → P → Type 0
    Draws r m seat place m' x y = (as_answer (λ u. u) r ≡ draw_answer m seat place) × DrawLeaves see r m seat place m' x y

    draws_at_both : (m n m' n' : Meaning L) (seat place : ℕ) (x y : P) (r : Result (Unit {0}) Refusal) →
        m.seats ≡ n.seats → m'.seats ≡ n'.seats → Draws r (joined m n) seat place (joined m' n') x y → Draws r (both m n) seat place (both m' n') x y
    draws_at_both m n m' n' seat place x y r s s' d =
        subst (λ w. Draws r w seat place (both m' n') x y) (sym (both_level m n _ refl (eq-eqb _ _ s)))
        (subst (λ w. Draws r (joined m n) seat place w x y) (sym (both_level m' n' _ refl (eq-eqb _ _ s'))) d)

    -- a draw that is accepted is at a place at which a letter waits
    drawn_place : (m : Meaning L) (seat place : ℕ) → draw_answer m seat place ≡ Ok tt → place < waits_at m seat
    drawn_place m seat place yes' = ⊎_elim
        (λ near. near)
        (λ far. ⊎_elim (λ here. not_both (sym (draw_no_place m seat place here far) ∙ yes')) (λ out. not_both (sym (draw_no_seat m seat place out) ∙ yes')) (cases_lt seat m.seats))
        (cases_lt place (waits_at m seat))

    -- which of the two was drawn from
    pub one_first : (m n m' : Meaning L) (seat place : ℕ) (x y : P) (r : Result (Unit {0}) Refusal) → Draws r m seat place m' x y → DrawsOne r m n seat place m' n
    one_first m n m' seat place x y (Ok u) d = let within = drawn_place m seat place (sym d.0) in inl (omega (arith, within), d.1.0, refl)
    one_first m n m' seat place x y (Err why) d = (d.1.0, refl)

    pub one_second : (m n n' : Meaning L) (seat place ahead : ℕ) (x y : P) (r : Result (Unit {0}) Refusal) → ahead ≡ waits_at m seat → ahead ≤ place → place < 2 ^ 32 - 1
        → Draws r n seat (place - ahead) n' x y → DrawsOne r m n seat place m n'
    one_second m n n' seat place ahead x y (Ok u) e h low d =
        let all : ahead ≡ length (m.waiting seat) = omega arith in
        inr (omega arith, subst (λ k. Drawn n seat (place - k) n') all d.1.0, refl)
    one_second m n n' seat place ahead x y (Err why) e h low d = (refl, d.1.0)

    module _ (m n : Meaning L) (s : m.seats ≡ n.seats) (seat place : ℕ) (x y : P) (r : Result (Unit {0}) Refusal) where
      length-joined : length ((joined m n).waiting seat) ≡ length (m.waiting seat) + length (n.waiting seat)
      length-joined = length-append _ _

      -- the pair refuses for the reason that one of the two has
      refuses : (w : Reason) (m' n' : Meaning L) → as_answer (λ u. u) r ≡ Err w → draw_answer (joined m n) seat place ≡ Err w → m' ≡ m → n' ≡ n → y ≡ x → Draws r (both m n) seat place (both m' n') x y
      refuses w m' n' refused pair-refuses first second lent = (
        refused ∙ sym (ap (λ v. draw_answer v seat place) (both_level m n _ refl (eq-eqb _ _ s)) ∙ pair-refuses),
        refused_draw (both m n) (both m' n') see seat place x y r w refused (ap (λ v. both v n') first ∙ ap (both m) second, lent),
      )

      first_refuses : (w : Reason) (m' : Meaning L) → draw_answer m seat place ≡ Err w → draw_answer (joined m n) seat place ≡ Err w → Draws r m seat place m' x y → Draws r (both m n) seat place (both m' n) x y
      first_refuses w m' refused pair-refuses d =
          let left = draw_refused m m' see seat place x y r w (d.0 ∙ refused) d.1 in
          refuses w m' n (d.0 ∙ refused) pair-refuses left.0 refl left.1

      second_refuses : (w : Reason) (n' : Meaning L) (at : ℕ) → draw_answer n seat at ≡ Err w → draw_answer (joined m n) seat place ≡ Err w → Draws r n seat at n' x y → Draws r (both m n) seat place (both m n') x y
      second_refuses w n' at refused pair-refuses d =
          let left = draw_refused n n' see seat at x y r w (d.0 ∙ refused) d.1 in
          refuses w m n' (d.0 ∙ refused) pair-refuses refl left.0 left.1

      -- the pair draws what one of the two draws
      draws : (m' n' : Meaning L) → as_answer (λ u. u) r ≡ Ok tt → seat < m.seats → place < waits_at (joined m n) seat → m'.seats ≡ n'.seats →
          Drawn (joined m n) seat place (joined m' n') → y ≡ get_or (map see ((joined m n).waiting seat)) place x → Draws r (both m n) seat place (both m' n') x y
      draws m' n' said in-range more s' done filled = draws_at_both m n m' n' seat place x y r s s'
          (said ∙ sym (draw_ok (joined m n) seat place in-range more), accepted_draw (joined m n) (joined m' n') see seat place x y r said (done, filled))

      seen : map see (m.waiting seat ++ n.waiting seat) ≡ map see (m.waiting seat) ++ map see (n.waiting seat)
      seen = map-append see (m.waiting seat) (n.waiting seat)

      -- a draw at a place of the first
      pub draw_first : (m' : Meaning L) → place < waits_at m seat → Draws r m seat place m' x y → Draws r (both m n) seat place (both m' n) x y
      draw_first m' h d = ⊎_elim
          (λ in-range.
          let len = length-joined in
          let near : place < length (m.waiting seat) = omega arith in
          let mapped = length-map (m.waiting seat) see in
          let said = d.0 ∙ draw_ok m seat place in-range h in
          let left = draw_accepted m m' see seat place x y r said d.1 in
          draws m' n said in-range (omega arith) (left.0.seats ∙ s)
          (record {
            seats = left.0.seats;
            own = ap (λ l. l ++ n.waiting seat) left.0.own ∙ sym (removed_left (m.waiting seat) (n.waiting seat) place near);
            others = λ k ne. ap (λ l. l ++ n.waiting k) (left.0.others k ne);
          })
          (left.1 ∙ sym (ap (λ l. get_or l place x) seen ∙ get_or_append_left (map see (m.waiting seat)) (map see (n.waiting seat)) x place (omega arith))))
          (λ out. first_refuses (plain 8) m' (draw_no_seat m seat place out) (draw_no_seat (joined m n) seat place out) d)
          (cases_lt seat m.seats)

      -- a place that refused list has
      pub draw_past : (m' : Meaning L) → 2 ^ 32 - 1 ≤ place → Draws r m seat place m' x y → Draws r (both m n) seat place (both m' n) x y
      draw_past m' h d = ⊎_elim
          (λ in-range. first_refuses (plain 14) m' (draw_no_place m seat place in-range (omega arith)) (draw_no_place (joined m n) seat place in-range (omega arith)) d)
          (λ out. first_refuses (plain 8) m' (draw_no_seat m seat place out) (draw_no_seat (joined m n) seat place out) d)
          (cases_lt seat m.seats)

      -- a draw at a place of the second
      pub draw_second : (n' : Meaning L) (ahead : ℕ) → ahead ≡ waits_at m seat → ahead ≤ place → place < 2 ^ 32 - 1 → Draws r n seat (place - ahead) n' x y → Draws r (both m n) seat place (both m n') x y
      draw_second n' ahead e h low d = ⊎_elim
          (λ in-range.
          let in_range' : seat < n.seats = omega arith in
          let len = length-joined in
          let all : ahead ≡ length (m.waiting seat) = omega arith in
          let mapped : length (map see (m.waiting seat)) ≡ ahead = length-map (m.waiting seat) see ∙ sym all in
          let there : place ≡ length (m.waiting seat) + (place - ahead) = omega arith in
          ⊎_elim
          (λ near.
          let said = d.0 ∙ draw_ok n seat (place - ahead) in_range' near in
          let left = draw_accepted n n' see seat (place - ahead) x y r said d.1 in
          draws m n' said in-range (omega arith) (s ∙ sym left.0.seats)
          (record {
            seats = refl;
            own = ap (λ l. m.waiting seat ++ l) left.0.own ∙ sym (ap (remove (m.waiting seat ++ n.waiting seat)) there ∙ removed_right (m.waiting seat) (n.waiting seat) (place - ahead));
            others = λ k ne. ap (λ l. m.waiting k ++ l) (left.0.others k ne);
          })
          (left.1 ∙ sym (ap (λ l. get_or l place x) seen ∙ get_or-append_right (map see (m.waiting seat)) (map see (n.waiting seat)) ahead place x mapped h)))
          (λ far. second_refuses (plain 14) n' (place - ahead) (draw_no_place n seat (place - ahead) in_range' far) (draw_no_place (joined m n) seat place in-range (omega arith)) d)
          (cases_lt (place - ahead) (waits_at n seat)))
          (λ out. second_refuses (plain 8) n' (place - ahead) (draw_no_seat n seat (place - ahead) (omega arith)) (draw_no_seat (joined m n) seat place out) d)
          (cases_lt seat m.seats)
