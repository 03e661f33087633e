-- Steps made on any room, so that a run can be written down.
use Rattle.std.proofs.Common.{◌≡◌, ℕ, suc, ◌+◌, ◌<◌, cond, eqb, List, [], ◌∷◌, ◌++◌, length, replicate, sym, refl, ap, ◌∙◌, subst}
use Rattle.std.proofs.lemmas.List.Sorted.{IsPermutation-refl}
use Rattle.std.proofs.lemmas.Bool.{cond-false, cond-true, eq-eqb, ne_eqb}
use Rattle.letters.specs.declared.letter.Letter.{Letter}
use Rattle.letters.specs.Letters.{entry_at, number_of}
use Rattle.letters.specs.Order.{Ready}
use Rattle.carriers.specs.Putting.{Gains}
use Rattle.causality.specs.declared.docket.DocketState.{DocketState}
use Rattle.causality.specs.declared.docket.DocketState.TheVariants.{Clear, Out, Parked}
use Rattle.letters.specs.Lists.{◌∈◌}
use Rattle.causality.specs.Worlds.{Box, World}
use Rattle.causality.specs.WorldSteps.{MovesDocket, OfDocket, Outcome, WorldPost, WorldSend, WorldPark, WorldCollect, WorldTake, WorldShow, WorldRefusal}

module _ {X : Type 0} (f : ℕ → X) (s : ℕ) (x : X) where
  -- f, but for x at s
  abbrev pub updated : ℕ → X
  updated t = cond (eqb t s) x (f t)

  pub at_same : updated s ≡ x
  at_same = cond-true (eqb s s) x (f s) (eq-eqb s s refl)

  pub at_other : (t : ℕ) → ¬ (t ≡ s) → updated t ≡ f t
  at_other t ne = cond-false (eqb t s) x (f t) (ne_eqb t s ne)

-- the room after each step
module _ {B : Type 0} (w : World B) (s : ℕ) where
  abbrev pub with_box : Box B → World B
  with_box b = record { box = updated w.box s b; waiting = w.waiting }

  abbrev pub with_docket : DocketState → Box B
  with_docket d = record { clock = (w.box s).clock; log = (w.box s).log; hold = (w.box s).hold; docket = d }

  abbrev pub posted_box : Letter B → Box B
  posted_box m = record { clock = entry_at m.stamp; log = (w.box s).log ++ (m ∷ []); hold = (w.box s).hold; docket = Out }

  -- each other seat gains n copies of m, and one more
  abbrev pub sent : Letter B → ℕ → World B
  sent m n = record {
    box = updated w.box s (with_docket Clear);
    waiting = λ t. cond (eqb t s) (w.waiting t) (replicate (suc n) m ++ w.waiting t);
  }

  abbrev pub taken_box : List (Letter B) → Box B
  taken_box hold = record { clock = (w.box s).clock; log = (w.box s).log; hold = hold; docket = (w.box s).docket }

  abbrev pub taken : List (Letter B) → List (Letter B) → World B
  taken hold left = record { box = updated w.box s (taken_box hold); waiting = updated w.waiting s left }

  abbrev pub shown_box : Letter B → List (Letter B) → Box B
  shown_box m hold = record {
    clock = updated (w.box s).clock m.poster (number_of m);
    log = (w.box s).log ++ (m ∷ []);
    hold = hold;
    docket = (w.box s).docket;
  }

module _ {B : Type 0} (N Q : ℕ) (w : World B) where
  pub refused : WorldRefusal w w
  refused = record { box = λ t. refl; waiting = λ t. refl }

  module _ (s : ℕ) (seat : s < N) where
    pub posts_made : (m : Letter B) → (w.box s).clock s < Q → (w.box s).docket ≡ Clear → m.poster ≡ s
        → entry_at m.stamp s ≡ (w.box s).clock s + 1 → ((p : ℕ) → ¬ (p ≡ s) → entry_at m.stamp p ≡ (w.box s).clock p)
        → WorldPost N Q s m w (with_box w s (posted_box w s m))
    posts_made m quota clear poster own rest = record {
      seat = seat;
      quota = quota;
      before = clear;
      poster = poster;
      own = own;
      rest = rest;
      clock = λ p. ap (λ (b : Box B). b.clock p) (at_same w.box s (posted_box w s m));
      log = ap (λ (b : Box B). b.log) (at_same w.box s (posted_box w s m));
      hold = ap (λ (b : Box B). b.hold) (at_same w.box s (posted_box w s m));
      docket = ap (λ (b : Box B). b.docket) (at_same w.box s (posted_box w s m));
      elsewhere = at_other w.box s (posted_box w s m);
      waiting = λ t. refl;
    }

    moves_made : (was is : DocketState) (waiting : ℕ → List (Letter B)) → (w.box s).docket ≡ was
        → MovesDocket was is s w (record { box = updated w.box s (with_docket w s is); waiting = waiting })
    moves_made was is waiting before = record {
      before = before;
      clock = ap (λ (b : Box B). b.clock) (at_same w.box s (with_docket w s is));
      log = ap (λ (b : Box B). b.log) (at_same w.box s (with_docket w s is));
      hold = ap (λ (b : Box B). b.hold) (at_same w.box s (with_docket w s is));
      docket = ap (λ (b : Box B). b.docket) (at_same w.box s (with_docket w s is));
      elsewhere = at_other w.box s (with_docket w s is);
    }

    pub parks_made : (w.box s).docket ≡ Out → WorldPark N Q s w (with_box w s (with_docket w s Parked))
    parks_made out = record { seat = seat; moves = moves_made Out Parked w.waiting out; waiting = λ t. refl }

    pub collects_made : (w.box s).docket ≡ Parked → WorldCollect N Q s w (with_box w s (with_docket w s Out))
    collects_made parked = record { seat = seat; moves = moves_made Parked Out w.waiting parked; waiting = λ t. refl }

    pub sends_made : (m : Letter B) (n : ℕ) (above below : List (Letter B)) → (w.box s).log ≡ above ++ (m ∷ below) → OfDocket s w m
        → ((k : Letter B) → k ∈ above → ¬ (OfDocket s w k)) → (w.box s).docket ≡ Out → WorldSend N Q s m w (sent w s m n)
    sends_made m n above below found is first out = record {
      seat = seat;
      above = above;
      below = below;
      found = found;
      is = is;
      first = first;
      moves = moves_made Out Clear (sent w s m n).waiting out;
      put = record {
        own = cond-true (eqb s s) (w.waiting s) (replicate (suc n) m ++ w.waiting s) (eq-eqb s s refl);
        others = λ t l ne. subst (Gains m (w.waiting t))
            (sym (cond-false (eqb t s) (w.waiting t) (replicate (suc n) m ++ w.waiting t) (ne_eqb t s ne)))
            (record { more = n; reordered = IsPermutation-refl (replicate (suc n) m ++ w.waiting t) });
      };
    }

    -- what is taken is given at the seat's box as it is after, so that its kind stays in sight
    abbrev pub takes-made : (m : Letter B) (hold before after : List (Letter B)) → w.waiting s ≡ before ++ (m ∷ after)
        → Outcome N Q s m (w.box s) (updated w.box s (taken_box w s hold) s) → WorldTake N Q s (length before) m w (taken w s hold (before ++ after))
    takes-made m hold before after drawn outcome = record {
      seat = seat;
      before = before;
      after = after;
      at = refl;
      drawn = drawn;
      left = at_same w.waiting s (before ++ after);
      others = at_other w.waiting s (before ++ after);
      clock = ap (λ (b : Box B). b.clock) (at_same w.box s (taken_box w s hold));
      log = ap (λ (b : Box B). b.log) (at_same w.box s (taken_box w s hold));
      docket = ap (λ (b : Box B). b.docket) (at_same w.box s (taken_box w s hold));
      outcome = outcome;
      elsewhere = at_other w.box s (taken_box w s hold);
    }

    pub shows-made : (m : Letter B) (before after : List (Letter B)) → (w.box s).hold ≡ before ++ (m ∷ after) → Ready N Q s (w.box s).clock m
        → ((k : Letter B) → k ∈ before → ¬ (Ready N Q s (w.box s).clock k)) → WorldShow N Q s m w (with_box w s (shown_box w s m (before ++ after)))
    shows-made m before after found ready first = record {
      seat = seat;
      before = before;
      after = after;
      found = found;
      ready = ready;
      first = first;
      own = ap (λ (b : Box B). b.clock m.poster) same ∙ at_same (w.box s).clock m.poster (number_of m);
      rest = λ p ne. ap (λ (b : Box B). b.clock p) same ∙ at_other (w.box s).clock m.poster (number_of m) p ne;
      log = ap (λ (b : Box B). b.log) same;
      hold = ap (λ (b : Box B). b.hold) same;
      docket = ap (λ (b : Box B). b.docket) same;
      elsewhere = at_other w.box s (shown_box w s m (before ++ after));
      waiting = λ t. refl;
    }
      where
        same : updated w.box s (shown_box w s m (before ++ after)) s ≡ shown_box w s m (before ++ after)
        same = at_same w.box s (shown_box w s m (before ++ after))
