-- The sample run, step by step.
use Rattle.std.proofs.Common.{◌≡◌, ℕ, zero, suc, ◌<◌, ◌≤◌, cond, ◌↔◌, List, [], ◌∷◌, length, get_or, replicate, sym, refl, ap, ◌∙◌, subst, inl, arith}
use Rattle.std.proofs.lemmas.Bool.{ne_eqb}
use Rattle.letters.specs.declared.letter.Letter.{Letter}
use Rattle.letters.specs.declared.parts.Parts.{Parts}
use Rattle.letters.specs.Letters.{entry_at, number_of, parts_of}
use Rattle.letters.specs.Order.{Ready}
use Rattle.letters.specs.SameLemmas.{equal_letters}
use Rattle.causality.specs.declared.docket.DocketState.TheVariants.{Clear, Out, Parked}
use Rattle.letters.specs.Lists.{◌∈◌, here, there}
use Rattle.causality.specs.History.{History, posted, shown, direct}
use Rattle.causality.specs.Worlds.{Box, World}
use Rattle.causality.specs.WorldSteps.{OfDocket, Stray, no_seat, own, past_quota, no_place, Repeat, covered, among_held, held, repeat, refuses, posts, sends, parks, collects, takes, shows}
use Rattle.causality.specs.Runs.{Run, opened, more}
use Rattle.causality.specs.Sample.{Arrives, first_parts}
use Rattle.causality.proofs.Lists.{in_eq, in_none}
use Rattle.causality.proofs.Making.{updated, with_box, with_docket, posted_box, sent, taken, shown_box, refused, posts_made, parks_made, collects_made, sends_made, takes-made, shows-made}

zeros : (n p : ℕ) → ◌≡◌ {A = ℕ} (get_or (replicate n 0) p 0) 0
zeros zero p = refl
zeros (suc n) zero = refl
zeros (suc n) (suc p) = zeros n p

module _ {B : Type 0} (body : B) where
  -- 0.1, and the answering letter 1.1 that seat 1 posts when it has shown it
  abbrev m : Letter B
  m = record { stamp = record { entries = 1 ∷ replicate 15 0 }; poster = 0; body = body; sized = refl; seated = omega arith; counted = omega arith }

  abbrev k : Letter B
  k = record { stamp = record { entries = 1 ∷ (1 ∷ replicate 14 0) }; poster = 1; body = body; sized = refl; seated = omega arith; counted = omega arith }

  m_rest : (p : ℕ) → ¬ (p ≡ 0) → ◌≡◌ {A = ℕ} (entry_at m.stamp p) 0
  m_rest zero ne = absurd (ne refl)
  m_rest (suc p) ne = zeros 15 p

  k_rest : (p : ℕ) → ¬ (p ≡ 1) → entry_at k.stamp p ≡ entry_at m.stamp p
  k_rest zero ne = refl
  k_rest (suc zero) ne = absurd (ne refl)
  k_rest (suc (suc p)) ne = refl

  -- a clock of zeros that has shown m
  m_shown : (p : ℕ) → entry_at m.stamp p ≡ updated (λ q. 0) 0 1 p
  m_shown zero = refl
  m_shown (suc p) = zeros 15 p ∙ ap (λ b. cond b 1 0) (sym (ne_eqb (suc p) 0 (λ e. omega arith)))

  no_stray : (s : ℕ) (b : Box B) (x : Letter B) → x.poster < 3 → ¬ (x.poster ≡ s) → number_of x ≤ 1 → length b.hold < 3 → ¬ (Stray 3 1 s b x)
  no_stray s b x seat other low few (no_seat far) = omega arith
  no_stray s b x seat other low few (own mine) = other mine
  no_stray s b x seat other low few (past_quota high) = omega arith
  no_stray s b x seat other low few (no_place full) = omega arith

  m_no_stray : (s : ℕ) (b : Box B) → ¬ (0 ≡ s) → length b.hold < 3 → ¬ (Stray 3 1 s b m)
  m_no_stray s b ne few = no_stray s b m (omega arith) ne (omega arith) few

  k_no_stray : (s : ℕ) (b : Box B) → ¬ (1 ≡ s) → length b.hold < 3 → ¬ (Stray 3 1 s b k)
  k_no_stray s b ne few = no_stray s b k (omega arith) ne (omega arith) few

  -- a letter is new where the clock does not cover it and the hold is empty
  new : (b : Box B) (x : Letter B) → b.clock x.poster < number_of x → b.hold ≡ [] → ¬ (Repeat b x)
  new b x later none (covered l) = omega arith
  new b x later none (among_held y i e) = in_none (in_eq none i)

  m_ready : (s : ℕ) (clock : ℕ → ℕ) → ¬ (0 ≡ s) → clock 0 ≡ 0 → Ready 3 1 s clock m
  m_ready s clock ne e = record {
    below = omega arith;
    other = ne;
    within = omega arith;
    next = omega arith;
    known = λ p d. let z = m_rest p d in omega arith;
  }

  k_ready : (s : ℕ) (clock : ℕ → ℕ) → ¬ (1 ≡ s) → clock 1 ≡ 0 → ((p : ℕ) → entry_at m.stamp p ≤ clock p) → Ready 3 1 s clock k
  k_ready s clock ne e has = record {
    below = omega arith;
    other = ne;
    within = omega arith;
    next = omega arith;
    known = λ p d. let z = k_rest p d in let a = has p in omega arith;
  }

  -- 1.1 is not ready where 0.1 is not shown
  k_waits : (clock : ℕ → ℕ) → clock 0 ≡ 0 → ¬ (Ready 3 1 2 clock k)
  k_waits clock e r = let a = r.known 0 (λ q. omega arith) in omega arith

  -- the room after each step
  abbrev w0 : World B
  w0 = record { box = λ s. record { clock = λ p. 0; log = []; hold = []; docket = Clear }; waiting = λ s. [] }

  abbrev w1 : World B
  w1 = with_box w0 0 (posted_box w0 0 m)

  abbrev w2 : World B
  w2 = with_box w1 0 (with_docket w1 0 Parked)

  abbrev w3 : World B
  w3 = with_box w2 0 (with_docket w2 0 Out)

  abbrev w4 : World B
  w4 = sent w3 0 m 1

  abbrev w5 : World B
  w5 = taken w4 1 (m ∷ []) (m ∷ [])

  abbrev w6 : World B
  w6 = with_box w5 1 (shown_box w5 1 m [])

  abbrev w7 : World B
  w7 = taken w6 1 [] []

  abbrev w8 : World B
  w8 = with_box w7 1 (posted_box w7 1 k)

  abbrev w9 : World B
  w9 = sent w8 1 k 0

  abbrev w10 : World B
  w10 = taken w9 2 (k ∷ []) (m ∷ m ∷ [])

  abbrev w11 : World B
  w11 = taken w10 2 (k ∷ m ∷ []) (m ∷ [])

  abbrev w12 : World B
  w12 = taken w11 2 (k ∷ m ∷ []) []

  abbrev w13 : World B
  w13 = with_box w12 2 (shown_box w12 2 m (k ∷ []))

  abbrev w14 : World B
  w14 = with_box w13 2 (shown_box w13 2 k [])

  abbrev w15 : World B
  w15 = taken w14 0 (k ∷ []) []

  abbrev w16 : World B
  w16 = with_box w15 0 (shown_box w15 0 k [])

  -- seat 0 posts and sends
  abbrev to_4 : Run 3 1 w4 (posted 0 m ∷ [])
  to_4 =
      more (more (more (more (opened (record { clock = λ s p. refl; log = λ s. refl; hold = λ s. refl; docket = λ s. refl; waiting = λ s. refl }))
      (posts (posts_made 3 1 w0 0 (omega arith) m (omega arith) refl refl refl m_rest)))
      (parks (parks_made 3 1 w1 0 (omega arith) refl)))
      (collects (collects_made 3 1 w2 0 (omega arith) refl)))
      (sends (sends_made 3 1 w3 0 (omega arith) m 1 [] [] refl (record { poster = refl; number = refl }) (λ x i. absurd (in_none i)) refl))

  -- seat 1 shows 0.1 and answers it
  abbrev to_9 : Run 3 1 w9 (posted 1 k ∷ (shown 1 m ∷ (posted 0 m ∷ [])))
  to_9 =
      more (more (more (more (more to_4
      (takes (takes-made 3 1 w4 1 (omega arith) m (m ∷ []) [] (m ∷ []) refl
      (held (m_no_stray 1 (w4.box 1) (λ e. omega arith) (omega arith)) (new (w4.box 1) m (omega arith) refl) refl))))
      (shows (shows-made 3 1 w5 1 (omega arith) m [] [] refl (m_ready 1 (w5.box 1).clock (λ e. omega arith) refl) (λ x i. absurd (in_none i)))))
      (takes (takes-made 3 1 w6 1 (omega arith) m [] [] [] refl
      (repeat (m_no_stray 1 (w6.box 1) (λ e. omega arith) (omega arith)) (covered (omega arith)) refl))))
      (posts (posts_made 3 1 w7 1 (omega arith) k (omega arith) refl refl refl (λ p ne. k_rest p ne ∙ m_shown p))))
      (sends (sends_made 3 1 w8 1 (omega arith) k 0 (m ∷ []) [] refl (record { poster = refl; number = refl }) only_k refl))
    where
      only_k : (x : Letter B) → x ∈ (m ∷ []) → ¬ (OfDocket 1 w8 x)
      only_k x (here e) is = let a = ap (λ (y : Letter B). y.poster) e in let b = is.poster in omega arith
      only_k x (there i) is = in_none i

  -- 0.1 is new to seat 2 while it holds 1.1
  m_new : ¬ (Repeat (w10.box 2) m)
  m_new (covered l) = omega arith
  m_new (among_held x (here e) same) = let a = ap (λ (y : Letter B). y.poster) e in let b = same.poster in omega arith
  m_new (among_held x (there i) same) = in_none i

  k_first : (x : Letter B) → x ∈ (k ∷ []) → ¬ (Ready 3 1 2 (w12.box 2).clock x)
  k_first x (here e) r = k_waits (w12.box 2).clock refl (subst (Ready 3 1 2 (w12.box 2).clock) e r)
  k_first x (there i) r = in_none i

  abbrev past : History (Letter B)
  past = shown 0 k ∷ (shown 2 k ∷ (shown 2 m ∷ (posted 1 k ∷ (shown 1 m ∷ (posted 0 m ∷ [])))))

  -- seat 2 gets the answering letter first, and seat 0 gets it last
  abbrev to_16 : Run 3 1 w16 past
  to_16 =
      more (more (more (more (more (more (more (more to_9
      (takes (takes-made 3 1 w9 2 (omega arith) k (k ∷ []) [] (m ∷ m ∷ []) refl
      (held (k_no_stray 2 (w9.box 2) (λ e. omega arith) (omega arith)) (new (w9.box 2) k (omega arith) refl) refl))))
      (refuses (refused 3 1 w10)))
      (takes (takes-made 3 1 w10 2 (omega arith) m (k ∷ m ∷ []) [] (m ∷ []) refl
      (held (m_no_stray 2 (w10.box 2) (λ e. omega arith) (omega arith)) m_new refl))))
      (takes (takes-made 3 1 w11 2 (omega arith) m (k ∷ m ∷ []) [] [] refl
      (repeat (m_no_stray 2 (w11.box 2) (λ e. omega arith) (omega arith)) (among_held m (there (here refl)) (record { poster = refl; number = refl })) refl))))
      (shows (shows-made 3 1 w12 2 (omega arith) m (k ∷ []) [] refl (m_ready 2 (w12.box 2).clock (λ e. omega arith) refl) k_first)))
      (shows (shows-made 3 1 w13 2 (omega arith) k [] [] refl
      (k_ready 2 (w13.box 2).clock (λ e. omega arith) refl (λ p. let a = m_shown p in omega arith)) (λ x i. absurd (in_none i)))))
      (takes (takes-made 3 1 w14 0 (omega arith) k (k ∷ []) [] [] refl
      (held (k_no_stray 0 (w14.box 0) (λ e. omega arith) (omega arith)) (new (w14.box 0) k (omega arith) refl) refl))))
      (shows (shows-made 3 1 w15 0 (omega arith) k [] [] refl
      (k_ready 0 (w15.box 0).clock (λ e. omega arith) refl (λ p. omega arith)) (λ x i. absurd (in_none i))))

  -- what holds at each of the three seats
  each : (P : ℕ → Type 0) → P 0 → P 1 → P 2 → (s : ℕ) → s < 3 → P s
  each P a b c zero l = a
  each P a b c (suc zero) l = b
  each P a b c (suc (suc zero)) l = c
  each P a b c (suc (suc (suc s))) l = absurd (omega arith)

  turned : (x : Letter B) → (x ∈ (m ∷ k ∷ [])) ↔ (x ∈ (k ∷ m ∷ []))
  turned x = (turn m k, turn k m)
    where
      turn : (y z : Letter B) → x ∈ (y ∷ z ∷ []) → x ∈ (z ∷ y ∷ [])
      turn y z (here e) = there (here e)
      turn y z (there (here e)) = here e
      turn y z (there (there i)) = absurd (in_none i)

  abbrev logs : (s : ℕ) → s < 3 → (w16.box s).log ≡ m ∷ k ∷ []
  logs = each (λ s. (w16.box s).log ≡ m ∷ k ∷ []) refl refl refl

  holds : (s : ℕ) → s < 3 → (w16.box s).hold ≡ []
  holds = each (λ s. (w16.box s).hold ≡ []) refl refl refl

  m_arrives : Arrives m
  m_arrives = record {
    reply = k;
    world = w16;
    history = past;
    run = to_16;
    did = refl;
    led = direct (inl (refl, inl (refl, refl)));
    quiescent = λ s l. record {
      dockets = each (λ t. (w16.box t).docket ≡ Clear) refl refl refl;
      waits = each (λ t. w16.waiting t ≡ []) refl refl refl s l;
      held = λ x i r. in_none (in_eq (holds s l) i);
    };
    complete = λ s l. record { log = λ x. subst (λ (log : List (Letter B)). (x ∈ log) ↔ (x ∈ (k ∷ m ∷ []))) (sym (logs s l)) (turned x); hold = holds s l };
    log = logs;
  }

-- every letter of these parts is that one
pub arrives : {B : Type 0} (x : Letter B) (body : B) → parts_of x ≡ first_parts body → Arrives x
arrives {B} x body e = subst Arrives (sym is) (m_arrives body)
  where
    is : x ≡ m body
    is = equal_letters x (m body) (ap (λ (y : Parts B). y.stamp) e) (ap (λ (y : Parts B). y.poster) e) (ap (λ (y : Parts B). y.body) e)
