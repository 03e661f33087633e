-- Every posted letter is on its way to every other seat, until that seat's clock covers it; and how each step keeps it so.
use Rattle.std.proofs.Common.{◌≡◌, ℕ, ◌<◌, ◌≤◌, ◌⊎◌, List, [], ◌∷◌, ◌++◌, sym, ap, ◌∙◌, subst, inl, inr, ⊎_elim, arith}
use native.Mathlib.Decide.{ℕ_discrete}
use Rattle.letters.specs.declared.letter.Letter.{Letter}
use Rattle.causality.specs.declared.docket.DocketState.{DocketState}
use Rattle.causality.specs.declared.docket.DocketState.TheVariants.{Clear, Out, Parked}
use Rattle.letters.specs.Letters.{number_of}
use Rattle.letters.specs.Order.{SameLetter}
use Rattle.letters.specs.Lists.{◌∈◌}
use Rattle.causality.specs.History.{Event, History, posted_letters}
use Rattle.causality.specs.Worlds.{Box, World}
use Rattle.causality.specs.WorldSteps.{WorldPost, WorldSend, MovesDocket, WorldTake, WorldShow, Repeat, covered, among_held, Outcome, stray, repeat, held, WorldStep, refuses, posts, sends, parks, collects, takes, shows}
use Rattle.causality.specs.Runs.{Run, opened, more}
use Rattle.causality.proofs.Lists.{in_eq, in_as, in_none, by_seat, in_cons, in_left, in_middle, in_cases}
use Rattle.causality.proofs.Puts.{gains_copy, gains_kept}
use Rattle.causality.proofs.Steps.{same_part, post_grows, show_grows, show_own}
use Rattle.causality.proofs.Books.{Books, clocks, logs_of}
use Rattle.causality.proofs.Holds.{Holds, never_stray}
use Rattle.causality.proofs.Always.{Always, always}

out_not_clear : ¬ (Out ≡ Clear)
out_not_clear e = cc

parked_not_clear : ¬ (Parked ≡ Clear)
parked_not_clear e = cc

module _ {B : Type 0} where
  -- where the letter m stands on its way to seat t
  pub data OnWay (w : World B) (t : ℕ) (m : Letter B) : Type 0 where
    unsent : ¬ ((w.box m.poster).docket ≡ Clear) → number_of m ≡ (w.box m.poster).clock m.poster → OnWay w t m
    waiting_there : m ∈ w.waiting t → OnWay w t m
    in_hold : m ∈ (w.box t).hold → OnWay w t m
    shown_there : number_of m ≤ (w.box t).clock m.poster → OnWay w t m

  -- so does every posted letter, to every other seat
  abbrev pub Delivery : ℕ → List (Letter B) → World B → Type 0
  Delivery N ls w = (m : Letter B) → m ∈ ls → (t : ℕ) → t < N → ¬ (t ≡ m.poster) → OnWay w t m

  -- a letter unsent stays so, and for each other place the step says where the letter is then
  way : (w w' : World B) (t : ℕ) (m : Letter B) → (w'.box m.poster).docket ≡ (w.box m.poster).docket
      → (w'.box m.poster).clock m.poster ≡ (w.box m.poster).clock m.poster
      → (m ∈ w.waiting t → OnWay w' t m) → (m ∈ (w.box t).hold → OnWay w' t m) → (number_of m ≤ (w.box t).clock m.poster → OnWay w' t m)
      → OnWay w t m → OnWay w' t m
  way w w' t m same own at-wait at-hold at-clock (unsent d n) = unsent (λ e. d (sym same ∙ e)) (n ∙ sym own)
  way w w' t m same own at-wait at-hold at-clock (waiting_there i) = at-wait i
  way w w' t m same own at-wait at-hold at-clock (in_hold i) = at-hold i
  way w w' t m same own at-wait at-hold at-clock (shown_there l) = at-clock l

  delivery_same : (N : ℕ) (w w' : World B) (ls : List (Letter B)) → ((t : ℕ) → w'.box t ≡ w.box t) → ((t : ℕ) → w'.waiting t ≡ w.waiting t)
      → Delivery N ls w → Delivery N ls w'
  delivery_same N w w' ls box waiting ok m i t l ne = way w w' t m
      (ap (λ (b : Box B). b.docket) (box m.poster)) (ap (λ (b : Box B). b.clock m.poster) (box m.poster))
      (λ j. waiting_there (in_eq (sym (waiting t)) j))
      (λ j. in_hold (subst (λ (b : Box B). m ∈ b.hold) (sym (box t)) j))
      (λ c. shown_there (subst (λ (b : Box B). number_of m ≤ b.clock m.poster) (sym (box t)) c))
      (ok m i t l ne)

module _ {B : Type 0} (N Q : ℕ) where
  delivery_post : (m : Letter B) (w w' : World B) (ls : List (Letter B)) → WorldPost N Q m.poster m w w' → Delivery N ls w → Delivery N (m ∷ ls) w'
  delivery_post m w w' ls step ok k i t l ne = ⊎_elim (λ (e : k ≡ m). subst (OnWay w' t) (sym e) new) (λ (j : k ∈ ls). old (ok k j t l ne)) (in_cons i)
    where
      new : OnWay w' t m
      new = unsent (λ e. out_not_clear (sym step.docket ∙ e)) (sym (step.clock m.poster))

      other : ¬ ((w.box k.poster).docket ≡ Clear) → number_of k ≡ (w.box k.poster).clock k.poster → Dec (k.poster ≡ m.poster) → OnWay w' t k
      other d n (yes e) = absurd (d (ap (λ (p : ℕ). (w.box p).docket) e ∙ step.before))
      other d n (no c) = let same = step.elsewhere k.poster c in
          unsent (λ e. d (ap (λ (x : Box B). x.docket) (sym same) ∙ e)) (n ∙ ap (λ (x : Box B). x.clock k.poster) (sym same))

      old : OnWay w t k → OnWay w' t k
      old (unsent d n) = other d n (ℕ_discrete k.poster m.poster)
      old (waiting_there j) = waiting_there (in_eq (sym (step.waiting t)) j)
      old (in_hold j) = in_hold (in_eq (sym (same_part (λ (b : Box B). b.hold) m.poster w w' step.elsewhere step.hold t)) j)
      old (shown_there c) = shown_there (let g = post_grows N Q m w w' step t k.poster in omega arith)

  -- seat s's docket moves, and the seat's box stays as it was otherwise
  module _ (was is : DocketState) (s : ℕ) (w w' : World B) (step : MovesDocket was is s w w') where
    moved_clock : (t : ℕ) → (w'.box t).clock ≡ (w.box t).clock
    moved_clock = same_part (λ (b : Box B). b.clock) s w w' step.elsewhere step.clock

    -- all but the unsent: a letter that waited waits, and so on
    moved_way : (t : ℕ) (m : Letter B) → (m ∈ w.waiting t → m ∈ w'.waiting t)
        → (¬ ((w.box m.poster).docket ≡ Clear) → number_of m ≡ (w.box m.poster).clock m.poster → OnWay w' t m) → OnWay w t m → OnWay w' t m
    moved_way t m q u (unsent d n) = u d n
    moved_way t m q u (waiting_there i) = waiting_there (q i)
    moved_way t m q u (in_hold i) = in_hold (in_eq (sym (same_part (λ (b : Box B). b.hold) s w w' step.elsewhere step.hold t)) i)
    moved_way t m q u (shown_there l) = shown_there (subst (λ (c : ℕ → ℕ). number_of m ≤ c m.poster) (sym (moved_clock t)) l)

    -- and where the docket is not cleared, or is another's, so the unsent
    moved_unsent : (t : ℕ) (m : Letter B) → (m.poster ≡ s → ¬ (is ≡ Clear))
        → ¬ ((w.box m.poster).docket ≡ Clear) → number_of m ≡ (w.box m.poster).clock m.poster → OnWay w' t m
    moved_unsent t m c d n = unsent (λ e. still e (ℕ_discrete m.poster s)) (n ∙ ap (λ (f : ℕ → ℕ). f m.poster) (sym (moved_clock m.poster)))
      where
        still : (w'.box m.poster).docket ≡ Clear → Dec (m.poster ≡ s) → ⊥
        still e (yes p) = c p (sym step.docket ∙ (ap (λ (u : ℕ). (w'.box u).docket) (sym p) ∙ e))
        still e (no p) = d (ap (λ (b : Box B). b.docket) (sym (step.elsewhere m.poster p)) ∙ e)

  delivery_moved : (was is : DocketState) (s : ℕ) (w w' : World B) (ls : List (Letter B)) → ¬ (is ≡ Clear) → MovesDocket was is s w w'
      → ((t : ℕ) → w'.waiting t ≡ w.waiting t) → Delivery N ls w → Delivery N ls w'
  delivery_moved was is s w w' ls not_clear step same ok m i t l ne =
      moved_way was is s w w' step t m (λ j. in_eq (sym (same t)) j)
      (moved_unsent was is s w w' step t m (λ e. not_clear)) (ok m i t l ne)

  delivery_send : (s : ℕ) (m : Letter B) (w w' : World B) (h : History (Letter B)) → WorldSend N Q s m w w' → Books N Q (clocks w) (logs_of w) h
      → Delivery N (posted_letters h) w → Delivery N (posted_letters h) w'
  delivery_send s m w w' h step books ok k i t l ne =
      moved_way Out Clear s w w' step.moves t k keep (λ d n. go d n (ℕ_discrete k.poster s)) (ok k i t l ne)
    where
      listed : m ∈ posted_letters h
      listed = (books.logs s).known m (in_eq (sym step.found) (in_middle m step.above step.below))

      keep : k ∈ w.waiting t → k ∈ w'.waiting t
      keep j = go (ℕ_discrete t s)
        where
          go : Dec (t ≡ s) → k ∈ w'.waiting t
          go (yes e) = subst (λ (u : ℕ). k ∈ w'.waiting u) (sym e)
              (in_eq (sym step.put.own) (subst (λ (u : ℕ). k ∈ w.waiting u) e j))
          go (no d) = gains_kept m (w.waiting t) (w'.waiting t) (step.put.others t l d) k j

      go : ¬ ((w.box k.poster).docket ≡ Clear) → number_of k ≡ (w.box k.poster).clock k.poster → Dec (k.poster ≡ s) → OnWay w' t k
      go d n (yes e) =
          let n' : number_of k ≡ (w.box s).clock s = n ∙ ap (λ (u : ℕ). (w.box u).clock u) e in
          let same : k ≡ m = books.ids.unique k m i listed (record { poster = e ∙ sym step.is.poster; number = n' ∙ sym step.is.number }) in
          waiting_there (in_as same (gains_copy m (w.waiting t) (w'.waiting t) (step.put.others t l (λ q. ne (q ∙ sym e)))))
      go d n (no c) = moved_unsent Out Clear s w w' step.moves t k (λ e. absurd (c e)) d n

  delivery_take : (s place : ℕ) (m : Letter B) (w w' : World B) (h : History (Letter B)) → WorldTake N Q s place m w w' → Books N Q (clocks w) (logs_of w) h
      → Holds (posted_letters h) w → Delivery N (posted_letters h) w → Delivery N (posted_letters h) w'
  delivery_take s place m w w' h step books holds ok k i t l ne = way w w' t k
      (same_part (λ (b : Box B). b.docket) s w w' step.elsewhere step.docket k.poster) (ap (λ (f : ℕ → ℕ). f k.poster) (same_clock k.poster))
      (by_seat s (λ t. ¬ (t ≡ k.poster) → k ∈ w.waiting t → OnWay w' t k)
      (λ d j. drawn d (in_cases m step.before step.after (in_eq step.drawn j)))
      (λ t e d j. waiting_there (in_eq (sym (step.others t e)) j)) t ne)
      (by_seat s (λ t. k ∈ (w.box t).hold → OnWay w' t k) (λ j. in_hold (still_held j step.outcome))
      (λ t e j. in_hold (subst (λ (b : Box B). k ∈ b.hold) (sym (step.elsewhere t e)) j)) t)
      (λ c. shown_there (subst (λ (f : ℕ → ℕ). number_of k ≤ f k.poster) (sym (same_clock t)) c))
      (ok k i t l ne)
    where
      same_clock : (u : ℕ) → (w'.box u).clock ≡ (w.box u).clock
      same_clock = same_part (λ (b : Box B). b.clock) s w w' step.elsewhere step.clock

      still_held : k ∈ (w.box s).hold → Outcome N Q s m (w.box s) (w'.box s) → k ∈ (w'.box s).hold
      still_held j (stray why same) = in_eq (sym same) j
      still_held j (repeat placed why same) = in_eq (sym same) j
      still_held j (held placed fresh longer) = in_eq (sym longer) (in_left (m ∷ []) j)

      -- a repeat was covered or held already
      had : k ≡ m → Repeat (w.box s) m → OnWay w' s k
      had e (covered c) = shown_there (subst (λ (f : ℕ → ℕ). number_of k ≤ f k.poster) (sym step.clock)
          (subst (λ (x : Letter B). number_of x ≤ (w.box s).clock x.poster) (sym e) c))
      had e (among_held x j same) =
          let mine : k ≡ x = books.ids.unique k x i ((holds s).known x j) (subst (λ (y : Letter B). SameLetter y x) (sym e) same) in
          in_hold (still_held (in_as mine j) step.outcome)

      result : ¬ (s ≡ k.poster) → k ≡ m → Outcome N Q s m (w.box s) (w'.box s) → OnWay w' s k
      result d e (stray why same) = absurd (never_stray N Q w h books holds s step.seat m (in_as (sym e) i)
          (λ q. d (sym (ap (λ (x : Letter B). x.poster) e ∙ q))) why)
      result d e (repeat placed why same) = had e why
      result d e (held placed fresh longer) = in_hold (in_eq (sym longer) (in_as e (in_middle m (w.box s).hold [])))

      drawn : ¬ (s ≡ k.poster) → (k ≡ m) ⊎ (k ∈ (step.before ++ step.after)) → OnWay w' s k
      drawn d (inl e) = result d e step.outcome
      drawn d (inr j) = waiting_there (in_eq (sym step.left) j)

  delivery_show : (s : ℕ) (m : Letter B) (w w' : World B) (ls : List (Letter B)) → WorldShow N Q s m w w' → Delivery N ls w → Delivery N ls w'
  delivery_show s m w w' ls step ok k i t l ne = way w w' t k
      (same_part (λ (b : Box B). b.docket) s w w' step.elsewhere step.docket k.poster) (show_own N Q s m w w' step k.poster)
      (λ j. waiting_there (in_eq (sym (step.waiting t)) j))
      (by_seat s (λ t. k ∈ (w.box t).hold → OnWay w' t k)
      (λ j. found (in_cases m step.before step.after (in_eq step.found j)))
      (λ t e j. in_hold (subst (λ (b : Box B). k ∈ b.hold) (sym (step.elsewhere t e)) j)) t)
      (λ c. shown_there (let g = show_grows N Q s m w w' step t k.poster in omega arith))
      (ok k i t l ne)
    where
      found : (k ≡ m) ⊎ (k ∈ (step.before ++ step.after)) → OnWay w' s k
      found (inl e) = shown_there (subst (λ (x : Letter B). number_of x ≤ (w'.box s).clock x.poster) (sym e) (let a = step.own in omega arith))
      found (inr j) = in_hold (in_eq (sym step.hold) j)

  step_delivers : (w w' : World B) (h : History (Letter B)) (new : List (Event (Letter B))) → WorldStep N Q w w' new → Always N Q w h
      → Delivery N (posted_letters h) w → Delivery N (posted_letters (new ++ h)) w'
  step_delivers w w' h new (refuses step) kept ok = delivery_same N w w' (posted_letters h) step.box step.waiting ok
  step_delivers w w' h new (posts {s = s} {m = m} step) kept ok =
      delivery_post m w w' (posted_letters h) (subst (λ (t : ℕ). WorldPost N Q t m w w') (sym step.poster) step) ok
  step_delivers w w' h new (sends {s = s} {m = m} step) kept ok = delivery_send s m w w' h step kept.books ok
  step_delivers w w' h new (parks {s = s} step) kept ok =
      delivery_moved Out Parked s w w' (posted_letters h) parked_not_clear step.moves step.waiting ok
  step_delivers w w' h new (collects {s = s} step) kept ok =
      delivery_moved Parked Out s w w' (posted_letters h) out_not_clear step.moves step.waiting ok
  step_delivers w w' h new (takes {s = s} {place = place} {m = m} step) kept ok =
      delivery_take s place m w w' h step kept.books kept.holds ok
  step_delivers w w' h new (shows {s = s} {m = m} step) kept ok = delivery_show s m w w' (posted_letters h) step ok

  -- at all times
  pub delivered : (w : World B) (h : History (Letter B)) → Run N Q w h → Delivery N (posted_letters h) w
  delivered w h (opened o) = λ m i t l ne. absurd (in_none i)
  delivered w h (more {w = v} {h = past} {new = new} run step) =
      step_delivers v w past new step (always N Q v past run) (delivered v past run)
