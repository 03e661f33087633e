-- What always holds of the clocks, the logs and the history of a room; and how a post and a show keep it.
use Rattle.std.proofs.Common.{◌≡◌, ℕ, ◌+◌, ◌<◌, ◌≤◌, ◌⊎◌, List, [], ◌∷◌, sym, refl, ap, ◌∙◌, subst, subst₂, inl, inr, ⊎_elim, arith}
use native.Mathlib.Decide.{ℕ_discrete, dec_le}
use mathlib.Core.Path.{fun_ext}
use Rattle.letters.specs.declared.letter.Letter.{Letter}
use Rattle.letters.specs.Letters.{entry_at, letter_name, number_of}
use Rattle.letters.specs.Names.{Name, name_from}
use Rattle.letters.specs.Order.{Covers, CoversLetter, SameLetter}
use Rattle.letters.specs.Lists.{◌∈◌, here, there}
use Rattle.causality.specs.LetterLists.{HasLetter}
use Rattle.causality.specs.History.{History, posted, shown, posted_letters, Seen, Before}
use Rattle.causality.specs.Worlds.{Box, World, InitialWorld}
use Rattle.causality.specs.WorldSteps.{WorldPost, WorldShow}
use Rattle.causality.proofs.Lists.{in_eq, by_seat, in_none, in_cons}
use Rattle.causality.proofs.Counting.{Numbered}
use Rattle.causality.proofs.Steps.{seen_more, logged_more, post_else, post_grows, show_else, show_grows, show_own}
use Rattle.causality.proofs.Logs.{LogOk, log_empty, log_more, log_last, Advances, IdsOk, same_turned}

module _ {B : Type 0} where
  -- every stamp entry of k is at most that of m, and smaller at m's poster
  pub record Earlier (k m : Letter B) : Type 0 where
    pub all : (p : ℕ) → entry_at k.stamp p ≤ entry_at m.stamp p
    pub own : entry_at k.stamp m.poster < number_of m

  -- the letters p.n that m covers, but for itself, are among ls
  abbrev pub GroundedIn : List (Letter B) → Letter B → Type 0
  GroundedIn ls m = (p n : ℕ) → 1 ≤ n → Covers m p n → ¬ (letter_name m ≡ name_from p n) → HasLetter (name_from p n) ls

  -- what a posted letter covers was posted before it
  abbrev pub Grounded : History (Letter B) → Type 0
  Grounded [] = Unit {0}
  Grounded (posted s m ∷ h) = GroundedIn (posted_letters h) m × Grounded h
  Grounded (shown s m ∷ h) = Grounded h

  -- what holds of the clocks c, the logs g and the history
  pub record Books (N Q : ℕ) (c : ℕ → ℕ → ℕ) (g : ℕ → List (Letter B)) (h : History (Letter B)) : Type 0 where
    -- letters are numbered by their posters, and no clock is ahead of a poster
    pub ids : IdsOk N Q (posted_letters h) (λ s. c s s)
    pub behind : (s p : ℕ) → c s p ≤ c p p
    pub logs : (s : ℕ) → LogOk (posted_letters h) (c s) (g s)
    -- a log has what was seen at its box
    pub seen : (s : ℕ) (m : Letter B) → Seen s m h → m ∈ g s
    pub logged : (s : ℕ) (m : Letter B) → m ∈ g s → Seen s m h
    -- what was seen before a post has a smaller stamp, and what a letter covers was seen before it
    pub before : (k m : Letter B) → Before k m h → (k ∈ posted_letters h) × Earlier k m
    pub known : (m k : Letter B) → m ∈ posted_letters h → k ∈ posted_letters h → CoversLetter m k → ¬ (SameLetter k m)
        → Before k m h
    -- each letter is posted at its poster's box, after what it covers
    pub made : (m : Letter B) → m ∈ posted_letters h → posted m.poster m ∈ h
    pub posts : (s : ℕ) (m : Letter B) → posted s m ∈ h → m.poster ≡ s
    pub grounded : Grounded h

  -- the clocks of a room, seat by seat
  abbrev pub clocks : World B → ℕ → ℕ → ℕ
  clocks w s = (w.box s).clock

  -- the logs of a room, seat by seat
  abbrev pub logs_of : World B → ℕ → List (Letter B)
  logs_of w s = (w.box s).log

-- no posted letter is stamped past what was posted
pub stamped_within : {B : Type 0} (N Q : ℕ) (w : World B) (h : History (Letter B)) → Books N Q (clocks w) (logs_of w) h
    → (m : Letter B) → m ∈ posted_letters h → (p : ℕ) → entry_at m.stamp p ≤ (w.box p).clock p
stamped_within N Q w h ok m i p =
    let a = (ok.logs m.poster).below m ((ok.logs m.poster).full m i (ok.ids.high m i)) p in
    let b = ok.behind m.poster p in
    omega arith

-- A new letter is posted.
module _ {B : Type 0} (N Q : ℕ) (ls : List (Letter B)) (top top' : ℕ → ℕ) (ok : IdsOk N Q ls top) (m : Letter B)
    (seat : m.poster < N) (quota : number_of m ≤ Q) (next : number_of m ≡ top m.poster + 1) (own : top' m.poster ≡ number_of m)
    (rest : (t : ℕ) → ¬ (t ≡ m.poster) → top' t ≡ top t) where
  top_grows : (p : ℕ) → top p ≤ top' p
  top_grows = by_seat m.poster (λ p. top p ≤ top' p) (omega arith) (λ p ne. let e = rest p ne in omega arith)

  fresh : (k : Letter B) → k ∈ ls → ¬ (SameLetter m k)
  fresh k i e =
      let h = ok.high k i in
      let r = ap top e.poster in
      let q = e.number in
      omega arith

  pub ids_more : IdsOk N Q (m ∷ ls) top'
  ids_more = record {
    numbered = λ k i. ⊎_elim
        (λ (e : k ≡ m). subst (Numbered N Q) (sym e) (record { seat = seat; low = omega arith; high = quota }))
        (λ (j : k ∈ ls). ok.numbered k j) (in_cons i);
    high = λ k i. ⊎_elim
        (λ (e : k ≡ m). subst (λ (x : Letter B). number_of x ≤ top' x.poster) (sym e) (omega arith))
        (λ (j : k ∈ ls). let h = ok.high k j in let g = top_grows k.poster in omega arith) (in_cons i);
    unique = λ k l i j e. one k l e (in_cons i) (in_cons j);
    listed = λ p n low high. by_seat m.poster (λ p. n ≤ top' p → HasLetter (name_from p n) (m ∷ ls))
        (λ high. at_own n low high (dec_le n (top m.poster)))
        (λ p ne high. let e = rest p ne in old (name_from p n) (ok.listed p n low (omega arith))) p high;
  }
    where
      one : (k l : Letter B) → SameLetter k l → (k ≡ m) ⊎ (k ∈ ls) → (l ≡ m) ⊎ (l ∈ ls) → k ≡ l
      one k l e (inl p) (inl q) = p ∙ sym q
      one k l e (inl p) (inr j) = absurd (fresh l j (subst (λ (x : Letter B). SameLetter x l) p e))
      one k l e (inr i) (inl q) = absurd (fresh k i (subst (λ (x : Letter B). SameLetter x k) q (same_turned k l e)))
      one k l e (inr i) (inr j) = ok.unique k l i j e

      old : (i : Name) → HasLetter i ls → HasLetter i (m ∷ ls)
      old i r = record { letter = r.letter; inside = there r.inside; called = r.called }

      at_own : (n : ℕ) → 1 ≤ n → n ≤ top' m.poster → Dec (n ≤ top m.poster) → HasLetter (name_from m.poster n) (m ∷ ls)
      at_own n low high (yes l) = old (name_from m.poster n) (ok.listed m.poster n low l)
      at_own n low high (no l) = let e : number_of m ≡ n = omega arith in record { letter = m; inside = here refl; called = ap (name_from m.poster) e }

-- Post.
module _ {B : Type 0} (N Q : ℕ) (m : Letter B) (w w' : World B) (h : History (Letter B)) (step : WorldPost N Q m.poster m w w')
    (ok : Books N Q (clocks w) (logs_of w) h) where
  clock_at : (t p : ℕ) → ¬ (t ≡ m.poster) → (w'.box t).clock p ≡ (w.box t).clock p
  clock_at = post_else N Q m w w' step

  grows : (t p : ℕ) → (w.box t).clock p ≤ (w'.box t).clock p
  grows = post_grows N Q m w w' step

  post_ids : IdsOk N Q (m ∷ posted_letters h) (λ s. (w'.box s).clock s)
  post_ids = ids_more N Q (posted_letters h) (λ s. (w.box s).clock s) (λ s. (w'.box s).clock s) ok.ids m
      step.seat (let e = step.own in let q = step.quota in omega arith) step.own (step.clock m.poster) (λ t ne. clock_at t t ne)

  post_behind : (s p : ℕ) → (w'.box s).clock p ≤ (w'.box p).clock p
  post_behind = by_seat m.poster (λ s. (p : ℕ) → (w'.box s).clock p ≤ (w'.box p).clock p)
      (by_seat m.poster (λ p. (w'.box m.poster).clock p ≤ (w'.box p).clock p) (omega arith)
      (λ p ne. let a = step.clock p in let b = step.rest p ne in let c = clock_at p p ne in let d = ok.behind m.poster p in omega arith))
      (λ s ne p. let a = clock_at s p ne in let b = ok.behind s p in let c = grows p p in omega arith)

  -- what was posted before, and is covered now, was covered before
  old : (k : Letter B) → k ∈ posted_letters h → number_of k ≤ (w'.box m.poster).clock k.poster → number_of k ≤ (w.box m.poster).clock k.poster
  old k j l = go (ℕ_discrete k.poster m.poster)
    where
      go : Dec (k.poster ≡ m.poster) → number_of k ≤ (w.box m.poster).clock k.poster
      go (yes e) = subst (λ (p : ℕ). number_of k ≤ (w.box p).clock k.poster) e (ok.ids.high k j)
      go (no ne) = let a = step.clock k.poster in let b = step.rest k.poster ne in omega arith

  post_advances : Advances (m ∷ posted_letters h) (w.box m.poster).clock (w'.box m.poster).clock m
  post_advances = record {
    listed = here refl;
    new = let e = step.own in omega arith;
    grows = grows m.poster;
    reached = λ p. let b = step.clock p in omega arith;
    only = λ k i l. ⊎_elim {C = (number_of k ≤ (w.box m.poster).clock k.poster) ⊎ (k ≡ m)}
        (λ (e : k ≡ m). inr e) (λ (j : k ∈ posted_letters h). inl (old k j l)) (in_cons i);
  }

  post_logs : (s : ℕ) → LogOk (m ∷ posted_letters h) (w'.box s).clock (w'.box s).log
  post_logs = by_seat m.poster (λ s. LogOk (m ∷ posted_letters h) (w'.box s).clock (w'.box s).log)
      (subst (LogOk (m ∷ posted_letters h) (w'.box m.poster).clock) (sym step.log)
      (log_last (m ∷ posted_letters h) (w.box m.poster).clock (w'.box m.poster).clock (w.box m.poster).log m post_advances (more m.poster)))
      (λ s ne. subst (λ (b : Box B). LogOk (m ∷ posted_letters h) b.clock b.log) (sym (step.elsewhere s ne)) (more s))
    where
      more : (s : ℕ) → LogOk (m ∷ posted_letters h) (w.box s).clock (w.box s).log
      more s = log_more (posted_letters h) (w.box s).clock (w.box s).log m
          (let a = ok.behind s m.poster in let e = step.own in omega arith) (ok.logs s)

  pub books_post : Books N Q (clocks w') (logs_of w') (posted m.poster m ∷ h)
  books_post = record {
    ids = post_ids;
    behind = post_behind;
    logs = post_logs;
    seen = seen_more m.poster m w w' h step.elsewhere step.log ok.seen;
    logged = logged_more m.poster m w w' h step.elsewhere step.log ok.logged;
    before = before';
    known = λ x k i j c d. known' x k c d (in_cons i) (in_cons j);
    made = λ x i. made' x (in_cons i);
    posts = λ s x i. posts' s x (in_cons i);
    grounded = (grounded', ok.grounded);
  }
    where
      known' : (x k : Letter B) → CoversLetter x k → ¬ (SameLetter k x) → (x ≡ m) ⊎ (x ∈ posted_letters h) → (k ≡ m) ⊎ (k ∈ posted_letters h)
          → ((x ≡ m) × Seen m.poster k h) ⊎ Before k x h
      known' x k c d (inl e) (inl f) = absurd (d (subst (SameLetter k) (f ∙ sym e) (record { poster = refl; number = refl })))
      known' x k c d (inl e) (inr j) =
          let c' : number_of k ≤ entry_at m.stamp k.poster = subst (λ (y : Letter B). CoversLetter y k) e c in
          let a = step.clock k.poster in
          let i : k ∈ (w.box m.poster).log = (ok.logs m.poster).full k j (old k j (omega arith)) in
          inl (e, ok.logged m.poster k i)
      known' x k c d (inr i) (inl f) =
          let c' : number_of m ≤ entry_at x.stamp m.poster = subst (λ (y : Letter B). CoversLetter x y) f c in
          let a = stamped_within N Q w h ok x i m.poster in
          let b = step.own in
          absurd (omega arith)
      known' x k c d (inr i) (inr j) = inr (ok.known x k i j c d)

      made' : (x : Letter B) → (x ≡ m) ⊎ (x ∈ posted_letters h) → posted x.poster x ∈ (posted m.poster m ∷ h)
      made' x (inl e) = here (ap (λ (y : Letter B). posted y.poster y) e)
      made' x (inr i) = there (ok.made x i)

      posts' : (s : ℕ) (x : Letter B) → (posted s x ≡ posted m.poster m) ⊎ (posted s x ∈ h) → x.poster ≡ s
      posts' s x (inl e) = let a : x ≡ m = cc in let b : s ≡ m.poster = cc in ap (λ (y : Letter B). y.poster) a ∙ sym b
      posts' s x (inr i) = ok.posts s x i

      new : (k : Letter B) → k ∈ (w.box m.poster).log → Earlier k m
      new k i = record {
        all = λ p. let a = (ok.logs m.poster).below k i p in let b = grows m.poster p in let c = step.clock p in omega arith;
        own = let a = (ok.logs m.poster).below k i m.poster in let b = step.own in omega arith;
      }

      before' : (k x : Letter B) → ((x ≡ m) × Seen m.poster k h) ⊎ Before k x h → (k ∈ (m ∷ posted_letters h)) × Earlier k x
      before' k x (inl e) =
          let i : k ∈ (w.box m.poster).log = ok.seen m.poster k e.1 in
          (there ((ok.logs m.poster).known k i), subst (Earlier k) (sym e.0) (new k i))
      before' k x (inr b) = let r = ok.before k x b in (there r.0, r.1)

      grounded' : GroundedIn (posted_letters h) m
      grounded' p n low high other = go (ℕ_discrete p m.poster)
        where
          go : Dec (p ≡ m.poster) → HasLetter (name_from p n) (posted_letters h)
          go (yes e) =
              let d : ¬ (n ≡ number_of m) = λ q. other (λ j. name_from (sym e j) (sym q j)) in
              let a = ap (entry_at m.stamp) e in
              let b = ap (λ (t : ℕ). (w.box t).clock t) e in
              let c = step.own in
              ok.ids.listed p n low (omega arith)
          go (no ne) = let a = step.rest p ne in let b = ok.behind m.poster p in ok.ids.listed p n low (omega arith)

-- Show.
module _ {B : Type 0} (N Q s : ℕ) (m : Letter B) (w w' : World B) (h : History (Letter B)) (step : WorldShow N Q s m w w')
    (listed : m ∈ posted_letters h) (ok : Books N Q (clocks w) (logs_of w) h) where
  tops_same : (p : ℕ) → (w'.box p).clock p ≡ (w.box p).clock p
  tops_same = show_own N Q s m w w' step

  show_advances : Advances (posted_letters h) (w.box s).clock (w'.box s).clock m
  show_advances = record {
    listed = listed;
    new = let e = step.ready.next in omega arith;
    grows = show_grows N Q s m w w' step s;
    reached = by_seat m.poster (λ p. entry_at m.stamp p ≤ (w'.box s).clock p)
        (let o = step.own in omega arith) (λ p ne. let e = step.rest p ne in let r = step.ready.known p ne in omega arith);
    only = λ k i l. go k i l (ℕ_discrete k.poster m.poster) (dec_le (number_of k) ((w.box s).clock k.poster));
  }
    where
      go : (k : Letter B) → k ∈ posted_letters h → number_of k ≤ (w'.box s).clock k.poster → Dec (k.poster ≡ m.poster)
          → Dec (number_of k ≤ (w.box s).clock k.poster) → (number_of k ≤ (w.box s).clock k.poster) ⊎ (k ≡ m)
      go k i l d (yes c) = inl c
      go k i l (yes e) (no c) =
          let a = ap (w.box s).clock e in
          let b = ap (w'.box s).clock e in
          let o = step.own in
          let n = step.ready.next in
          inr (ok.ids.unique k m i listed (record { poster = e; number = omega arith }))
      go k i l (no ne) (no c) = let e = step.rest k.poster ne in absurd (c (omega arith))

  pub books_show : Books N Q (clocks w') (logs_of w') (shown s m ∷ h)
  books_show = record {
    ids = subst (IdsOk N Q (posted_letters h)) (fun_ext (λ p. sym (tops_same p))) ok.ids;
    behind = by_seat s (λ t. (p : ℕ) → (w'.box t).clock p ≤ (w'.box p).clock p)
        (by_seat m.poster (λ p. (w'.box s).clock p ≤ (w'.box p).clock p)
        (let a = ok.ids.high m listed in let b = step.own in let c = tops_same m.poster in omega arith)
        (λ p ne. let a = step.rest p ne in let b = ok.behind s p in let c = tops_same p in omega arith))
        (λ t ne p. let a = show_else N Q s m w w' step t p ne in let b = ok.behind t p in let c = tops_same p in omega arith);
    logs = by_seat s (λ t. LogOk (posted_letters h) (w'.box t).clock (w'.box t).log)
        (subst (LogOk (posted_letters h) (w'.box s).clock) (sym step.log)
        (log_last (posted_letters h) (w.box s).clock (w'.box s).clock (w.box s).log m show_advances (ok.logs s)))
        (λ t ne. subst (λ (b : Box B). LogOk (posted_letters h) b.clock b.log) (sym (step.elsewhere t ne)) (ok.logs t));
    seen = seen_more s m w w' h step.elsewhere step.log ok.seen;
    logged = logged_more s m w w' h step.elsewhere step.log ok.logged;
    before = ok.before;
    known = ok.known;
    made = λ k i. there (ok.made k i);
    posts = λ t k i. shown_not_post t k (in_cons i);
    grounded = ok.grounded;
  }
    where
      shown_not_post : (t : ℕ) (k : Letter B) → (posted t k ≡ shown s m) ⊎ (posted t k ∈ h) → k.poster ≡ t
      shown_not_post t k (inl e) = absurd cc
      shown_not_post t k (inr i) = ok.posts t k i

-- Opening, and the steps that change neither a clock nor a log.
module _ {B : Type 0} (N Q : ℕ) where
  pub books_opened : (w : World B) → InitialWorld w → Books N Q (clocks w) (logs_of w) []
  books_opened w step = record {
    ids = record {
      numbered = λ m i. absurd (in_none i);
      high = λ m i. absurd (in_none i);
      unique = λ m k i j e. absurd (in_none i);
      listed = λ p n low high. let e = step.clock p p in absurd (omega arith);
    };
    behind = λ s p. let e = step.clock s p in omega arith;
    logs = λ s. subst (LogOk [] (w.box s).clock) (sym (step.log s)) (log_empty (w.box s).clock);
    seen = λ s m i. absurd i;
    logged = λ s m i. absurd (in_none (in_eq (step.log s) i));
    before = λ k m i. absurd i;
    known = λ m k i j c d. absurd (in_none i);
    made = λ m i. absurd (in_none i);
    posts = λ s m i. absurd (in_none i);
    grounded = tt;
  }

  pub books_same : (w w' : World B) (h : History (Letter B)) → ((t : ℕ) → (w'.box t).clock ≡ (w.box t).clock)
      → ((t : ℕ) → (w'.box t).log ≡ (w.box t).log) → Books N Q (clocks w) (logs_of w) h → Books N Q (clocks w') (logs_of w') h
  books_same w w' h same_clock same_log ok =
      subst₂ (λ (c : ℕ → ℕ → ℕ) (g : ℕ → List (Letter B)). Books N Q c g h) (fun_ext (λ t. sym (same_clock t))) (fun_ext (λ t. sym (same_log t))) ok
