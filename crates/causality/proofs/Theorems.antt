-- The theorems, each from what holds at all times.
use Rattle.std.proofs.Common.{◌≡◌, ℕ, ◌≤◌, ◌⊎◌, ◌↔◌, List, [], ◌∷◌, ◌++◌, sym, refl, ap, ◌∙◌, subst, inl, inr, ⊎_elim, arith}
use Rattle.letters.specs.declared.letter.Letter.{Letter}
use Rattle.letters.specs.Letters.{entry_at, number_of, letter_name}
use Rattle.letters.specs.Names.{Name, name_from}
use Rattle.letters.specs.Order.{Covers, CoversLetter, SameLetter}
use Rattle.letters.specs.Lists.{◌∈◌, here, there}
use Rattle.letters.specs.Logs.{CausallyOrdered, NoDuplicates}
use Rattle.causality.specs.LetterLists.{HasLetter}
use Rattle.causality.specs.History.{History, posted_letters, Before, LedTo, direct, through, map_letters}
use Rattle.causality.specs.Worlds.{World}
use Rattle.causality.proofs.Turns.{in_turn}
use Rattle.causality.specs.Theorems.{WorldInOrder, WorldGenuine, AllGenuine, CausalOrder, CompleteDelivery, EnoughPlaces, OrderForSheets, StampsMeanLedTo}
use Rattle.causality.proofs.Lists.{in_eq, in_none, in_left, in_middle, apart_front}
use Rattle.causality.proofs.Counting.{at_most}
use Rattle.causality.proofs.Named.{first_known, led_from_names, led_named}
use Rattle.causality.proofs.Logs.{LogOk}
use Rattle.causality.proofs.Books.{Earlier, Books, clocks, logs_of, stamped_within}
use Rattle.causality.proofs.Holds.{never_stray}
use Rattle.causality.proofs.Always.{Always, always}
use Rattle.causality.proofs.Delivery.{delivered}
use Rattle.causality.proofs.Settling.{complete}

same_itself : {B : Type 0} (m k : Letter B) → m ≡ k → SameLetter m k
same_itself {B} m k e = record { poster = ap (λ (x : Letter B). x.poster) e; number = ap number_of e }

module _ {B : Type 0} (N Q : ℕ) (w : World B) (h : History (Letter B)) (ok : Always N Q w h) where
  abbrev books : Books N Q (clocks w) (logs_of w) h
  books = ok.books

  -- what led to a letter was posted, and its stamp is smaller
  led : (k m : Letter B) → LedTo h k m → (k ∈ posted_letters h) × Earlier k m
  led k m (direct b) = books.before k m b
  led k m (through {k = x} a b) =
      let p = led k x a in
      let q = led x m b in (
        p.0,
        record {
          all = λ n. let u = p.1.all n in let v = q.1.all n in omega arith;
          own = let u = p.1.all m.poster in let v = q.1.own in omega arith;
        },
      )

  not_same : (k m : Letter B) → Earlier k m → ¬ (SameLetter k m)
  not_same k m early same =
      let a = early.own in
      let b = ap (entry_at k.stamp) same.poster in
      let c = same.number in
      omega arith

  pub means_led_to : (k m : Letter B) → k ∈ posted_letters h → m ∈ posted_letters h → LedTo h k m ↔ (CoversLetter m k × ¬ (SameLetter k m))
  means_led_to k m i j = (
    λ l. let p = led k m l in (p.1.all k.poster, not_same k m p.1),
    λ c. direct (books.known m k j i c.0 c.1),
  )

  seen_posted : (m k : Letter B) → Before m k h → m ∈ posted_letters h
  seen_posted m k b = (books.before m k b).0

  -- posted letters of one name are one letter
  unique : (m k : Letter B) → m ∈ posted_letters h → k ∈ posted_letters h → letter_name m ≡ letter_name k → m ≡ k
  unique m k i j e = books.ids.unique m k i j (record { poster = ap (λ (x : Name). x.poster) e; number = ap (λ (x : Name). x.number) e })

  pub led_by_names : (m k : Letter B) → m ∈ posted_letters h → k ∈ posted_letters h
      → LedTo h m k ↔ LedTo (map_letters letter_name h) (letter_name m) (letter_name k)
  led_by_names m k i j = (
    λ l. led_named letter_name h m k l,
    λ l.
        let r = led_from_names letter_name h seen_posted unique (letter_name m) (letter_name k) l in
        let a : r.before ≡ m = unique r.before m (first_known letter_name h seen_posted unique r.before r.after r.led) i r.before_is in
        let b : r.after ≡ k = unique r.after k r.after_in j r.after_is in
        subst (λ (x : Letter B). LedTo h x k) a (subst (LedTo h r.before) b r.led),
  )

  -- a posted letter of this name
  listed : (m : Letter B) → m ∈ posted_letters h → (p n : ℕ) → 1 ≤ n → Covers m p n → HasLetter (name_from p n) (posted_letters h)
  listed m i p n low high =
      let a = stamped_within N Q w h books m i p in
      books.ids.listed p n low (omega arith)

  pub in_order : (s : ℕ) → WorldInOrder s h (w.box s).log
  in_order s = record {
    seen = λ m. (books.logged s m, books.seen s m);
    once = (books.logs s).once;
    led = above;
    led_by_name = by_name;
    covered = covered';
  }
    where
      above : (a b : List (Letter B)) (m k : Letter B) → (w.box s).log ≡ a ++ (m ∷ b) → LedTo h k m → k ∈ a
      above a b m k e l = let p = led k m l in
          ⊎_elim (λ (i : k ∈ a). i) (λ (q : k ≡ m). absurd (not_same k m p.1 (same_itself k m q)))
          ((books.logs s).above a b m k e p.0 (p.1.all k.poster))

      by_name : (a b : List (Letter B)) (m : Letter B) (i : Name) → (w.box s).log ≡ a ++ (m ∷ b) → LedTo (map_letters letter_name h) i (letter_name m) → HasLetter i a
      by_name a b m i e l =
          let r = led_from_names letter_name h seen_posted unique i (letter_name m) l in
          let j = (books.logs s).known m (in_eq (sym e) (in_middle m a b)) in
          let same : r.after ≡ m = unique r.after m r.after_in j r.after_is in
          record {
            letter = r.before;
            inside = above a b m r.before e (subst (LedTo h r.before) same r.led);
            called = r.before_is;
          }

      covered' : (a b : List (Letter B)) (m : Letter B) (p n : ℕ) → (w.box s).log ≡ a ++ (m ∷ b) → 1 ≤ n → Covers m p n
          → ¬ (letter_name m ≡ name_from p n) → HasLetter (name_from p n) a
      covered' a b m p n e low high other =
          let i = (books.logs s).known m (in_eq (sym e) (in_middle m a b)) in
          let r = listed m i p n low high in
          let k : Letter B = r.letter in
          let q = ap (λ (x : Name). x.poster) r.called in
          let v = ap (λ (x : Name). x.number) r.called in
          let u = ap (entry_at m.stamp) q in
          let c : CoversLetter m k = omega arith in
          record {
            letter = k;
            inside = ⊎_elim (λ (j : k ∈ a). j) (λ (q : k ≡ m). absurd (other (ap letter_name (sym q) ∙ r.called)))
                ((books.logs s).above a b m k e r.inside c);
            called = r.called;
          }

  genuine : (m : Letter B) → m ∈ posted_letters h → WorldGenuine N w h m
  genuine m i = record {
    seat = (books.ids.numbered m i).seat;
    made = books.made m i;
    stands = (books.logs m.poster).full m i (books.ids.high m i);
  }

  pub all_genuine : AllGenuine N w h
  all_genuine = record {
    log = λ s m i. genuine m ((books.logs s).known m i);
    hold = λ s m i. genuine m ((ok.holds s).known m i);
    waiting = λ s m l i. genuine m (ok.waiting.known s m l i);
    other = ok.waiting.other;
    posts = λ s m i. books.posts s m i;
  }

-- A log's letters cover no later one.
module _ {B : Type 0} where
  no_later : (l : List (Letter B)) → NoDuplicates l
      → ((a b : List (Letter B)) (m k : Letter B) → l ≡ a ++ (m ∷ b) → k ∈ l → CoversLetter m k → (k ∈ a) ⊎ (k ≡ m)) → CausallyOrdered l
  no_later [] once above = tt
  no_later (m ∷ l) once above = (
    λ k i c. first k i (above [] l m k refl (there i) c),
    no_later l once.1 (λ a b x k e i c. rest a x k i (above (m ∷ a) b x k (ap (λ (r : List (Letter B)). m ∷ r) e) (there i) c)),
  )
    where
      not_first : (k : Letter B) → k ∈ l → ¬ (k ≡ m)
      not_first k i e = once.0 k i (same_itself m k (sym e))

      first : (k : Letter B) → k ∈ l → (k ∈ []) ⊎ (k ≡ m) → ⊥
      first k i (inl j) = in_none j
      first k i (inr e) = not_first k i e

      rest : (a : List (Letter B)) (x k : Letter B) → k ∈ l → (k ∈ (m ∷ a)) ⊎ (k ≡ x) → (k ∈ a) ⊎ (k ≡ x)
      rest a x k i (inl (here e)) = absurd (not_first k i e)
      rest a x k i (inl (there j)) = inl j
      rest a x k i (inr e) = inr e

  onward : (ls : List (Letter B)) (c : ℕ → ℕ) (l : List (Letter B)) → LogOk ls c l → CausallyOrdered l
  onward ls c l ok = no_later l ok.once (λ a b m k e i cov. ok.above a b m k e (ok.known k i) cov)

pub causal_order : {B : Type 0} → CausalOrder B
causal_order = record {
  in_order = λ N Q w h run s. in_order N Q w h (always N Q w h run) s;
  in_turn = λ N Q w h run s. in_turn run s;
  by_name = λ N Q w h run m k i j. led_by_names N Q w h (always N Q w h run) m k i j;
  genuine = λ N Q w h run. all_genuine N Q w h (always N Q w h run);
}

pub complete_delivery : {B : Type 0} → CompleteDelivery B
complete_delivery N Q w h run s seat quiescent = complete N Q w h (always N Q w h run) (delivered N Q w h run) s seat quiescent

pub enough_places : {B : Type 0} (N Q : ℕ) → EnoughPlaces B N Q
enough_places N Q = record {
  hold = λ w h run s seat m i other.
      let ok = always N Q w h run in
      never_stray N Q w h ok.books ok.holds s seat m i other;
  log = λ w h run s.
      let books = (always N Q w h run).books in
      at_most N Q (w.box s).log (λ m i. books.ids.numbered m ((books.logs s).known m i)) (books.logs s).once;
}

pub order_for_sheets : {B : Type 0} → OrderForSheets B
order_for_sheets = record {
  equal = λ N Q w h run m k i j same. (always N Q w h run).books.ids.unique m k i j same;
  logs = λ N Q w h run s t a a' b b' e f.
      let books = (always N Q w h run).books in
      let log = books.logs s in
      let log' = books.logs t in
      record {
        once = apart_front SameLetter a a' (subst NoDuplicates e log.once);
        once' = apart_front SameLetter b b' (subst NoDuplicates f log'.once);
        onward = apart_front CoversLetter a a' (subst CausallyOrdered e (onward (posted_letters h) (w.box s).clock (w.box s).log log));
        onward' = apart_front CoversLetter b b' (subst CausallyOrdered f (onward (posted_letters h) (w.box t).clock (w.box t).log log'));
        equal = λ m k i j same. books.ids.unique m k (log.known m (in_eq (sym e) (in_left a' i))) (log'.known k (in_eq (sym f) (in_left b' j))) same;
      };
}

pub stamps_mean_led_to : {B : Type 0} → StampsMeanLedTo B
stamps_mean_led_to N Q w h run m m' i j = means_led_to N Q w h (always N Q w h run) m m' i j
