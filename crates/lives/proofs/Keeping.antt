-- What a reachable room guarantees.
use Rattle.std.proofs.Common.{◌≡◌, ℕ, ◌*◌, ◌<◌, ◌≤◌, Bool, true, false, ◌↔◌, List, [], ◌∷◌, ◌++◌, map, length, take, drop, nat_le, Ok, Err, Result, sym, refl, ap, ◌∙◌, subst, inl, inr, append-nil, arith, take-append-drop}
use Rattle.std.proofs.lemmas.Bool.{le-leb, leb-true}
use Rattle.letters.specs.declared.letter.Letter.{Letter}
use Rattle.letters.specs.Letters.{letter_name}
use Rattle.letters.specs.Names.{Name}
use Rattle.letters.specs.Order.{CoversLetter, Ready, SameLetter}
use Rattle.letters.specs.Refusals.{Reason, unless}
use Rattle.causality.specs.declared.docket.DocketState.TheVariants.{Clear}
use Rattle.causality.specs.History.{Event, History, LedTo, Seen, map_letters, posted, posted_letters, seen_at, shown}
use Rattle.letters.specs.Lists.{◌∈◌, here, there}
use Rattle.causality.specs.Theorems as theorems
use Rattle.causality.specs.LetterLists.{HasLetter}
use Rattle.causality.specs.WorldSteps.{Stray}
use Rattle.causality.specs.Worlds.{Box}
use Rattle.causality.proofs.Lists.{in_as, in_eq, in_none}
use Rattle.causality.proofs.Named.{seen_told}
use Rattle.causality.proofs.Turns.{told_in_turn}
use Rattle.causality.proofs.Theorems.{causal_order, complete_delivery, enough_places, order_for_sheets, stamps_mean_led_to}
use Rattle.sheets.specs.Sheets.{Kind, LawfulKind, draw_up_outcome, drawn_up}
use Rattle.seats.specs.Outcomes.{answer_then, is_stray, seat_check}
use Rattle.seats.specs.Rooms.{RoomState, seat_at, start}
use Rattle.seats.specs.Seats.{log_length}
use Rattle.lives.specs.Traces.{Posting, Trace, events, posting_of, postings}
use Rattle.lives.specs.Reachability.{Configuration}
use Rattle.lives.specs.Drawing.{sheet_outcome}
use Rattle.lives.specs.Guarantees.{AlwaysGuaranteed, Guarantees, RoomComplete, RoomGenuine, RoomInOrder, RoomQuiescent, SameLetters, SeatsAgree, SheetsAgree, hold_at, log_at}
use Rattle.lives.proofs.Agreeing.{agree, same_named}
use Rattle.seats.proofs.Clocks.{log_fits, row_end}
use Rattle.lives.proofs.Cut.{cut_in, cut_one}
use Rattle.lives.proofs.Going.{lives}
use Rattle.lives.proofs.Lives.{Lives, given}
use Rattle.seats.proofs.Tables.{length_part}
use Rattle.lives.proofs.Taking.{a_stray}
use Rattle.lives.proofs.Views.{box_of, no_box, view}

-- lists of what a function makes of each element
module _ {X Y : Type 0} (f : X → Y) where
  in_map : {x : X} {l : List X} → x ∈ l → f x ∈ map f l
  in_map (here e) = here (ap f e)
  in_map (there i) = there (in_map i)

  record Of (y : Y) (l : List X) : Type 0 where
    one : X
    inside : one ∈ l
    is : y ≡ f one

  of_map : (y : Y) (l : List X) → y ∈ map f l → Of y l
  of_map y [] i = absurd (in_none i)
  of_map y (x ∷ l) (here e) = record { one = x; inside = here refl; is = e }
  of_map y (x ∷ l) (there i) = let r = of_map y l i in record { one = r.one; inside = there r.inside; is = r.is }

-- an answer that accepts after a check, and one after a check of places
followed : {X : Type 0} (check : Result (Unit {0}) Reason) (r : Result X Reason) (x : X) → answer_then check r ≡ Ok x → r ≡ Ok x
followed (Ok done) r x e = e
followed (Err why) r x e = let z : ◌≡◌ {A = ℕ} 0 1 = cc in absurd (omega arith)

drew_up : {X : Type 0} (enough : Bool) (drawn x : X) → unless enough 17 (Ok drawn) ≡ Ok x → (enough ≡ true) × (x ≡ drawn)
drew_up true drawn x e = (refl, cc)
drew_up false drawn x e = let z : ◌≡◌ {A = ℕ} 0 1 = cc in absurd (omega arith)

-- a letter that was posted is among the posted letters
abbrev letter_of : {L : Type 0} → Event L → L
letter_of (posted s m) = m
letter_of (shown s m) = m

among_posted : {L : Type 0} (s : ℕ) (m : L) (h : History L) → posted s m ∈ h → m ∈ posted_letters h
among_posted s m [] i = absurd (in_none i)
among_posted {L} s m (posted t k ∷ h) (here e) = here (ap letter_of e)
among_posted s m (posted t k ∷ h) (there i) = there (among_posted s m h i)
among_posted s m (shown t k ∷ h) (here e) = absurd cc
among_posted s m (shown t k ∷ h) (there i) = among_posted s m h i

-- what was seen was seen where names stand for the letters in the events
seen_as : {A L : Type 0} (f : A → L) (s : ℕ) (i : L) (x : A) (h : History A) → Seen s x h → f x ≡ i → Seen s i (map_letters f h)
seen_as f s i x [] seen e = seen
seen_as f s i x (posted t k ∷ h) (inl at) e = inl (at.0, sym e ∙ ap f at.1)
seen_as f s i x (posted t k ∷ h) (inr seen) e = inr (seen_as f s i x h seen e)
seen_as f s i x (shown t k ∷ h) (inl at) e = inl (at.0, sym e ∙ ap f at.1)
seen_as f s i x (shown t k ∷ h) (inr seen) e = inr (seen_as f s i x h seen e)

module _ {B : Type 0} (trace : Trace B) (w : Configuration B) (life : Lives trace w) where
  abbrev st : RoomState
  st = w.room

  abbrev N : ℕ
  N = w.room.count

  abbrev Q : ℕ
  Q = w.room.quota

  abbrev h : History (Letter B)
  h = life.past

  in_box : (s : ℕ) → s < N → (view w).box s ≡ box_of w s
  in_box s lt = cut_in N s (box_of w s) no_box lt

  in_log : (s : ℕ) → s < N → ((view w).box s).log ≡ log_at w s
  in_log s lt = ap (λ (b : Box B). b.log) (in_box s lt)

  order_kept : (s : ℕ) → s < N → RoomInOrder trace s (log_at w s)
  order_kept s lt =
      let order : theorems.WorldInOrder s h (log_at w s) = subst (theorems.WorldInOrder s h) (in_log s lt) (causal_order.in_order N Q (view w) h life.run s) in
      record {
        seen = λ i. (
          λ stands. subst (Seen s i) life.events_are (seen_as letter_name s i stands.letter h ((order.seen stands.letter).0 stands.inside) stands.called),
          λ seen.
              let x = seen_told letter_name s i h (subst (Seen s i) (sym life.events_are) seen) in
              record { letter = x.0; inside = (order.seen x.0).1 x.1; called = x.2 },
        );
        in_turn = ap (map letter_name) (sym (in_log s lt) ∙ causal_order.in_turn N Q (view w) h life.run s) ∙ told_in_turn letter_name s h ∙ ap (seen_at s) life.events_are;
        once = order.once;
        led = λ a b m i e led. order.led_by_name a b m i e (subst (λ (past : History Name). LedTo past i (letter_name m)) (sym life.events_are) led);
        covered = order.covered;
      }

  -- a posted letter was given, by its name and its body
  was_given : (m : Letter B) → m ∈ posted_letters h → given m ∈ postings trace
  was_given m i = in_eq life.postings_are (in_map given i)

  -- a letter of the run is the very one that was posted
  genuine_in : (m : Letter B) → theorems.WorldGenuine N (view w) h m → RoomGenuine trace w m
  genuine_in m g = record {
    seat = g.seat;
    made = was_given m (among_posted m.poster m h g.made);
    stands = in_eq (in_log m.poster g.seat) g.stands;
  }

  posted_in : (m : Letter B) → theorems.WorldGenuine N (view w) h m → m ∈ posted_letters h
  posted_in m g = among_posted m.poster m h g.made

  all_genuine : theorems.AllGenuine N (view w) h
  all_genuine = causal_order.genuine N Q (view w) h life.run

  logged : (s : ℕ) → s < N → (m : Letter B) → m ∈ log_at w s → theorems.WorldGenuine N (view w) h m
  logged s lt m i = all_genuine.log s m (in_eq (sym (in_log s lt)) i)

  genuine_kept : (s : ℕ) → s < N → (m : Letter B) → m ∈ log_at w s → RoomGenuine trace w m
  genuine_kept s lt m i = genuine_in m (logged s lt m i)

  -- posted letters of one name are equal
  one_letter : (m k : Letter B) → m ∈ posted_letters h → k ∈ posted_letters h → letter_name m ≡ letter_name k → m ≡ k
  one_letter m k i j e = order_for_sheets.equal N Q (view w) h life.run m k i j (same_named m k e)

  named_kept : (i : Name) (body other : B) → posting_of i body ∈ postings trace → posting_of i other ∈ postings trace → body ≡ other
  named_kept i body other p q =
      let o = of_map given _ (posted_letters h) (in_eq (sym life.postings_are) p) in
      let o' = of_map given _ (posted_letters h) (in_eq (sym life.postings_are) q) in
      let name = λ (x : Posting B). x.name in
      let said = λ (x : Posting B). x.body in
      ap said o.is
      ∙ ap (λ (m : Letter B). m.body) (one_letter o.one o'.one o.inside o'.inside (sym (ap name o.is) ∙ ap name o'.is))
      ∙ sym (ap said o'.is)

  alike_kept : (s t : ℕ) → s < N → t < N → (m k : Letter B) → m ∈ log_at w s → k ∈ log_at w t → letter_name m ≡ letter_name k → m ≡ k
  alike_kept s t ls lt m k i j e = one_letter m k (posted_in m (logged s ls m i)) (posted_in k (logged t lt k j)) e

  in_waiting : (s : ℕ) → s < N → (view w).waiting s ≡ w.carrier.waiting s
  in_waiting s lt = cut_in N s (w.carrier.waiting s) [] lt

  held_kept : (s : ℕ) → s < N → (m : Letter B) → m ∈ hold_at w s → RoomGenuine trace w m
  held_kept s lt m i = genuine_in m (all_genuine.hold s m (in_eq (sym (ap (λ (b : Box B). b.hold) (in_box s lt))) i))

  waiting_kept : (s : ℕ) → s < N → (m : Letter B) → m ∈ w.carrier.waiting s → RoomGenuine trace w m
  waiting_kept s lt m i = genuine_in m (all_genuine.waiting s m lt (in_eq (sym (in_waiting s lt)) i))

  -- what waits is no stray: the hold has a place for it
  never : (s : ℕ) → s < N → (m : Letter B) → m ∈ w.carrier.waiting s → ¬ (Stray N Q s (box_of w s) m)
  never s lt m i =
      let j = in_eq (sym (in_waiting s lt)) i in
      subst (λ (b : Box B). ¬ (Stray N Q s b m)) (in_box s lt)
      ((enough_places N Q).hold (view w) h life.run s lt m (posted_in m (all_genuine.waiting s m lt j)) (all_genuine.other s m lt j))

  never_stray : (s : ℕ) → s < N → (m : Letter B) → m ∈ w.carrier.waiting s → is_stray st s m ≡ false
  never_stray s lt m i = so (is_stray st s m) refl
    where
      so : (b : Bool) → is_stray st s m ≡ b → is_stray st s m ≡ false
      so true e = absurd (never s lt m i (a_stray w life.fit s m lt life.holds e))
      so false e = e

  stamps_kept : (s t : ℕ) → s < N → t < N → (m k : Letter B) → m ∈ log_at w s → k ∈ log_at w t
      → LedTo (events trace) (letter_name m) (letter_name k) ↔ (CoversLetter k m × ¬ (SameLetter m k))
  stamps_kept s t ls lt m k i j =
      let p = posted_in m (logged s ls m i) in
      let q = posted_in k (logged t lt k j) in
      let names = causal_order.by_name N Q (view w) h life.run m k p q in
      let means = stamps_mean_led_to N Q (view w) h life.run m k p q in (
        λ l. means.0 (names.1 (subst (λ (past : History Name). LedTo past (letter_name m) (letter_name k)) (sym life.events_are) l)),
        λ c. subst (λ (past : History Name). LedTo past (letter_name m) (letter_name k)) life.events_are (names.0 (means.1 c)),
      )

  hold_size : (s : ℕ) → s < N → length (hold_at w s) ≡ (seat_at st s).held
  hold_size s lt = length_part w.holds (start st s) (seat_at st s).held
      (omega (arith, life.holds, row_end st life.fit s (seat_at st s).held lt (life.fit.placed s)))

  delivery_kept : (s : ℕ) → s < N → RoomQuiescent w s → RoomComplete trace w s
  delivery_kept s lt quiescent = record {
    log = λ i body. (
      λ c. in_as (λ j. posting_of (sym c.called j) (sym c.with_body j)) (was_given c.letter ((all.log c.letter).0 c.inside)),
      λ i.
          let o = of_map given _ (posted_letters h) (in_eq (sym life.postings_are) i) in
          record {
            letter = o.one;
            inside = (all.log o.one).1 o.inside;
            called = sym (ap (λ (p : Posting B). p.name) o.is);
            with_body = sym (ap (λ (p : Posting B). p.body) o.is);
          },
    );
    hold = all.hold;
    held = sym (hold_size s lt) ∙ ap length all.hold;
  }
    where
      so_settled : theorems.WorldQuiescent N Q s (view w)
      so_settled = record {
        dockets = λ t l. cut_one N t (λ b. b.docket ≡ Clear) (box_of w t) no_box l (quiescent.dockets t l);
        waits = cut_one N s (λ l. l ≡ []) (w.carrier.waiting s) [] lt quiescent.waits;
        held = cut_one N s (λ b. (m : Letter B) → m ∈ b.hold → ¬ (Ready N Q s b.clock m)) (box_of w s) no_box lt quiescent.held;
      }

      all : theorems.WorldComplete h (box_of w s)
      all = subst (theorems.WorldComplete h) (in_box s lt) (complete_delivery N Q (view w) h life.run s lt so_settled)

  short_kept : (s : ℕ) → s < N → length (log_at w s) ≤ N * Q
  short_kept s lt =
      let most = log_fits st life.fit s in
      let size = length_part w.logs (start st s) (log_length (seat_at st s)) (omega (arith, life.logs, row_end st life.fit s (log_length (seat_at st s)) lt most)) in
      omega arith

  -- where one seat is quiescent, the letters of the other's log stand in its own
  settled_into : (s t : ℕ) → s < N → t < N → RoomQuiescent w t → (m : Letter B) → m ∈ log_at w s → HasLetter (letter_name m) (log_at w t)
  settled_into s t ls lt still m i =
      let c = ((delivery_kept t lt still).log _ _).1 (genuine_kept s ls m i).made in
      record { letter = c.letter; inside = c.inside; called = c.called }

  settled_kept : (s t : ℕ) → s < N → t < N → RoomQuiescent w s → RoomQuiescent w t → SameLetters (log_at w s) (log_at w t)
  settled_kept s t ls lt one other = record { into = settled_into s t ls lt other; back = settled_into t s lt ls one }

  module _ {M : Type 0} (kind : Kind M B) (laws : LawfulKind kind) (s t : ℕ) (ls : s < N) (lt : t < N) where
    -- lists that two logs begin with
    begun : (a a' b b' : List (Letter B)) → log_at w s ≡ a ++ a' → log_at w t ≡ b ++ b' → SheetsAgree kind a b
    begun a a' b b' e f = agree kind laws a b (order_for_sheets.logs N Q (view w) h life.run s t a a' b b' (in_log s ls ∙ e) (in_log t lt ∙ f))

    sheets_kept : SheetsAgree kind (log_at w s) (log_at w t)
    sheets_kept = begun (log_at w s) [] (log_at w t) [] (sym (append-nil (log_at w s))) (sym (append-nil (log_at w t)))

    -- a log goes up on a sheet that has places for any log of the room
    goes_up : (u : ℕ) → u < N → (m : M) → sheet_outcome kind st w.logs (length w.holds) u ≡ Ok m → draw_up_outcome kind (log_at w u) ≡ Ok m
    goes_up u lu m e =
        let drew = drew_up (nat_le (N * Q) kind.places) (drawn_up kind (log_at w u)) m (followed (seat_check st (length w.logs) (length w.holds) u) _ m e) in
        let wide = leb-true (N * Q) kind.places drew.0 in
        let enough = le-leb (length (log_at w u)) kind.places (omega (arith, short_kept u lu)) in
        rw enough (ap Ok (sym drew.1))

    drawn_kept : SeatsAgree kind w s t
    drawn_kept same m m' e e' = sheets_kept same m m' (goes_up s ls m e) (goes_up t lt m' e')

    beginnings_kept : (i j : ℕ) → SheetsAgree kind (take i (log_at w s)) (take j (log_at w t))
    beginnings_kept i j = begun (take i (log_at w s)) (drop i (log_at w s)) (take j (log_at w t)) (drop j (log_at w t))
        (sym (take-append-drop i (log_at w s))) (sym (take-append-drop j (log_at w t)))

  all_kept : {M : Type 0} (kind : Kind M B) → LawfulKind kind → Guarantees kind trace w
  all_kept kind laws = record {
    in_order = order_kept;
    genuine = genuine_kept;
    named = named_kept;
    alike = alike_kept;
    complete = delivery_kept;
    quiescent = settled_kept;
    drawn = drawn_kept kind laws;
    sheets = sheets_kept kind laws;
    beginnings = beginnings_kept kind laws;
    stamps = stamps_kept;
    held = held_kept;
    waiting = waiting_kept;
    never_stray = never_stray;
    short = short_kept;
  }

-- The theorem about rooms: by whatever steps a room is reachable from its opening, the guarantees hold there.
pub always_keeps : {M B : Type 0} (kind : Kind M B) → LawfulKind kind → AlwaysGuaranteed kind
always_keeps kind laws trace w reachable = all_kept trace w (lives reachable) kind laws
