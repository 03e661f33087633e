-- The byte that is named is the first wrong one, by the records that letters have.
use Rattle.std.proofs.Common.{◌≡◌, ℕ, zero, suc, ◌+◌, ◌-◌, ◌*◌, ◌/◌, ◌%◌, ◌<◌, ◌≤◌, Bool, true, false, cond, ◌⊎◌, inl, inr, ⊎_elim, eqb, ltb, leb, List, [], ◌∷◌, length, get_or, take, drop, replicate, Some, None, Err, Option, Result, ◌==◌, sym, refl, ap, ◌∙◌, subst, arith}
use Rattle.std.proofs.lemmas.List.{get_or-take, get_or-drop, get_or_past, get_or-replicate, length-take, length-drop, length-take-le}
use Rattle.std.proofs.lemmas.Bool.{cases_lt, ne_eqb, eq-eqb, eqb-true, eqb-false, le-ltb, lt-ltb, ltb-true, ltb-false, leb-true, true≢false}
use Rattle.records.specs.declared.record.TheConstants.{BODY_END, BODY_PLACE, KIND_PLACE, LENGTH_PLACE, POSTER_PLACE, RECORD_SIZE, ZERO_PLACE}
use Rattle.records.specs.declared.stamps.TheConstants.{STAMP_SIZE}
use Rattle.letters.specs.declared.letter.Letter.{Letter}
use Rattle.letters.specs.Checks.{first_failing}
use Rattle.letters.specs.ChecksLemmas.{failed, fails_at, some_none}
use Rattle.letters.specs.declared.body.TheConstants.{BODY_SPACE}
use Rattle.letters.specs.Forms.{FirstWrong, Form, LawfulForm}
use Rattle.letters.specs.Letters.{parts_of}
use Rattle.letters.specs.Numbers.{bytes_of_16, number_16}
use Rattle.letters.specs.NumbersLemmas.{bytes_of_16_back}
use Rattle.records.specs.declared.fault.Fault.{Fault}
use Rattle.records.specs.Faults.{fault_as_answer}
use Rattle.records.specs.Reading.{read_answer}
use Rattle.records.specs.Naming.{AgreesBefore, FirstWrongByte, NamedByte, turn}
use Rattle.records.specs.Records.{body_part, first_of, is_zero, kind_byte, length_byte, padding, poster_byte, record_of, wrong_byte, wrong_front, wrong_header, zero_byte}
use Rattle.records.proofs.Entries.{byte_written, number_front}
use Rattle.records.proofs.Finding.{answered_wrong}
use Rattle.records.proofs.Headers.{RightHeader, right_header}
use Rattle.records.proofs.Padding.{padding_at, padding_long}
use Rattle.records.proofs.Parts.{blank_is, body_is, kind_is, length_is, padding_is, poster_is, stamp_is}
use Rattle.records.proofs.RoundTrip.{front_whole, record_long}

-- the first of two answers, where one names a place
first_some : (start : ℕ) (a later : Option ℕ) (place : ℕ) → first_of start a later ≡ Some place
    → ((q : ℕ) × (a ≡ Some q) × (place ≡ start + q)) ⊎ ((a ≡ None) × (later ≡ Some place))
first_some start None later place e = inr (refl, e)
first_some start (Some q) later place e = inl (q, refl, cc)

module _ {B : Type 0} (form : Form B) (laws : LawfulForm form) where
  -- what stands where in a letter's record
  module _ (m : Letter B) where
    abbrev rec : List ℕ
    rec = record_of form m

    abbrev inner : List ℕ
    inner = form.bytes m.body

    in_stamp : (k : ℕ) → k < STAMP_SIZE → get_or rec k 0 ≡ get_or (bytes_of_16 (get_or m.stamp.entries (k / 2) 0)) (k % 2) 0
    in_stamp k h =
        sym (get_or-take STAMP_SIZE rec k 0 h) ∙ ap (λ l. get_or l k 0) (stamp_is form (parts_of m) m.sized)
        ∙ byte_written m.stamp.entries k (omega (arith, m.sized))

    in_body : (j : ℕ) → j < length inner → get_or rec (BODY_PLACE + j) 0 ≡ get_or inner j 0
    in_body j h =
        let size : length_byte rec ≡ length inner = length_is form (parts_of m) m.sized in
        sym (get_or-drop BODY_PLACE rec j 0) ∙ sym (get_or-take (length_byte rec) (drop BODY_PLACE rec) j 0 (omega (arith, size)))
        ∙ ap (λ l. get_or l j 0) (body_is form (parts_of m) m.sized)

    in_rest : (k : ℕ) → BODY_PLACE + length inner ≤ k → k < BODY_END → get_or rec k 0 ≡ 0
    in_rest k h l =
        let size : length_byte rec ≡ length inner = length_is form (parts_of m) m.sized in
        let i : ℕ = k - (BODY_PLACE + length inner) in
        let at : BODY_PLACE + length_byte rec + i ≡ k = omega (arith, size) in
        sym (ap (λ n. get_or rec n 0) at) ∙ sym (padding_at rec i (omega arith))
        ∙ ap (λ l. get_or l i 0) (padding_is form (parts_of m) m.sized)
        ∙ get_or-replicate (BODY_SPACE - length inner) i 0 0 (omega arith)

  -- a letter with this poster, number and body
  abbrev with_number : (p n : ℕ) (b : B) → p < 16 → 0 < n → Letter B
  with_number p n b seat some =
      let entry = get_or-replicate 16 p n 0 seat in
      record { stamp = record { entries = replicate 16 n }; poster = p; body = b; sized = refl; seated = seat; counted = omega arith }

  module _ (bs : List ℕ) (long : length bs ≡ RECORD_SIZE) (small : (i : ℕ) → get_or bs i 0 < 256) where
    abbrev s : ℕ
    s = poster_byte bs

    abbrev len : ℕ
    len = length_byte bs

    abbrev starts : ℕ → ℕ
    starts j = form.starts (kind_byte bs) len j

    -- the turns
    turn_stamp : (k : ℕ) → k < STAMP_SIZE → ((k / 2 ≡ s) × (turn form bs k ≡ 1)) ⊎ (turn form bs k ≡ RECORD_SIZE)
    turn_stamp k h = go (k / 2 == s) refl
      where
        is : turn form bs k ≡ cond (k / 2 == s) 1 RECORD_SIZE
        is =
            let a : eqb k POSTER_PLACE ≡ false = ne_eqb k POSTER_PLACE (λ e. omega arith) in
            let b : ltb k STAMP_SIZE ≡ true = lt-ltb k STAMP_SIZE h in
            rw (a, b)

        go : (own : Bool) → (k / 2 == s) ≡ own → ((k / 2 ≡ s) × (turn form bs k ≡ 1)) ⊎ (turn form bs k ≡ RECORD_SIZE)
        go true e = inl (eqb-true (k / 2) s e, is ∙ ap (λ b. cond b 1 RECORD_SIZE) e)
        go false e = inr (is ∙ ap (λ b. cond b 1 RECORD_SIZE) e)

    turn_own : (k : ℕ) → k < STAMP_SIZE → k / 2 ≡ s → turn form bs k ≡ 1
    turn_own k h e =
        let a : eqb k POSTER_PLACE ≡ false = ne_eqb k POSTER_PLACE (λ e. omega arith) in
        let b : ltb k STAMP_SIZE ≡ true = lt-ltb k STAMP_SIZE h in
        let c : eqb (k / 2) s ≡ true = eq-eqb (k / 2) s e in
        rw (a, b, c)

    turn_head : (k : ℕ) → POSTER_PLACE < k → k < BODY_PLACE → turn form bs k ≡ k
    turn_head k h l =
        let a : eqb k POSTER_PLACE ≡ false = ne_eqb k POSTER_PLACE (λ e. omega arith) in
        let b : ltb k STAMP_SIZE ≡ false = le-ltb k STAMP_SIZE (omega arith) in
        let c : ltb k BODY_PLACE ≡ true = lt-ltb k BODY_PLACE l in
        rw (a, b, c)

    turn_body : (k : ℕ) → BODY_PLACE ≤ k → k < BODY_PLACE + len → turn form bs k ≡ BODY_PLACE + starts (k - BODY_PLACE)
    turn_body k h l =
        let a : eqb k POSTER_PLACE ≡ false = ne_eqb k POSTER_PLACE (λ e. omega arith) in
        let b : ltb k STAMP_SIZE ≡ false = le-ltb k STAMP_SIZE (omega arith) in
        let c : ltb k BODY_PLACE ≡ false = le-ltb k BODY_PLACE h in
        let d : ltb k (BODY_PLACE + len) ≡ true = lt-ltb k (BODY_PLACE + len) l in
        rw (a, b, c, d)

    turn_rest : (k : ℕ) → BODY_PLACE + len ≤ k → turn form bs k ≡ k
    turn_rest k h =
        let a : eqb k POSTER_PLACE ≡ false = ne_eqb k POSTER_PLACE (λ e. omega arith) in
        let b : ltb k STAMP_SIZE ≡ false = le-ltb k STAMP_SIZE (omega arith) in
        let c : ltb k BODY_PLACE ≡ false = le-ltb k BODY_PLACE (omega arith) in
        let d : ltb k (BODY_PLACE + len) ≡ false = le-ltb k (BODY_PLACE + len) h in
        rw (a, b, c, d)

    -- no place behind the poster has a turn behind its own
    turn_back : (k : ℕ) → POSTER_PLACE ≤ k → turn form bs k ≤ k
    turn_back k h = ⊎_elim
        (λ l. ⊎_elim
        (λ e. subst (λ j. turn form bs j ≤ j) e (omega arith))
        (λ g. let e = turn_head k g l in omega arith)
        (either k h))
        (λ g. ⊎_elim
        (λ l. let e = turn_body k g l in let b = laws.starts_back (kind_byte bs) len (k - BODY_PLACE) in omega arith)
        (λ r. let e = turn_rest k r in omega arith)
        (cases_lt k (BODY_PLACE + len)))
        (cases_lt k BODY_PLACE)
      where
        either : (k : ℕ) → POSTER_PLACE ≤ k → (POSTER_PLACE ≡ k) ⊎ (POSTER_PLACE < k)
        either k h = ⊎_elim (λ l. inl (omega arith)) (λ g. inr (omega arith)) (cases_lt k KIND_PLACE)

    -- what a letter has to have so that its record agrees before a turn
    record Fits (m : Letter B) (t : ℕ) : Type 0 where
      few : t ≤ RECORD_SIZE
      poster : 0 < t → m.poster ≡ s
      number : 1 < t → get_or m.stamp.entries s 0 ≡ number_16 (2 * s) bs
      kind : KIND_PLACE < t → form.kind m.body ≡ kind_byte bs
      size : LENGTH_PLACE < t → length (form.bytes m.body) ≡ len
      blank : ZERO_PLACE < t → zero_byte bs ≡ 0
      body : (j : ℕ) → j < len → BODY_PLACE + starts j < t → get_or (form.bytes m.body) j 0 ≡ get_or bs (BODY_PLACE + j) 0
      rest : (k : ℕ) → BODY_PLACE + len ≤ k → k < t → get_or bs k 0 ≡ 0

    pair : (n r : ℕ) → r < 2 → get_or (get_or bs n 0 ∷ get_or bs (n + 1) 0 ∷ []) r 0 ≡ get_or bs (n + r) 0
    pair n zero h = let e : n ≡ n + 0 = omega arith in ap (λ k. get_or bs k 0) e
    pair n (suc zero) h = refl
    pair n (suc (suc r)) h = absurd (omega arith)

    module _ (m : Letter B) (t : ℕ) (fits : Fits m t) where
      agree_stamp : (k : ℕ) → k < STAMP_SIZE → turn form bs k < t → get_or (rec m) k 0 ≡ get_or bs k 0
      agree_stamp k h before = ⊎_elim
          (λ own.
          let entry = ap (λ p. get_or m.stamp.entries p 0) own.0 ∙ fits.number (omega (arith, own.1)) in
          let back = bytes_of_16_back (get_or bs (2 * s) 0) (get_or bs (2 * s + 1) 0) (small (2 * s)) in
          let at : 2 * s + k % 2 ≡ k = omega (arith, own.0) in
          in_stamp m k h ∙ ap (λ n. get_or (bytes_of_16 n) (k % 2) 0) entry ∙ ap (λ l. get_or l (k % 2) 0) back
          ∙ pair (2 * s) (k % 2) (omega arith) ∙ ap (λ n. get_or bs n 0) at)
          (λ past. absurd (omega (arith, past, fits.few)))
          (turn_stamp k h)

      agree_body : (k : ℕ) → BODY_PLACE ≤ k → k < BODY_PLACE + len → turn form bs k < t → get_or (rec m) k 0 ≡ get_or bs k 0
      agree_body k h l before =
          let e = turn_body k h l in
          let at : BODY_PLACE + (k - BODY_PLACE) ≡ k = omega arith in
          let size = fits.size (omega arith) in
          sym (ap (λ n. get_or (rec m) n 0) at) ∙ in_body m (k - BODY_PLACE) (omega arith)
          ∙ fits.body (k - BODY_PLACE) (omega arith) (omega arith) ∙ ap (λ n. get_or bs n 0) at

      agree_rest : (k : ℕ) → BODY_PLACE + len ≤ k → turn form bs k < t → get_or (rec m) k 0 ≡ get_or bs k 0
      agree_rest k h before =
          let e = turn_rest k h in
          let size = fits.size (omega arith) in
          in_rest m k (omega arith) (omega (arith, fits.few)) ∙ sym (fits.rest k h (omega arith))

      agree_head : (k : ℕ) → POSTER_PLACE ≤ k → k < BODY_PLACE → turn form bs k < t → get_or (rec m) k 0 ≡ get_or bs k 0
      agree_head k h l before = ⊎_elim
          (λ a. at POSTER_PLACE (omega arith) (λ b. poster_is form (parts_of m) m.sized ∙ fits.poster (omega arith)))
          (λ a. ⊎_elim
          (λ b. at KIND_PLACE (omega arith) (λ c. kind_is form (parts_of m) m.sized ∙ fits.kind (omega arith)))
          (λ b. ⊎_elim
          (λ c. at LENGTH_PLACE (omega arith) (λ d. length_is form (parts_of m) m.sized ∙ fits.size (omega arith)))
          (λ c. at ZERO_PLACE (omega arith) (λ d. blank_is form (parts_of m) m.sized ∙ sym (fits.blank (omega arith))))
          (cases_lt k ZERO_PLACE))
          (cases_lt k LENGTH_PLACE))
          (cases_lt k KIND_PLACE)
        where
          at : (j : ℕ) → j ≡ k → (turn form bs j < t → get_or (rec m) j 0 ≡ get_or bs j 0) → get_or (rec m) k 0 ≡ get_or bs k 0
          at j e so = subst (λ i. get_or (rec m) i 0 ≡ get_or bs i 0) e (so (subst (λ i. turn form bs i < t) (sym e) before))

      agrees : AgreesBefore form bs t m
      agrees k before = ⊎_elim
          (λ l. agree_stamp k l before)
          (λ g. ⊎_elim
          (λ l. agree_head k g l before)
          (λ h. ⊎_elim
          (λ l. agree_body k h l before)
          (λ r. agree_rest k r before)
          (cases_lt k (BODY_PLACE + len)))
          (cases_lt k BODY_PLACE))
          (cases_lt k STAMP_SIZE)

    -- a place whose turn is its own is the first with it
    first_late : (p : ℕ) → POSTER_PLACE < p → p < RECORD_SIZE → turn form bs p ≡ p → (k : ℕ) → turn form bs k ≡ turn form bs p → p ≤ k
    first_late p h l e k same = ⊎_elim
        (λ lt. ⊎_elim (λ own. absurd (omega (arith, own.1))) (λ past. absurd (omega arith)) (turn_stamp k lt))
        (λ ge. let back = turn_back k ge in omega arith)
        (cases_lt k STAMP_SIZE)

    some_body : B
    some_body = form.body 0 []

    poster_wrong : 16 ≤ s → FirstWrongByte form bs POSTER_PLACE
    poster_wrong h = record {
      looked_at = omega arith;
      first = λ k same. ⊎_elim
          (λ lt. ⊎_elim (λ own. absurd (omega (arith, own.1))) (λ past. absurd (omega arith)) (turn_stamp k lt))
          (λ ge. ge)
          (cases_lt k STAMP_SIZE);
      before = (with_number 0 1 some_body (omega arith) (omega arith), λ k early. absurd (omega arith));
      never = λ m agree.
          let same : get_or (rec m) POSTER_PLACE 0 ≡ s = agree POSTER_PLACE (omega arith) in
          let is = poster_is form (parts_of m) m.sized in
          omega (arith, m.seated);
    }

    module _ (seat : s < 16) where
      low_turn : turn form bs (2 * s) ≡ 1
      low_turn = turn_own (2 * s) (omega arith) (omega arith)

      high_turn : turn form bs (2 * s + 1) ≡ 1
      high_turn = turn_own (2 * s + 1) (omega arith) (omega arith)

      number_wrong : number_16 (2 * s) bs ≤ 0 → FirstWrongByte form bs (2 * s)
      number_wrong none =
          let letter : Letter B = with_number s 1 some_body seat (omega arith) in
          let fits : Fits letter 1 = record {
            few = omega arith;
            poster = λ h. refl;
            number = λ h. absurd (omega arith);
            kind = λ h. absurd (omega arith);
            size = λ h. absurd (omega arith);
            blank = λ h. absurd (omega arith);
            body = λ j h l. absurd (omega arith);
            rest = λ k h l. absurd (omega arith);
          } in
          record {
            looked_at = omega (arith, low_turn);
            first = λ k same. ⊎_elim
                (λ lt. ⊎_elim (λ own. omega (arith, own.0)) (λ past. absurd (omega (arith, low_turn))) (turn_stamp k lt))
                (λ ge. omega arith)
                (cases_lt k STAMP_SIZE);
            before = (letter, subst (λ t. AgreesBefore form bs t letter) (sym low_turn) (agrees letter 1 fits));
            never = λ m agree.
                let same : get_or (rec m) POSTER_PLACE 0 ≡ s = agree POSTER_PLACE (omega (arith, low_turn)) in
                let own : m.poster ≡ s = sym (poster_is form (parts_of m) m.sized) ∙ same in
                let low : get_or (rec m) (2 * s) 0 ≡ get_or bs (2 * s) 0 = agree (2 * s) (omega arith) in
                let high : get_or (rec m) (2 * s + 1) 0 ≡ get_or bs (2 * s + 1) 0 = agree (2 * s + 1) (omega (arith, low_turn, high_turn)) in
                let number = number_front m.stamp.entries (rec m) m.poster (sym (stamp_is form (parts_of m) m.sized)) (omega (arith, record_long form laws m)) m.seated in
                let at = ap (λ p. number_16 (2 * p) (rec m)) own in
                omega (arith, m.counted);
          }

      module _ (some : 0 < number_16 (2 * s) bs) where
        -- the letter with the poster and the number of the bytes, and this body
        abbrev given : B → Letter B
        given b = record { stamp = record { entries = replicate 16 (number_16 (2 * s) bs) }; poster = s; body = b; sized = refl; seated = seat; counted = entry_some }
          where
            entry_some : 0 < get_or (replicate 16 (number_16 (2 * s) bs)) s 0
            entry_some = let entry = get_or-replicate 16 s (number_16 (2 * s) bs) 0 seat in omega arith

        entry_is : get_or (replicate 16 (number_16 (2 * s) bs)) s 0 ≡ number_16 (2 * s) bs
        entry_is = get_or-replicate 16 s (number_16 (2 * s) bs) 0 seat

        kind_wrong : form.has_kind (kind_byte bs) ≡ false → FirstWrongByte form bs KIND_PLACE
        kind_wrong e = record {
          looked_at = omega arith;
          first = first_late KIND_PLACE (omega arith) (omega arith) refl;
          before = (
            given some_body,
            agrees (given some_body) KIND_PLACE (record {
              few = omega arith;
              poster = λ h. refl;
              number = λ h. entry_is;
              kind = λ h. absurd (omega arith);
              size = λ h. absurd (omega arith);
              blank = λ h. absurd (omega arith);
              body = λ j h l. absurd (omega arith);
              rest = λ k h l. absurd (omega arith);
            }),
          );
          never = λ m agree.
              let same : form.kind m.body ≡ kind_byte bs = sym (kind_is form (parts_of m) m.sized) ∙ agree KIND_PLACE (omega arith) in
              true≢false (sym (laws.kind_right m.body) ∙ ap form.has_kind same ∙ e);
        }

        module _ (known : form.has_kind (kind_byte bs) ≡ true) where
          size_wrong : form.has_length (kind_byte bs) len ≡ false → FirstWrongByte form bs LENGTH_PLACE
          size_wrong e =
              let b = laws.kind_known (kind_byte bs) known in
              record {
                looked_at = omega arith;
                first = first_late LENGTH_PLACE (omega arith) (omega arith) refl;
                before = (
                  given b.0,
                  agrees (given b.0) LENGTH_PLACE (record {
                    few = omega arith;
                    poster = λ h. refl;
                    number = λ h. entry_is;
                    kind = λ h. b.1;
                    size = λ h. absurd (omega arith);
                    blank = λ h. absurd (omega arith);
                    body = λ j h l. absurd (omega arith);
                    rest = λ k h l. absurd (omega arith);
                  }),
                );
                never = λ m agree.
                    let kind : form.kind m.body ≡ kind_byte bs = sym (kind_is form (parts_of m) m.sized) ∙ agree KIND_PLACE (omega arith) in
                    let size : length (form.bytes m.body) ≡ len = sym (length_is form (parts_of m) m.sized) ∙ agree LENGTH_PLACE (omega arith) in
                    true≢false (sym (laws.length_right m.body) ∙ ap (λ k. form.has_length k (length (form.bytes m.body))) kind ∙ ap (form.has_length (kind_byte bs)) size ∙ e);
              }

          module _ (sized : form.has_length (kind_byte bs) len ≡ true) where
            room : len ≤ BODY_SPACE
            room = laws.short (kind_byte bs) len sized

            blank_wrong : ¬ (zero_byte bs ≡ 0) → FirstWrongByte form bs ZERO_PLACE
            blank_wrong e =
                let b = laws.length_known (kind_byte bs) len known sized in
                record {
                  looked_at = omega arith;
                  first = first_late ZERO_PLACE (omega arith) (omega arith) refl;
                  before = (
                    given b.0,
                    agrees (given b.0) ZERO_PLACE (record {
                      few = omega arith;
                      poster = λ h. refl;
                      number = λ h. entry_is;
                      kind = λ h. b.1;
                      size = λ h. b.2;
                      blank = λ h. absurd (omega arith);
                      body = λ j h l. absurd (omega arith);
                      rest = λ k h l. absurd (omega arith);
                    }),
                  );
                  never = λ m agree. e (sym (agree ZERO_PLACE (omega arith)) ∙ blank_is form (parts_of m) m.sized);
                }

            module _ (blank : zero_byte bs ≡ 0) where
              -- the body's bytes
              body_long : length (body_part bs) ≡ len
              body_long = length-take-le len (drop BODY_PLACE bs) (omega (arith, room, length-drop BODY_PLACE bs))

              body_at : (j : ℕ) → j < len → get_or (body_part bs) j 0 ≡ get_or bs (BODY_PLACE + j) 0
              body_at j h = get_or-take len (drop BODY_PLACE bs) j 0 h ∙ get_or-drop BODY_PLACE bs j 0

              body_small : (i : ℕ) → get_or (body_part bs) i 0 < 256
              body_small i = ⊎_elim
                  (λ h. subst (λ b. b < 256) (sym (body_at i h)) (small (BODY_PLACE + i)))
                  (λ h. let past = get_or_past (body_part bs) i 0 (omega (arith, body_long)) in omega arith)
                  (cases_lt i len)

              body_wrong : (j : ℕ) → FirstWrong form (kind_byte bs) len (body_part bs) j → FirstWrongByte form bs (BODY_PLACE + j)
              body_wrong j wrong =
                  let b = wrong.before in
                  let back : BODY_PLACE + j - BODY_PLACE ≡ j = omega arith in
                  let own : turn form bs (BODY_PLACE + j) ≡ BODY_PLACE + j =
                  turn_body (BODY_PLACE + j) (omega arith) (omega (arith, wrong.inside)) ∙ ap (λ i. BODY_PLACE + starts i) back
                  ∙ ap (λ i. BODY_PLACE + i) wrong.own in
                  let letter : Letter B = given b.0 in
                  let fits : Fits letter (BODY_PLACE + j) = record {
                    few = omega (arith, wrong.inside, room);
                    poster = λ h. refl;
                    number = λ h. entry_is;
                    kind = λ h. b.1;
                    size = λ h. b.2;
                    blank = λ h. blank;
                    body = λ i h l. b.3 i h (omega arith) ∙ body_at i h;
                    rest = λ k h l. absurd (omega (arith, wrong.inside));
                  } in
                  record {
                    looked_at = omega (arith, wrong.inside, room, own);
                    first = first_late (BODY_PLACE + j) (omega arith) (omega (arith, wrong.inside, room)) own;
                    before = (letter, subst (λ t. AgreesBefore form bs t letter) (sym own) (agrees letter (BODY_PLACE + j) fits));
                    never = λ m agree.
                        let kind : form.kind m.body ≡ kind_byte bs = sym (kind_is form (parts_of m) m.sized) ∙ agree KIND_PLACE (omega (arith, own)) in
                        let size : length (form.bytes m.body) ≡ len = sym (length_is form (parts_of m) m.sized) ∙ agree LENGTH_PLACE (omega (arith, own)) in
                        wrong.never m.body kind size
                        (λ i h l.
                        let at : BODY_PLACE + i - BODY_PLACE ≡ i = omega arith in
                        let t : turn form bs (BODY_PLACE + i) ≡ BODY_PLACE + starts i =
                        turn_body (BODY_PLACE + i) (omega arith) (omega arith) ∙ ap (λ k. BODY_PLACE + starts k) at in
                        sym (in_body m i (omega arith)) ∙ agree (BODY_PLACE + i) (omega (arith, own, t)) ∙ sym (body_at i h));
                  }

              rest_wrong : form.wrong (kind_byte bs) (body_part bs) ≡ None → (p : ℕ)
                  → first_failing is_zero (BODY_PLACE + len) (padding bs) ≡ Some p → FirstWrongByte form bs p
              rest_wrong right p e =
                  let fails = fails_at is_zero (BODY_PLACE + len) (padding bs) p e in
                  let sized' : form.has_length (kind_byte bs) (length (body_part bs)) ≡ true = ap (form.has_length (kind_byte bs)) body_long ∙ sized in
                  let b = laws.bytes_known (kind_byte bs) (body_part bs) body_small known sized' right in
                  let left : length (padding bs) ≡ BODY_END - (BODY_PLACE + len) = padding_long bs long in
                  let size : length (form.bytes b.0) ≡ len = ap length b.2 ∙ body_long in
                  let few : p < BODY_END = omega (arith, fails.is, fails.inside, room) in
                  let late : BODY_PLACE + len ≤ p = omega (arith, fails.is) in
                  let own : turn form bs p ≡ p = turn_rest p late in
                  let at : p ≡ BODY_PLACE + len + fails.at = fails.is in
                  let letter : Letter B = given b.0 in
                  let fits : Fits letter p = record {
                    few = omega arith;
                    poster = λ h. refl;
                    number = λ h. entry_is;
                    kind = λ h. b.1;
                    size = λ h. size;
                    blank = λ h. blank;
                    body = λ j h l. ap (λ l. get_or l j 0) b.2 ∙ body_at j h;
                    rest = λ k h l.
                        let i : ℕ = k - (BODY_PLACE + len) in
                        let here : BODY_PLACE + len + i ≡ k = omega arith in
                        sym (ap (λ n. get_or bs n 0) here) ∙ sym (padding_at bs i (omega arith))
                        ∙ eqb-true (get_or (padding bs) i 0) 0 (fails.before i (omega (arith, at)));
                  } in
                  record {
                    looked_at = omega (arith, own);
                    first = first_late p (omega arith) few own;
                    before = (letter, subst (λ t. AgreesBefore form bs t letter) (sym own) (agrees letter p fits));
                    never = λ m agree.
                        let same : length (form.bytes m.body) ≡ len = sym (length_is form (parts_of m) m.sized) ∙ agree LENGTH_PLACE (omega (arith, own)) in
                        let here : get_or (padding bs) fails.at 0 ≡ 0 =
                        padding_at bs fails.at (omega arith) ∙ sym (ap (λ n. get_or bs n 0) at) ∙ sym (agree p (omega arith))
                        ∙ in_rest m p (omega arith) few in
                        eqb-false (get_or (padding bs) fails.at 0) 0 fails.fails here;
                  }

    -- the byte that the checks name
    module _ (p : ℕ) where
      in_head : (q : ℕ) → wrong_header form bs ≡ Some q → FirstWrongByte form bs q
      in_head q e = ⊎_elim
          (λ f. subst (FirstWrongByte form bs) (sym f.1) (poster_wrong (ltb-false s 16 f.0)))
          (λ f.
          let seat = ltb-true s 16 f.0 in
          ⊎_elim
          (λ g. subst (FirstWrongByte form bs) (sym g.1) (number_wrong seat (ltb-false 0 (number_16 (2 * s) bs) g.0)))
          (λ g.
          let some = ltb-true 0 (number_16 (2 * s) bs) g.0 in
          ⊎_elim
          (λ h. subst (FirstWrongByte form bs) (sym h.1) (kind_wrong seat some h.0))
          (λ h. ⊎_elim
          (λ i. subst (FirstWrongByte form bs) (sym i.1) (size_wrong seat some h.0 i.0))
          (λ i. ⊎_elim
          (λ j. subst (FirstWrongByte form bs) (sym j.1) (blank_wrong seat some h.0 i.0 (eqb-false (zero_byte bs) 0 j.0)))
          (λ j. some_none q (sym j.1))
          (failed (eqb (zero_byte bs) 0) ZERO_PLACE None q i.1))
          (failed (form.has_length (kind_byte bs) len) LENGTH_PLACE _ q h.1))
          (failed (form.has_kind (kind_byte bs)) KIND_PLACE _ q g.1))
          (failed (ltb 0 (number_16 (2 * s) bs)) (2 * s) _ q f.1))
          (failed (ltb s 16) POSTER_PLACE _ q e)

      pub first_wrong_byte : wrong_byte form bs ≡ Some p → FirstWrongByte form bs p
      first_wrong_byte e = ⊎_elim
          (λ f. let at : f.0 ≡ p = omega (arith, f.2) in subst (FirstWrongByte form bs) at (in_head f.0 f.1))
          (λ f.
          let h : RightHeader form bs = right_header form bs f.0 in
          ⊎_elim
          (λ g.
          let long' = body_long h.seated h.counted h.kind h.sized h.blank in
          let sized' : form.has_length (kind_byte bs) (length (body_part bs)) ≡ true = ap (form.has_length (kind_byte bs)) long' ∙ h.sized in
          let wrong = laws.first_wrong (kind_byte bs) (body_part bs) g.0 h.kind sized' g.1 in
          subst (FirstWrongByte form bs) (sym g.2)
          (body_wrong h.seated h.counted h.kind h.sized h.blank g.0 (subst (λ n. FirstWrong form (kind_byte bs) n (body_part bs) g.0) long' wrong)))
          (λ g. rest_wrong h.seated h.counted h.kind h.sized h.blank g.0 p g.1)
          (first_some BODY_PLACE (form.wrong (kind_byte bs) (body_part bs)) _ p f.1))
          (first_some 0 (wrong_header form bs) _ p e)

  -- the byte that is named of the record at the front of some bytes
  pub named : (bs : List ℕ) → ((i : ℕ) → get_or bs i 0 < 256) → (byte : ℕ) → wrong_front form bs ≡ Some byte → NamedByte form bs byte
  named bs small byte e = record {
    whole = λ enough.
        first_wrong_byte (take RECORD_SIZE bs) (length-take-le RECORD_SIZE bs enough) in_front byte (sym (front_whole form laws bs enough) ∙ e);
    short = λ few. ⊎_elim (λ f. f.1) (λ f. absurd (let enough = leb-true RECORD_SIZE (length bs) f.0 in omega arith)) (failed (leb RECORD_SIZE (length bs)) (length bs) _ byte e);
  }
    where
      in_front : (i : ℕ) → get_or (take RECORD_SIZE bs) i 0 < 256
      in_front i = ⊎_elim
          (λ h. subst (λ b. b < 256) (sym (get_or-take RECORD_SIZE bs i 0 h)) (small i))
          (λ h. let past = get_or_past (take RECORD_SIZE bs) i 0 (omega (arith, length-take RECORD_SIZE bs)) in omega arith)
          (cases_lt i RECORD_SIZE)

  -- what a read that is refused names
  pub read_named : (bs : List ℕ) → ((i : ℕ) → get_or bs i 0 < 256) → (r : Result (Unit {0}) Fault) → fault_as_answer r ≡ read_answer (wrong_front form bs)
      → (fault : Fault) → r ≡ Err fault → NamedByte form bs fault.byte
  read_named bs small r is fault e = named bs small fault.byte (answered_wrong fault (wrong_front form bs) (sym (ap fault_as_answer e) ∙ is))
