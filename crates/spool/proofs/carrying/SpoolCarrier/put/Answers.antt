use Rattle.std.proofs.Common.{◌≡◌, ℕ, ◌+◌, ◌*◌, ◌^◌, ◌<◌, ◌≤◌, cond, eqb, ltb, ◌++◌, length, sym, refl, ap, ◌∙◌, subst, arith, rules}
use lib.Count.{ones}
use Rattle.std.proofs.lemmas.Bool.{and_parts, cond-false, cond-true, eqb-false, eqb-true, leb-true}
use Rattle.carriers.proofs.Appended.{put_appended}
use Rattle.std.proofs.lemmas.Grind.{common_steps}
use Rattle.records.specs.declared.record.TheConstants.{RECORD_SIZE}
use Rattle.spool.specs.declared.row_buffer.TheConstants.{ROW_SIZE}
use Rattle.spool.specs.Decoding.{letter_of}
use Rattle.spool.specs.Masks.{all_but}
use Rattle.letters.specs.Numbers.{bytes_of_16}
use Rattle.records.specs.Buffers.{overlaid}
use Rattle.records.specs.Records.{record_of}
use Rattle.records.proofs.RoundTrip.{record_long}
use Rattle.spool.specs.Rows.{mask_of, record_part, row_at, row_fits}
use Rattle.spool.specs.Spools.{bytes_after, spool_meaning, spool_of}
use Rattle.spool.proofs.Bits.{ones_some, ones_none}
use Rattle.spool.proofs.Bytes.{kept_rows, overlaid_behind}
use Rattle.spool.proofs.Decoded.{letter_back}
use Rattle.spool.proofs.Kept.{each_written}
use Rattle.spool.proofs.Steps.{spooled, nobody_else, but_below}
use Rattle.spool.proofs.carrying.SpoolCarrier.put.Goals as goal

pub invariant_of-self : goal.invariant_of-self
invariant_of-self g c =
    let s = c.args.self.now in
    let b = s.row_buffer.bytes.now in
    let mid = c.write.new.self.bytes.now in
    let a = c.set_mask.new.self.bytes.now in
    let poster = c.poster-poster.result in
    let mask = c.all_but-mask.result in
    let long : length a ≡ length b = c.set_mask.ensures.long ∙ c.write.ensures.long in
    let room : s.rows * ROW_SIZE + ROW_SIZE ≤ length b = leb-true _ _ (and_parts (ltb poster s.seats) (row_fits s.rows (length b)) (sym c.fits.ensures ∙ c.if-not-fits.false)).1 in
    let is : mask_of (row_at a s.rows) ≡ mask = c.set_mask.ensures.mask in
    let some : 0 < mask = ones_some _ (eqb-false _ _ (sym c.is_done.ensures.ones ∙ c.if-not-is_done.true)) in
    let few : mask < 2 ^ s.seats = subst (λ m. m < 2 ^ s.seats) (sym c.all_but-mask.ensures) (but_below s.seats poster c.if-poster-self.false) in
    let same : (r : ℕ) → ¬ (r ≡ s.rows) → row_at a r ≡ row_at b r = λ r ne. kept_rows mid a s.rows c.set_mask.ensures.only r ne ∙ kept_rows b mid s.rows c.write.ensures.only r ne in
    record {
      some = s.some;
      few = s.few;
      spacious = subst (λ n. ROW_SIZE ≤ n) (sym long) s.spacious;
      whole = omega (arith, long, room);
      wanted = each_written (λ m. 0 < m) s.rows b a s.wanted s.rows (s.rows + 1) same (omega arith) (λ l. refl) (subst (λ m. 0 < m) (sym is) some);
      seated = each_written (λ m. m < 2 ^ s.seats) s.rows b a s.seated s.rows (s.rows + 1) same (omega arith) (λ l. refl) (subst (λ m. m < 2 ^ s.seats) (sym is) few);
    }

pub returns-then-not-is_done : goal.returns-then-not-is_done
returns-then-not-is_done g c =
    let s = c.args.self.now in
    let b = s.row_buffer.bytes.now in
    let mid = c.write.new.self.bytes.now in
    let a = c.set_mask.new.self.bytes.now in
    let x = c.args.letter.now in
    let form = g.B.Body.form in
    let blank = g.B.Body.blank in
    let read = letter_of form blank in
    let is = c.poster-poster.ensures in
    let m = spool_of form blank s in
    let mask_is : c.all_but-mask.result ≡ all_but s.seats x.poster = c.all_but-mask.ensures ∙ ap (all_but s.seats) is in
    let exact = spooled read s.seats s.rows b a x.poster x (subst (λ p. p < s.seats) is c.if-poster-self.false)
    (λ r l. kept_rows mid a s.rows c.set_mask.ensures.only r (omega arith) ∙ kept_rows b mid s.rows c.write.ensures.only r (omega arith))
    (c.set_mask.ensures.mask ∙ mask_is)
    (ap read (c.set_mask.ensures.letter ∙ c.write.ensures.letter) ∙ letter_back blank form g.met.B.Body.lawful x) in
    let room : s.rows * ROW_SIZE + ROW_SIZE ≤ length b = leb-true _ _ (and_parts (ltb c.poster-poster.result s.seats) (row_fits s.rows (length b)) (sym c.fits.ensures ∙ c.if-not-fits.false)).1 in
    let whole : a ≡ bytes_after form s x =
    c.set_mask.ensures.bytes
    ∙ ap (λ l. overlaid l (s.rows * ROW_SIZE + RECORD_SIZE) (bytes_of_16 c.all_but-mask.result)) c.write.ensures.bytes
    ∙ overlaid_behind b (record_of form x) (bytes_of_16 c.all_but-mask.result) (s.rows * ROW_SIZE) RECORD_SIZE (omega (arith, room)) (record_long form g.met.B.Body.lawful x)
    ∙ ap (λ k. overlaid b (s.rows * ROW_SIZE) (record_of form x ++ bytes_of_16 k)) mask_is
    ∙ sym (cond-false (eqb (ones (all_but s.seats x.poster)) 0) b _ (ap (λ k. eqb (ones k) 0) (sym mask_is) ∙ sym c.is_done.ensures.ones ∙ c.if-not-is_done.true)) in
    record {
      answer = search rules;
      leaves = put_appended m (spool_meaning read s.seats (s.rows + 1) a) x.poster x refl exact;
      once = exact;
      row = (
        sym (ap (λ n. cond (eqb (ones n) 0) s.rows (s.rows + 1)) (sym mask_is) ∙ cond-false _ _ _ (sym c.is_done.ensures.ones ∙ c.if-not-is_done.true)),
        λ r l. kept_rows mid a s.rows c.set_mask.ensures.only r (omega arith) ∙ kept_rows b mid s.rows c.write.ensures.only r (omega arith),
        λ r low high. let at : s.rows ≡ r = omega arith in
            subst (λ j. (record_part (row_at a j) ≡ record_of form x) × (mask_of (row_at a j) ≡ all_but s.seats x.poster)) at
            (c.set_mask.ensures.letter ∙ c.write.ensures.letter, c.set_mask.ensures.mask ∙ mask_is),
        whole,
      );
      long = c.set_mask.ensures.long ∙ c.write.ensures.long;
      lender = c.set_mask.ensures.lender ∙ c.write.ensures.lender;
      rests = tt;
    }

pub returns-else-not-is_done : goal.returns-else-not-is_done
returns-else-not-is_done g c =
    let s = c.args.self.now in
    let b = s.row_buffer.bytes.now in
    let x = c.args.letter.now in
    let form = g.B.Body.form in
    let blank = g.B.Body.blank in
    let is = c.poster-poster.ensures in
    let m = spool_of form blank s in
    let mask_is : c.all_but-mask.result ≡ all_but s.seats x.poster = c.all_but-mask.ensures ∙ ap (all_but s.seats) is in
    let few : c.all_but-mask.result < 2 ^ s.seats = subst (λ m. m < 2 ^ s.seats) (sym c.all_but-mask.ensures) (but_below s.seats c.poster-poster.result c.if-poster-self.false) in
    let none : c.all_but-mask.result ≡ 0 = ones_none s.seats _ (eqb-true _ _ (sym c.is_done.ensures.ones ∙ c.if-not-is_done.false)) few in
    let exact = nobody_else (letter_of form blank) s.seats s.rows b x.poster x (subst (λ p. p < s.seats) is c.if-poster-self.false) (sym mask_is ∙ none) in
    record {
      answer = search rules;
      leaves = put_appended m m x.poster x refl exact;
      once = exact;
      row = (grind (arith, common_steps), λ r l. refl, λ r low high. absurd (omega arith), sym (cond-true (eqb (ones (all_but s.seats x.poster)) 0) b _ (ap (λ k. eqb (ones k) 0) (sym mask_is) ∙ sym c.is_done.ensures.ones ∙ c.if-not-is_done.false)));
      long = refl;
      lender = refl;
      rests = tt;
    }
