use Rattle.std.proofs.Common.{◌≡◌, ◌+◌, ◌*◌, ◌%◌, ◌^◌, ◌<◌, ◌≤◌, true, false, ◌==◌, count_ones, refl, sym, ap, ◌∙◌, subst, arith}
use lib.Bits.{bit_xor}
use Rattle.std.proofs.lemmas.Bool.{eqb-false, eqb-true}
use Rattle.letters.specs.Numbers.{bytes_of_16}
use Rattle.records.specs.declared.record.TheConstants.{RECORD_SIZE}
use Rattle.records.specs.Buffers.{overlaid}
use Rattle.spool.specs.declared.row_buffer.TheConstants.{ROW_SIZE}
use Rattle.spool.specs.Decoding.{letter_of}
use Rattle.spool.specs.Rows.{mask_of, row_at}
use Rattle.spool.proofs.Bits.{ones_some, ones_none}
use Rattle.spool.proofs.Bytes.{kept_rows}
use Rattle.spool.proofs.Kept.{each_closed, each_written}
use Rattle.spool.proofs.Rows.{all_lent, lent_mask}
use Rattle.spool.proofs.Steps.{drawn_mask, drawn_row, struck, turned_below, turned_bit}
use Rattle.spool.proofs.Spool.strike.Goals as goal

pub offset_bounds-rows-row : goal.offset_bounds-rows-row
offset_bounds-rows-row g c =
    let s = c.args.self.now in
    let long = all_lent s.rows s.row_buffer.bytes.now _ c.rows.ensures in
    let lent = c.rows.type_inv.1 in
    omega (arith, c.requires.row)

pub bounds-rows-row : goal.bounds-rows-row
bounds-rows-row g c =
    let s = c.args.self.now in
    let long = all_lent s.rows s.row_buffer.bytes.now _ c.rows.ensures in
    omega (arith, c.requires.row)

pub invariant_of-self : goal.invariant_of-self
invariant_of-self g c =
    let s = c.args.self.now in
    let b = s.row_buffer.bytes.now in
    let a = c.close_up.new.self.bytes.now in
    let e = c.close_up.ensures in
    record {
      some = s.some;
      few = s.few;
      spacious = subst (λ n. ROW_SIZE ≤ n) (sym e.long) s.spacious;
      whole = omega (arith, e.long, s.whole, c.requires.row);
      wanted = each_closed (λ m. 0 < m) s.rows b a s.wanted c.args.row e.before e.behind;
      seated = each_closed (λ m. m < 2 ^ s.seats) s.rows b a s.seated c.args.row e.before e.behind;
    }

pub invariant_of-self-else-is_done : goal.invariant_of-self-else-is_done
invariant_of-self-else-is_done g c =
    let s = c.args.self.now in
    let b = s.row_buffer.bytes.now in
    let a = c.set_mask.new.self.bytes.now in
    let i = c.args.row in
    let seat = c.args.seat in
    let e = c.set_mask.ensures in
    let cut = lent_mask s.rows b _ c.rows.ensures i c.mask_of.result c.requires.row c.mask_of.ensures in
    let turned : mask_of (row_at a i) ≡ bit_xor (mask_of (row_at b i)) (2 ^ seat) = e.mask ∙ turned_bit c.mask_of.result (mask_of (row_at b i)) seat cut (omega (arith, s.few, c.requires.seat)) in
    let some : 0 < mask_of (row_at a i) = subst (λ m. 0 < m) (sym e.mask) (ones_some _ (eqb-false _ _ (sym c.is_done.ensures.ones ∙ c.if-is_done.false))) in
    let few : mask_of (row_at a i) < 2 ^ s.seats = subst (λ m. m < 2 ^ s.seats) (sym turned) (turned_below s.seats (mask_of (row_at b i)) seat (s.seated i c.requires.row) c.requires.seat) in
    let same = kept_rows b a i e.only in
    record {
      some = s.some;
      few = s.few;
      spacious = subst (λ n. ROW_SIZE ≤ n) (sym e.long) s.spacious;
      whole = omega (arith, e.long, s.whole);
      wanted = each_written (λ m. 0 < m) s.rows b a s.wanted i s.rows same (omega arith) (λ l. absurd (omega arith)) some;
      seated = each_written (λ m. m < 2 ^ s.seats) s.rows b a s.seated i s.rows same (omega arith) (λ l. absurd (omega arith)) few;
    }

pub returns-then-is_done-clause-lists : goal.returns-then-is_done-clause-lists
returns-then-is_done-clause-lists g c =
    let s = c.args.self.now in
    let b = s.row_buffer.bytes.now in
    let a = c.close_up.new.self.bytes.now in
    let i = c.args.row in
    let seat = c.args.seat in
    let read = letter_of g.B.Body.form g.B.Body.blank in
    let e = c.close_up.ensures in
    let cut = lent_mask s.rows b _ c.rows.ensures i c.mask_of.result c.requires.row c.mask_of.ensures in
    let turned : bit_xor c.mask_of.result ((1 * 2 ^ seat) % 65536) ≡ bit_xor (mask_of (row_at b i)) (2 ^ seat) = turned_bit c.mask_of.result (mask_of (row_at b i)) seat cut (omega (arith, s.few, c.requires.seat)) in
    let few : bit_xor c.mask_of.result ((1 * 2 ^ seat) % 65536) < 2 ^ s.seats = subst (λ m. m < 2 ^ s.seats) (sym turned) (turned_below s.seats (mask_of (row_at b i)) seat (s.seated i c.requires.row) c.requires.seat) in
    let none : bit_xor (mask_of (row_at b i)) (2 ^ seat) ≡ 0 = sym turned ∙ ones_none s.seats _ (eqb-true _ _ (sym c.is_done.ensures.ones ∙ c.if-is_done.true)) few in
    drawn_row read s.seats s.rows b a seat i c.requires.row c.requires.marked e.before e.behind none

pub returns-else-is_done-clause-lists : goal.returns-else-is_done-clause-lists
returns-else-is_done-clause-lists g c =
    let s = c.args.self.now in
    let b = s.row_buffer.bytes.now in
    let a = c.set_mask.new.self.bytes.now in
    let i = c.args.row in
    let seat = c.args.seat in
    let read = letter_of g.B.Body.form g.B.Body.blank in
    let e = c.set_mask.ensures in
    let cut = lent_mask s.rows b _ c.rows.ensures i c.mask_of.result c.requires.row c.mask_of.ensures in
    let turned : mask_of (row_at a i) ≡ bit_xor (mask_of (row_at b i)) (2 ^ seat) = e.mask ∙ turned_bit c.mask_of.result (mask_of (row_at b i)) seat cut (omega (arith, s.few, c.requires.seat)) in
    drawn_mask read s.seats s.rows b a seat i c.requires.row c.requires.marked (kept_rows b a i e.only) turned e.letter

pub returns-then-is_done-clause-row : goal.returns-then-is_done-clause-row
returns-then-is_done-clause-row g c =
    let s = c.args.self.now in
    let b = s.row_buffer.bytes.now in
    let i = c.args.row in
    let seat = c.args.seat in
    let e = c.close_up.ensures in
    let cut = lent_mask s.rows b _ c.rows.ensures i c.mask_of.result c.requires.row c.mask_of.ensures in
    let turned : bit_xor c.mask_of.result ((1 * 2 ^ seat) % 65536) ≡ bit_xor (mask_of (row_at b i)) (2 ^ seat) = turned_bit c.mask_of.result (mask_of (row_at b i)) seat cut (omega (arith, s.few, c.requires.seat)) in
    let none : true ≡ (count_ones (bit_xor (mask_of (row_at b i)) (2 ^ seat)) == 0) = sym c.if-is_done.true ∙ c.is_done.ensures.ones ∙ ap (λ m. count_ones m == 0) turned in
    struck s i seat _ true none (omega (arith, c.requires.row), e.before, e.behind, e.bytes)

pub returns-else-is_done-clause-row : goal.returns-else-is_done-clause-row
returns-else-is_done-clause-row g c =
    let s = c.args.self.now in
    let b = s.row_buffer.bytes.now in
    let a = c.set_mask.new.self.bytes.now in
    let i = c.args.row in
    let seat = c.args.seat in
    let e = c.set_mask.ensures in
    let cut = lent_mask s.rows b _ c.rows.ensures i c.mask_of.result c.requires.row c.mask_of.ensures in
    let turned : bit_xor c.mask_of.result ((1 * 2 ^ seat) % 65536) ≡ bit_xor (mask_of (row_at b i)) (2 ^ seat) = turned_bit c.mask_of.result (mask_of (row_at b i)) seat cut (omega (arith, s.few, c.requires.seat)) in
    let some : false ≡ (count_ones (bit_xor (mask_of (row_at b i)) (2 ^ seat)) == 0) = sym c.if-is_done.false ∙ c.is_done.ensures.ones ∙ ap (λ m. count_ones m == 0) turned in
    struck s i seat _ false some (refl, kept_rows b a i e.only, e.letter, e.mask ∙ turned, e.bytes ∙ ap (λ m. overlaid b (i * ROW_SIZE + RECORD_SIZE) (bytes_of_16 m)) turned)
