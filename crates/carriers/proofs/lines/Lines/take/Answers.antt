use Rattle.std.proofs.Common.{◌≡◌, ◌+◌, ◌*◌, ◌<◌, ◌≤◌, length, slice_index, refl, ap, ◌∙◌, arith, rules}
use borrow.Rule.Slice.PartMut.{put_mid}
use Rattle.carriers.specs.LineLemmas.{queue_end}
use Rattle.carriers.proofs.Counts.{within_set, beyond_set, other_waiting, own_waiting}
use Rattle.carriers.proofs.Rows.{cut, moved_in_part, only_part, read_in_part, taken_out}
use Rattle.carriers.proofs.lines.Lines.take.Goals as goal

pub invariant_of-self-clause-within : goal.invariant_of-self-clause-within
invariant_of-self-clause-within g c =
    let l = c.args.self.now in
    let at_most = l.within c.args.seat in
    within_set l.counts c.args.seat _ l.size (omega (arith, at_most)) l.within

pub invariant_of-self-clause-beyond : goal.invariant_of-self-clause-beyond
invariant_of-self-clause-beyond g c =
    let l = c.args.self.now in
    beyond_set l.counts c.args.seat _ l.seats c.requires.0 l.beyond

pub returns-clause-lists : goal.returns-clause-lists
returns-clause-lists g c =
    let l = c.args.self.now in
    let row = l.places.now in
    let start = c.args.seat * l.size in
    let fits : start + l.size ≤ length row = omega (arith, queue_end l.size c.args.seat l.seats c.requires.0, l.whole) in
    let part = c.remove_from-letter.new.places in
    let long : length part ≡ cut start l.size row fits = search rules in
    let only = only_part start l.size row fits part long in
    let inside : c.args.seat < length l.counts = omega (arith, l.table, l.few, c.requires.0) in
    record {
      seats = refl;
      own = own_waiting l.seats l.size l.counts row _ c.args.seat _ only inside
          ∙ taken_out start l.size row fits part long _ c.args.place (l.within c.args.seat) c.remove_from-letter.ensures.letters;
      others = λ k ne. other_waiting l.seats l.size l.counts row _ c.args.seat _ only k (l.within k) ne;
    }

pub returns-clause-taken : goal.returns-clause-taken
returns-clause-taken g c =
    let l = c.args.self.now in
    let row = l.places.now in
    let start = c.args.seat * l.size in
    let fits : start + l.size ≤ length row = omega (arith, queue_end l.size c.args.seat l.seats c.requires.0, l.whole) in
    c.remove_from-letter.ensures.taken ∙ read_in_part start l.size row fits _ c.args.place _ c.requires.1 (l.within c.args.seat)

pub returns-clause-table : goal.returns-clause-table
returns-clause-table g c =
    let l = c.args.self.now in
    let row = l.places.now in
    let start = c.args.seat * l.size in
    let fits : start + l.size ≤ length row = omega (arith, queue_end l.size c.args.seat l.seats c.requires.0, l.whole) in
    ap (put_mid start (cut start l.size row fits) row) c.remove_from-letter.ensures.table
    ∙ moved_in_part start l.size row fits (c.args.place + 1) (slice_index l.counts c.args.seat) c.args.place (omega arith) (omega (arith, c.requires.1)) (l.within c.args.seat)
