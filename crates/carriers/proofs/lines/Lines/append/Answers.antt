use Rattle.std.proofs.Common.{◌≡◌, ◌+◌, ◌*◌, ◌≤◌, length, slice_index, ap, ◌∙◌, arith, rules}
use borrow.Rule.Slice.PartMut.{put_mid}
use Rattle.carriers.specs.LineLemmas.{queue_end}
use Rattle.carriers.proofs.Counts.{other_waiting}
use Rattle.carriers.proofs.Rows.{cut, only_part, written_in_part}
use Rattle.carriers.proofs.lines.Lines.append.Goals as goal

pub returns-clause-others : goal.returns-clause-others
returns-clause-others g c k ne =
    let l = c.args.self.now in
    let row = l.places.now in
    let start = c.args.seat * l.size in
    let fits : start + l.size ≤ length row = omega (arith, queue_end l.size c.args.seat l.seats c.requires.0, l.whole) in
    let part = c.push_to.new.places in
    let long : length part ≡ cut start l.size row fits = search rules in
    other_waiting l.seats l.size l.counts row _ c.args.seat _ (only_part start l.size row fits part long) k (l.within k) ne

pub returns-clause-table : goal.returns-clause-table
returns-clause-table g c =
    let l = c.args.self.now in
    let row = l.places.now in
    let start = c.args.seat * l.size in
    let fits : start + l.size ≤ length row = omega (arith, queue_end l.size c.args.seat l.seats c.requires.0, l.whole) in
    ap (put_mid start (cut start l.size row fits) row) c.push_to.ensures.table
    ∙ written_in_part start l.size row fits (slice_index l.counts c.args.seat) c.args.letter.now c.requires.1
