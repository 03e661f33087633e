use Rattle.std.proofs.Common.{◌<◌, length, sym, ap, ◌∙◌, arith}
use Rattle.std.proofs.lemmas.List.{get_or-map}
use Rattle.letters.specs.Letters.{parts_of}
use Rattle.carriers.specs.Lines.{lines_of}
use Rattle.carriers.specs.LineLemmas.{length_waiting}
use Rattle.carriers.proofs.Decisions.{draw_ok}
use Rattle.carriers.proofs.lines.carrying.LinesCarrier.draw.Goals as goal

pub returns-clause-answer : goal.returns-clause-answer
returns-clause-answer g c =
    let l = c.args.self.now in
    let seat = c.args.seat in
    let long = length_waiting l seat c.if-seat-self.false in
    sym (draw_ok (lines_of l) seat c.args.place c.if-seat-self.false (omega (arith, long, l.within seat, c.if-place-self.false)))

pub returns-clause-leaves : goal.returns-clause-leaves
returns-clause-leaves g c =
    let l = c.args.self.now in
    let seat = c.args.seat in
    let waiting = (lines_of l).waiting seat in
    let there : c.args.place < length waiting = omega (arith, length_waiting l seat c.if-seat-self.false, c.if-place-self.false) in
    (c.take.ensures.lists, c.parts.ensures ∙ ap parts_of c.take.ensures.taken ∙ sym (get_or-map parts_of waiting c.args.place c.take.result c.args.parts.now there))
