use Rattle.std.proofs.Common.{◌≡◌, get_or, sym, ap, ◌∙◌, subst, arith, rules}
use Rattle.std.proofs.lemmas.List.{get_or-map}
use Rattle.letters.specs.Letters.{parts_of}
use Rattle.carriers.specs.Meaning.{Drawn}
use Rattle.spool.specs.Decoding.{letter_of}
use Rattle.spool.specs.Rows.{letters_at, marks_at}
use Rattle.spool.specs.Spools.{StandsAt, spool_of}
use Rattle.carriers.proofs.Decisions.{draw_ok}
use Rattle.spool.proofs.Picks.{picks_at}
use Rattle.spool.proofs.Steps.{stands_below}
use Rattle.spool.proofs.carrying.SpoolCarrier.draw.Goals as goal

pub returns-clause-leaves : goal.returns-clause-leaves
returns-clause-leaves g c =
    let s = c.args.self.now in
    let b = s.row_buffer.bytes.now in
    let i = c.in-Some.row in
    let seat = c.args.seat in
    let place = c.args.place in
    let form = g.B.Body.form in
    let blank = g.B.Body.blank in
    let read = letter_of form blank in
    let f = subst (StandsAt form blank s seat place) c.in-Some.is c.find.ensures in
    let m = spool_of form blank s in
    let test = marks_at b seat in
    let item = letters_at read b in
    let below = stands_below form blank s seat place i f in
    let at : get_or (m.waiting seat) place (item i) ≡ item i = ap (λ p. get_or (m.waiting seat) p (item i)) (sym f.2) ∙ picks_at test item i s.rows (item i) f.0 f.1 in (
      subst (λ p. Drawn m seat p (spool_of form blank c.strike.new.self)) f.2 c.strike.ensures.lists,
      c.read.ensures ∙ sym (get_or-map parts_of (m.waiting seat) place (item i) _ below ∙ ap parts_of at),
    )

pub returns-clause-answer : goal.returns-clause-answer
returns-clause-answer g c =
    let s = c.args.self.now in
    let seat = c.args.seat in
    let place = c.args.place in
    let form = g.B.Body.form in
    let blank = g.B.Body.blank in
    let f = subst (StandsAt form blank s seat place) c.in-Some.is c.find.ensures in
    let below = stands_below form blank s seat place c.in-Some.row f in
    sym (draw_ok (spool_of form blank s) seat place (search rules) (omega (arith, below, f.3)))

pub returns-clause-row : goal.returns-clause-row
returns-clause-row g c = (c.in-Some.row, subst (StandsAt g.B.Body.form g.B.Body.blank c.args.self.now c.args.seat c.args.place) c.in-Some.is c.find.ensures, c.strike.ensures.row)
