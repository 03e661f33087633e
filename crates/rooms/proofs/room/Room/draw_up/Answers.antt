use Rattle.std.proofs.Common.{◌*◌, ◌≤◌, length, ap, ◌∙◌, rules}
use Rattle.sheets.specs.Sheets.{acceptance, meaning_left}
use Rattle.lives.proofs.Keeping.{always_keeps}
use Rattle.rooms.specs.States.{state}
use Rattle.rooms.proofs.Drawing.{goes_up}
use Rattle.rooms.proofs.Rooms.{sound}
use Rattle.rooms.proofs.room.Room.draw_up.Goals as goal

pub returns : goal.returns
returns g c =
    let r = c.args.self.now in
    let kind = g.K.Sheet.kind in
    let logs = c.args.logs.now in
    let log = c.log_part.result.now in
    let drew = c.draw_up.ensures in
    let wide : r.terms.count * r.terms.quota ≤ kind.places = search rules in
    let up = goes_up kind (state r) (sound r) logs (length c.args.holds.now) c.args.seat log c.in_ok-check_tables_and_seat.ensures wide c.log_part.ensures in
    record {
      answer = drew.answer ∙ ap acceptance up;
      leaves = drew.leaves ∙ ap (λ o. meaning_left o (g.K.Sheet.meaning c.args.sheet.now)) up;
      untouched = search rules;
      guarantees = always_keeps kind g.met.K.Sheet.lawful;
    }

pub returns-in_err-check_tables_and_seat-clause-guarantees : goal.returns-in_err-check_tables_and_seat-clause-guarantees
returns-in_err-check_tables_and_seat-clause-guarantees g c = always_keeps g.K.Sheet.kind g.met.K.Sheet.lawful

pub returns-then-PLACES-places-clause-guarantees : goal.returns-then-PLACES-places-clause-guarantees
returns-then-PLACES-places-clause-guarantees g c = always_keeps g.K.Sheet.kind g.met.K.Sheet.lawful
