use Rattle.std.proofs.Common.{◌≡◌, length, Ok, ap, ◌∙◌, subst}
use Rattle.carriers.specs.Meaning.{draw_answer}
use Rattle.seats.specs.Outcomes.{DrawRests, carrier_check, take_as_answer}
use Rattle.rooms.specs.States.{state}
use Rattle.rooms.proofs.Taking.{took}
use Rattle.rooms.proofs.room.Room.take.Goals as goal

pub returns-clause-rests : goal.returns-clause-rests
returns-clause-rests g c =
    let st = state c.args.self.now in
    let m = g.C.Carrier.meaning c.args.carrier.now in
    let check = carrier_check st (length c.args.logs.now) (length c.args.holds.now) in
    let can : Ok tt ≡ check m.seats = c.in_ok-check_carrier.ensures ∙ ap check c.seats.ensures in
    let drew : Ok tt ≡ draw_answer m c.args.seat c.args.place = c.in_ok-letter.ensures.answer in
    subst (λ k. DrawRests g.C.Carrier.rests k (draw_answer m c.args.seat c.args.place) c.args.carrier.now c.draw_letter.new.carrier) can
    (subst (λ d. DrawRests g.C.Carrier.rests (Ok tt) d c.args.carrier.now c.draw_letter.new.carrier) drew tt)

pub returns-clause-take : goal.returns-clause-take
returns-clause-take g c =
    let drew = c.in_ok-letter.ensures in
    took (state c.args.self.now) _ c.args.holds.now (g.C.Carrier.meaning c.args.carrier.now) c.args.seat c.args.place (Ok (take_as_answer c.hold_or_discard.result)) _ _ _
    (c.in_ok-check_carrier.ensures ∙ ap (carrier_check (state c.args.self.now) (length c.args.logs.now) (length c.args.holds.now)) c.seats.ensures) drew.answer (record {
      letter = c.in_ok-letter.letter;
      there = drew.leaves.1;
      drawn = drew.leaves.0;
      answer = ap (λ t. Ok t) c.hold_or_discard.ensures.answer;
      room = c.hold_or_discard.ensures.room;
      hold = c.hold_or_discard.ensures.hold;
    })
