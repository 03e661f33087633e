use Rattle.std.proofs.Common.{◌≡◌, true, Some, Option, length, ◌==◌, ap, ◌∙◌, subst}
use Rattle.letters.specs.Refusals.{as_answer}
use Rattle.seats.specs.Outcomes.{take_as_answer, take_check}
use Rattle.rooms.specs.declared.docket.Docket.{Docket}
use Rattle.rooms.specs.States.{state}
use Rattle.rooms_check.specs.Hands.{good_in, numbered_as}
use Rattle.rooms_check.proofs.Hands.{take_in, take_number}
use Rattle.rooms_check.proofs.calls.memory.life.Life.take.Goals as goal

pub invariant_of-self-2 : goal.invariant_of-self-2
invariant_of-self-2 g c =
    let self = c.args.self.now in
    let room = c.in-Some.room in
    let room' = c.take.new.self in
    let carrier = g.C.Carrier.meaning c.args.carrier.now in
    let carrier' = g.C.Carrier.meaning c.take.new.carrier in
    let holds = c.args.holds.now in
    let r = take_check (state room) (length c.args.logs.now) (length holds) carrier c.args.seat c.args.place in
    let answer = as_answer take_as_answer c.take.result in
    let kept : (hand : Option Docket) → good_in self.room hand ≡ true → good_in (Some room') hand ≡ true =
    λ hand good.
    take_in room room' hand (subst (λ x. good_in x hand ≡ true) c.in-Some.is good) r holds carrier c.args.seat c.args.place answer c.take.new.holds carrier' c.take.ensures.take in
    record {
      drafted = self.drafted;
      numbered =
          ap (λ n. n == self.number) (take_number r (state room) holds carrier c.args.seat c.args.place answer (state room') c.take.new.holds carrier' c.take.ensures.take)
          ∙ subst (λ x. numbered_as self.number x ≡ true) c.in-Some.is self.numbered;
      left_good = kept self.left self.left_good;
      right_good = kept self.right self.right_good;
      two_seats = self.two_seats;
    }
