use Rattle.std.proofs.Common.{◌≡◌, true, Some, Option, length, ◌==◌, ap, ◌∙◌, subst}
use Rattle.rooms.specs.declared.docket.Docket.{Docket}
use Rattle.rooms_check.specs.Hands.{good_in, numbered_as}
use Rattle.rooms_check.proofs.Hands.{show_in, show_number}
use Rattle.rooms_check.proofs.calls.memory.life.Life.show.Goals as goal

pub invariant_of-self-2 : goal.invariant_of-self-2
invariant_of-self-2 g c =
    let self = c.args.self.now in
    let room = c.in-Some.room in
    let room' = c.show.new.self in
    let logs = length c.args.logs.now in
    let holds = c.args.holds.now in
    let s = c.args.seat in
    let kept : (hand : Option Docket) → good_in self.room hand ≡ true → good_in (Some room') hand ≡ true =
    λ hand good.
    show_in room room' hand (subst (λ x. good_in x hand ≡ true) c.in-Some.is good) logs holds s c.show.ensures.room in
    record {
      drafted = self.drafted;
      numbered =
          ap (λ n. n == self.number) (show_number room room' logs holds s c.show.ensures.room)
          ∙ subst (λ x. numbered_as self.number x ≡ true) c.in-Some.is self.numbered;
      left_good = kept self.left self.left_good;
      right_good = kept self.right self.right_good;
      two_seats = self.two_seats;
    }
