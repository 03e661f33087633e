use Rattle.std.proofs.Common.{◌≡◌, true, Some, Ok, sym, ap, ◌∙◌, subst}
use Rattle.letters.specs.Refusals.{as_answer}
use Rattle.rooms.specs.RoomReading.{close_check}
use Rattle.rooms.specs.States.{state}
use Rattle.rooms_check.specs.Hands.{good_in, numbered_as}
use Rattle.rooms_check.proofs.Hands.{closed_in}
use Rattle.rooms_check.proofs.calls.memory.life.Life.close.Goals as goal

pub invariant_of-self : goal.invariant_of-self
invariant_of-self c =
    let self = c.args.self.now in
    let room = c.in-Some.room in
    let gone = c.take.ensures.after in
    let was : self.room ≡ Some room = c.in-Some.is in
    let can : Ok tt ≡ close_check (state room) = ap (as_answer (λ u. u)) (sym c.in_default-check_close.is) ∙ c.check_close.ensures in
    record {
      drafted = self.drafted;
      numbered = ap (numbered_as self.number) gone;
      left_good = ap (λ r. good_in r self.left) gone ∙ closed_in room self.left (subst (λ r. good_in r self.left ≡ true) was self.left_good) can;
      right_good = ap (λ r. good_in r self.right) gone ∙ closed_in room self.right (subst (λ r. good_in r self.right ≡ true) was self.right_good) can;
      two_seats = self.two_seats;
    }
