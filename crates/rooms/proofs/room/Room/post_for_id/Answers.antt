use Rattle.std.proofs.Common.{◌≡◌, length, Ok, ap, rules}
use Rattle.seats.specs.declared.seat.Seat.{Seat}
use Rattle.seats.specs.Outcomes.{post_check, seat_with_post}
use Rattle.seats.specs.Rooms.{seat_at}
use Rattle.rooms.specs.States.{state}
use Rattle.rooms.proofs.Posting.{post_logged}
use Rattle.rooms.proofs.room.Room.post_for_id.Goals as goal

pub returns-clause-logs : goal.returns-clause-logs
returns-clause-logs g c =
    let st = state c.args.self.now in
    let s = c.args.seat in
    let can : Ok tt ≡ post_check st (length c.args.logs.now) (length c.args.holds.now) s = search rules in
    let told : c.raise.new.self ≡ seat_with_post (seat_at st s) s = search rules in
    post_logged st (length c.args.holds.now) s c.args.body c.args.logs.now _ can c.foot-foot.result _ c.make.result c.put.ensures
    c.foot-foot.ensures (ap (λ (x : Seat). x.clock) told) c.make.ensures
