use Rattle.rooms.proofs.Taking.{drawn_can_be}
use Rattle.rooms.proofs.room.take.draw_letter.Goals as goal

pub make-requires : goal.make-requires
make-requires g c =
    let drew = c.in_ok-draw.ensures in
    drawn_can_be (g.C.Carrier.meaning c.args.carrier.now) c.args.seat c.args.place c.args.spare _
    c.draw.new.parts drew.answer drew.leaves.1
