use Rattle.std.proofs.Common.{replicate, refl}
use Rattle.seats.specs.Rooms.{RoomState}
use Rattle.seats.specs.Seats.{fresh}
use Rattle.lives.proofs.Opening.{fresh_sound}
use Rattle.rooms.proofs.room.Room.fresh.Goals as goal

pub invariant_of-result : goal.invariant_of-result
invariant_of-result c =
    let t = c.args.terms in
    let st : RoomState = record { number = t.number; names = t.names; count = t.count; quota = t.quota; seats = replicate 16 fresh } in
    let ok = fresh_sound st c.requires t.few t.quotaed t.small refl in
    record { some = ok.some; table = ok.table; whole = ok.whole; within = ok.within; nobody = ok.nobody; placed = ok.placed }
