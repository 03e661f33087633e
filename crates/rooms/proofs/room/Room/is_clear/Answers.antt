use Rattle.std.proofs.Common.{◌∙◌, arith, rules, tests}
use Rattle.std.proofs.lemmas.Iterator.{YieldsList-from_slice}
use Rattle.std.proofs.lemmas.Iterator.Search.{all_from_yields_List}
use Rattle.seats.specs.declared.seat.Seat.{Seat}
use Rattle.seats.specs.declared.seat.DocketEvent.TheVariants.{Post}
use Rattle.seats.specs.Seats.{allows}
use Rattle.rooms.specs.States.{state}
use Rattle.rooms.proofs.Closing.{clear_is}
use Rattle.rooms.proofs.room.Room.is_clear.Goals as goal

pub returns : goal.returns
returns c =
    let room = c.args.self.now in
    all_from_yields_List (λ (x : Seat). allows x.docket Post) _ _ _ c.all.ensures.ran (YieldsList-from_slice _ c.iter.ensures.rest) (λ x b q k. search (rules, tests))
    ∙ clear_is (state room) (omega (arith, room.table, room.terms.few))
