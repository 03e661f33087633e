use Rattle.std.proofs.Common.{sym, subst, ◌∙◌}
use Rattle.rooms.specs.Handing.{AreOut, dockets_left}
use Rattle.rooms.specs.States.{id_of, state}
use Rattle.rooms.proofs.Handing.{ParkedOthers, all_parked, fewer, may_park, none_first, none_parked, out_are_good, parked_next, parks, some_first}
use Rattle.rooms.proofs.ended.Ended.park_all.Goals as goal

pub loop-docket-init : goal.loop-docket-init
loop-docket-init c =
    let ended = c.args.self in
    none_parked (state ended.room) (dockets_left ended.dockets) (subst (AreOut (state ended.room)) (sym ended.out) (out_are_good (state ended.room) ended.room.terms.few))

pub unwrap-requires : goal.unwrap-requires
unwrap-requires c =
    let room = c.loop-docket.room in
    let first = some_first (dockets_left c.loop-docket.dockets) (dockets_left c.in-Some.others) (id_of c.in-Some.docket) (rw c.in-Some.is at c.next.ensures) in
    parks c.park.result (c.park.ensures.answer ∙ may_park (state c.args.self.room) (state room) (id_of c.in-Some.docket) (dockets_left c.in-Some.others) room.table room.terms.few
    (subst (ParkedOthers (state c.args.self.room) (state room)) first c.loop-docket.invariant))

pub loop-docket-smaller : goal.loop-docket-smaller
loop-docket-smaller c = fewer (dockets_left c.loop-docket.dockets) (dockets_left c.in-Some.others) (id_of c.in-Some.docket) (rw c.in-Some.is at c.next.ensures)

pub loop-docket-preserved : goal.loop-docket-preserved
loop-docket-preserved c =
    let room = c.loop-docket.room in
    let first = some_first (dockets_left c.loop-docket.dockets) (dockets_left c.in-Some.others) (id_of c.in-Some.docket) (rw c.in-Some.is at c.next.ensures) in
    parked_next (state c.args.self.room) (state room) (id_of c.in-Some.docket) (dockets_left c.in-Some.others) room.table room.terms.few
    (subst (ParkedOthers (state c.args.self.room) (state room)) first c.loop-docket.invariant) (state c.park.new.self) c.park.ensures.room

pub returns : goal.returns
returns c =
    let was = state c.args.self.room in
    let now = state c.loop-docket.room in
    record {
      seats = all_parked was now (dockets_left c.loop-docket.dockets) c.loop-docket.invariant (none_first (dockets_left c.loop-docket.dockets) (rw c.in_default.is at c.next.ensures));
      terms = c.loop-docket.invariant.terms;
    }
