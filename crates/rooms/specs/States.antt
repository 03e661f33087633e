-- A room and a docket by what they hold.
use Rattle.std.specs.Prelude.{◌≡◌, Ok, Err, Result}
use Rattle.letters.specs.Refusals.{Reason, reason_of}
use Rattle.seats.specs.declared.docket_id.DocketId.{DocketId}
use Rattle.seats.specs.Rooms.{RoomState}
use Rattle.rooms.specs.declared.docket.Docket.{Docket}
use Rattle.rooms.specs.declared.docket.Returned.{Returned}
use Rattle.rooms.specs.declared.room.Room.{Room}

-- what an open room holds
abbrev pub state : Room → RoomState
state r = record { number = r.terms.number; names = r.terms.names; count = r.terms.count; quota = r.terms.quota; seats = r.seats }

-- the three numbers of a docket
abbrev pub id_of : Docket → DocketId
id_of d = record { room = d.room; seat = d.seat; number = d.number }

-- an answer to a docket that was brought, as its caller sees it: done, or why it is refused
abbrev pub docket_as_answer : Result (Unit {0}) Returned → Result (Unit {0}) Reason
docket_as_answer (Ok done) = Ok done
docket_as_answer (Err back) = Err (reason_of back.refusal)

-- a refused docket comes back as it was
abbrev pub ComesBack : Docket → Result (Unit {0}) Returned → Type 0
ComesBack d (Ok done) = Unit {0}
ComesBack d (Err back) = back.docket ≡ d
