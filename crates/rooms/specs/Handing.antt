-- The dockets that are handed out when a list of steps ends.
use Rattle.std.specs.Prelude.{◌≡◌, ℕ, zero, suc, Bool, true, cond, ◌&&◌, ◌↔◌, ◌≤◌, List, [], ◌∷◌, ◌++◌, Some, None, Option, nat_lt}
use Rattle.std.specs.Option.{option_to_list}
use Rattle.letters.specs.Lists.{◌∈◌, NoPair}
use Rattle.seats.specs.declared.seat.Seat.{Seat}
use Rattle.seats.specs.declared.seat.DocketEvent.TheVariants.{Send, Park}
use Rattle.seats.specs.declared.docket_id.DocketId.{DocketId}
use Rattle.seats.specs.Outcomes.{good_docket, newest_docket}
use Rattle.seats.specs.Rooms.{RoomState, seat_at}
use Rattle.seats.specs.Seats.{allows, with_docket_event}
use Rattle.rooms.specs.declared.docket.Docket.{Docket}
use Rattle.rooms.specs.declared.out_dockets.OutDockets.{OutDockets}
use Rattle.rooms.specs.States.{id_of}

-- the dockets that are left to be taken, in their order
abbrev pub dockets_left : OutDockets → List DocketId
dockets_left d = d.ids.items

-- the first of some dockets, with the others behind it
abbrev pub first_docket : List DocketId → Option (DocketId × List DocketId)
first_docket [] = None
first_docket (d ∷ others) = Some (d, others)

-- a docket that was taken, and the others
abbrev pub docket_and_others : Docket × OutDockets → DocketId × List DocketId
docket_and_others p = (id_of p.0, dockets_left p.1)

-- a seat's docket is out
abbrev pub is_out : RoomState → ℕ → Bool
is_out st s = nat_lt s st.count && allows (seat_at st s).docket Send

-- the docket that is out at a seat: that of its newest letter
abbrev pub out_at : RoomState → ℕ → Option DocketId
out_at st s = cond (is_out st s) (Some (newest_docket st s)) None

-- the dockets that are out at the first i seats
abbrev pub dockets_below : RoomState → ℕ → List DocketId
dockets_below st zero = []
dockets_below st (suc i) = dockets_below st i ++ option_to_list (out_at st i)

-- the dockets that are out at a room, from the first seat on
abbrev pub dockets_out : RoomState → List DocketId
dockets_out st = dockets_below st 16

-- the dockets are those that are out at the room: each is good there, and each that is good there is among them, one for a
-- seat, in the order of the seats
pub record AreOut (st : RoomState) (dockets : List DocketId) : Type 0 where
  pub good : (d : DocketId) → (d ∈ dockets) ↔ (good_docket st d ≡ true)
  pub in_turn : NoPair (λ (d k : DocketId). k.seat ≤ d.seat) dockets

-- a seat after its docket is parked, where it is out
abbrev pub seat_after_parking : RoomState → ℕ → Seat
seat_after_parking st s = cond (is_out st s) (with_docket_event (seat_at st s) Park) (seat_at st s)

-- two states of one room, but for its seats
pub record SameTerms (st st' : RoomState) : Type 0 where
  pub number : st'.number ≡ st.number
  pub names : st'.names ≡ st.names
  pub count : st'.count ≡ st.count
  pub quota : st'.quota ≡ st.quota
