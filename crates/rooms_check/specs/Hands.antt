-- The dockets of a room that are in hand.
use Rattle.std.specs.Prelude.{ℕ, Bool, true, false, not, ◌&&◌, ◌==◌, Ok, Err, Some, None, Option, Result}
use Rattle.seats.specs.Outcomes.{good_docket}
use Rattle.rooms.specs.declared.docket.Docket.{Docket}
use Rattle.rooms.specs.declared.docket.Returned.{Returned}
use Rattle.rooms.specs.declared.draft.Draft.{Draft}
use Rattle.rooms.specs.declared.room.Room.{Room}
use Rattle.rooms.specs.Drafts.{state_of_draft}
use Rattle.rooms.specs.States.{id_of, state}

-- what a hand has is good at the room; where no room is open, it has nothing
abbrev pub good_in : Option Room → Option Docket → Bool
good_in room None = true
good_in None (Some d) = false
good_in (Some room) (Some d) = good_docket (state room) (id_of d)

-- what two hands have is of two seats
abbrev pub of_two_seats : Option Docket → Option Docket → Bool
of_two_seats None other = true
of_two_seats (Some d) None = true
of_two_seats (Some d) (Some e) = not (d.seat == e.seat)

-- a docket that comes back from a call fits into a hand of the room, beside what the other hand has
abbrev pub fits_back : Option Room → Option Docket → Result (Unit {0}) Returned → Bool
fits_back room other (Ok done) = true
fits_back room other (Err back) = good_in room (Some back.docket) && of_two_seats (Some back.docket) other

-- a draft has this number, and so has a room
abbrev pub drafted_as : ℕ → Option Draft → Bool
drafted_as number None = true
drafted_as number (Some d) = (state_of_draft d).number == number

abbrev pub numbered_as : ℕ → Option Room → Bool
numbered_as number None = true
numbered_as number (Some room) = (state room).number == number
