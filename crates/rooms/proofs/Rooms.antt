-- A room by its state: what it keeps to, and what holds where nothing has happened.
use Rattle.seats.specs.Invariants.{RoomInvariant}
use Rattle.rooms.specs.declared.room.Room.{Room}
use Rattle.rooms.specs.States.{state}

-- the facts of an open room, of its state
pub sound : (r : Room) → RoomInvariant (state r)
sound r = record {
  some = r.some;
  few = r.terms.few;
  quotaed = r.terms.quotaed;
  small = r.terms.small;
  table = r.table;
  whole = r.whole;
  within = r.within;
  nobody = r.nobody;
  placed = r.placed;
}
