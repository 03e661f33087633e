use Rattle.std.proofs.Common.{◌≡◌, ◌≤◌}
use Rattle.arrayvec.specs.ArrayVec.{array_vec_len}
use Rattle.rooms.specs.Handing.{dockets_below}
use Rattle.rooms.specs.States.{state}
use Rattle.rooms.proofs.out_dockets.OutDockets.of.Given as goal

-- the dockets of the seats so far
abbrev pub invariant-loop-seat : goal.invariant-loop-seat
invariant-loop-seat l = record {
  so_far : l.ids.items ≡ dockets_below (state l.room) l.seat;
  few : array_vec_len l.ids ≤ l.seat;
}
