use Rattle.std.proofs.Common.{ℕ, List, Some, None, sym, subst, arith}
use Rattle.letters.specs.declared.letter.Letter.{Letter}
use Rattle.letters.specs.Order.{Ready}
use Rattle.seats.specs.Rooms.{seat_at}
use Rattle.seats.specs.Scans.{FirstSuch}
use Rattle.seats.specs.Seats.{clock_at}
use Rattle.rooms.specs.States.{state}
use Rattle.rooms.proofs.Rooms.{sound}
use Rattle.rooms.proofs.Showing.{hold_end, show_held, there, told_kept}
use Rattle.rooms.proofs.room.Room.show.Goals as goal

pub overflow_sub-behind : goal.overflow_sub-behind
overflow_sub-behind g c =
    let r = c.args.self.now in
    omega (arith, there (state r) (sound r) _ c.args.seat _ _ _ _ c.in_ok-check_tables_and_seat.ensures c.hold_part-hold.ensures c.in-Some.ensures.answer)

pub overflow_sub-behind-2 : goal.overflow_sub-behind-2
overflow_sub-behind-2 g c =
    let r = c.args.self.now in
    omega (arith, there (state r) (sound r) _ c.args.seat _ _ _ _ c.in_ok-check_tables_and_seat.ensures c.hold_part-hold.ensures c.in-Some.ensures.answer)

pub overflow_add-start : goal.overflow_add-start
overflow_add-start g c =
    let r = c.args.self.now in
    omega (
      arith,
      there (state r) (sound r) _ c.args.seat _ _ _ _ c.in_ok-check_tables_and_seat.ensures c.hold_part-hold.ensures c.in-Some.ensures.answer,
      hold_end (state r) (sound r) _ c.args.seat _ _ _ _ c.in_ok-check_tables_and_seat.ensures c.hold_part-hold.ensures c.in-Some.ensures.answer,
      c.start.ensures,
    )

pub store_seat-requires : goal.store_seat-requires
store_seat-requires g c =
    let r = c.args.self.now in
    told_kept (state r) (sound r) _ c.args.seat _ _ _ _ c.in_ok-check_tables_and_seat.ensures c.hold_part-hold.ensures c.in-Some.ensures.answer
    _ _ _ _ c.release.ensures c.set_clock.ensures c.number.ensures c.poster.ensures

pub returns-clause-holds : goal.returns-clause-holds
returns-clause-holds g c =
    let r = c.args.self.now in
    show_held (state r) (sound r) _ c.args.seat _ _ _ _ c.in_ok-check_tables_and_seat.ensures c.hold_part-hold.ensures c.in-Some.ensures.answer
    _ _ c.start.ensures c.close_up.ensures

pub returns-in_default-clause-ready : goal.returns-in_default-clause-ready
returns-in_default-clause-ready g c =
    let st = state c.args.self.now in
    λ is. subst (λ (hold : List (Letter g.row.B.Denot)). FirstSuch (Ready st.count st.quota c.args.seat (clock_at (seat_at st c.args.seat))) hold None) c.hold_part-hold.ensures c.in_default.ensures.decides

pub returns-clause-ready : goal.returns-clause-ready
returns-clause-ready g c =
    let st = state c.args.self.now in
    let found : ℕ × Letter g.row.B.Denot = (c.in-Some.at, c.in-Some.letter.now) in (
      found,
      subst (λ (hold : List (Letter g.row.B.Denot)). FirstSuch (Ready st.count st.quota c.args.seat (clock_at (seat_at st c.args.seat))) hold (Some found)) c.hold_part-hold.ensures c.in-Some.ensures.decides,
      sym c.id-id.ensures,
    )
