-- A seat's clock, docket and hold, and how each changes.
use Rattle.std.specs.Prelude.{ℕ, ◌+◌, ◌-◌, Bool, true, false, [], replicate, sum, slice_set}
use Rattle.causality.specs.declared.docket.DocketState.{DocketState}
use Rattle.causality.specs.declared.docket.DocketState.TheVariants.{Clear, Out, Parked}
use Rattle.letters.specs.Letters.{entry_at}
use Rattle.seats.specs.declared.seat.Seat.{Seat}
use Rattle.seats.specs.declared.seat.DocketEvent.{DocketEvent}
use Rattle.seats.specs.declared.seat.DocketEvent.TheVariants.{Post, Send, Park, Collect}

-- the four moves of a docket
abbrev pub allows : DocketState → DocketEvent → Bool
allows Clear Post = true
allows Clear Send = false
allows Clear Park = false
allows Clear Collect = false
allows Out Post = false
allows Out Send = true
allows Out Park = true
allows Out Collect = false
allows Parked Post = false
allows Parked Send = false
allows Parked Park = false
allows Parked Collect = true

-- where each move leads; what is not allowed leaves the state
abbrev pub docket_after : DocketState → DocketEvent → DocketState
docket_after Clear Post = Out
docket_after Clear Send = Clear
docket_after Clear Park = Clear
docket_after Clear Collect = Clear
docket_after Out Post = Out
docket_after Out Send = Clear
docket_after Out Park = Parked
docket_after Out Collect = Out
docket_after Parked Post = Parked
docket_after Parked Send = Parked
docket_after Parked Park = Parked
docket_after Parked Collect = Out

-- the clock's entry at p
abbrev pub clock_at : Seat → ℕ → ℕ
clock_at seat p = entry_at seat.clock p

-- the docket's state moved by an event
abbrev pub with_docket_event : Seat → DocketEvent → Seat
with_docket_event seat e = record { clock = seat.clock; held = seat.held; docket = docket_after seat.docket e }

-- the clock's entry at p set to n
abbrev pub with_clock_entry : Seat → ℕ → ℕ → Seat
with_clock_entry seat p n = record { clock = record { entries = slice_set seat.clock.entries p n }; held = seat.held; docket = seat.docket }

-- the clock's entry at s one higher
abbrev pub with_clock_raised : Seat → ℕ → Seat
with_clock_raised seat s = with_clock_entry seat s (clock_at seat s + 1)

-- one held letter less
abbrev pub with_one_held_less : Seat → Seat
with_one_held_less seat = record { clock = seat.clock; held = seat.held - 1; docket = seat.docket }

-- one held letter more
abbrev pub with_one_held_more : Seat → Seat
with_one_held_more seat = record { clock = seat.clock; held = seat.held + 1; docket = seat.docket }

-- the length of a seat's log is the sum of its clock
abbrev pub log_length : Seat → ℕ
log_length seat = sum seat.clock.entries

-- what a read past the table of seats gives
abbrev pub blank : Seat
blank = record { clock = record { entries = [] }; held = 0; docket = Clear }

-- a seat as the opening leaves it: nothing has happened
abbrev pub fresh : Seat
fresh = record { clock = record { entries = replicate 16 0 }; held = 0; docket = Clear }
