-- Masks of seats.
use Rattle.std.specs.Prelude.{ℕ, zero, suc, ◌+◌, ◌-◌, ◌/◌, ◌%◌, ◌^◌, Bool, cond, ◌==◌, bit_xor}

-- whether a seat's bit is set
abbrev pub marked : ℕ → ℕ → Bool
marked mask seat = mask / 2 ^ seat % 2 == 1

-- the mask of all of so many seats
abbrev pub full : ℕ → ℕ
full seats = 2 ^ seats - 1

-- the full mask less one seat's bit
abbrev pub all_but : ℕ → ℕ → ℕ
all_but seats poster = bit_xor (full seats) (2 ^ poster)

-- how many of the first n seats have their bit set
abbrev pub seats_marked : ℕ → ℕ → ℕ
seats_marked mask zero = 0
seats_marked mask (suc n) = seats_marked mask n + cond (marked mask n) 1 0
