-- The order of rows: by rank, and by poster among those of one rank.
use Rattle.std.specs.Prelude.{Bool, ◌&&◌, ◌||◌, ◌==◌, nat_lt}
use Rattle.sheet_kinds.specs.declared.row.Row.{Row}

-- a row stands after another when its rank is greater, or its rank is equal and its poster greater
abbrev pub row_after : Row → Row → Bool
row_after r other = nat_lt other.rank r.rank || (r.rank == other.rank && nat_lt other.poster r.poster)
