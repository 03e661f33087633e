-- Pages of rows.
use Rattle.std.specs.Prelude.{ℕ, ◌+◌, ◌-◌, ◌*◌, ◌/◌, ◌<◌, ◌≤◌}
use Rattle.sheets.specs.declared.pages.TheConstants.{ROWS_TO_A_PAGE}

-- how many pages so many rows take: the rows divided by those of a page, rounded up
abbrev pub page_count : ℕ → ℕ
page_count rows = (rows + (ROWS_TO_A_PAGE - 1)) / ROWS_TO_A_PAGE

-- q is n divided by d, rounded up: the least number of parts of d that hold n
pub record RoundedUp (n d q : ℕ) : Type 0 where
  pub enough : n ≤ q * d
  pub least : q * d < n + d
