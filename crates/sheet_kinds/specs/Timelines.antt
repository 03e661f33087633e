-- Timelines: rows by rank and poster.
use Rattle.std.specs.Prelude.{ℕ, ◌+◌, List, [], sum}
use Rattle.arrayvec.specs.ArrayVec.{array_vec_len}
use Rattle.letters.specs.declared.letter.Letter.{Letter}
use Rattle.letters.specs.declared.text.Text.{Text}
use Rattle.letters.specs.Letters.{number_of}
use Rattle.sheet_kinds.specs.declared.row.Row.{Row}
use Rattle.sheet_kinds.specs.declared.timeline.Timeline.{Timeline}
use Rattle.sheet_kinds.specs.declared.timeline.TheConstants.{PLACES}
use Rattle.sheets.specs.Placing.{placed}
use Rattle.sheet_kinds.specs.RowOrder.{row_after}
use Rattle.sheets.specs.Sheets.{Kind}

-- a letter's row; its rank is the sum of its stamp
abbrev pub row_of : Letter Text → Row
row_of m = record { rank = sum m.stamp.entries; poster = m.poster; number = number_of m; text = m.body }

-- how many letters are entered, and the rows from the top
pub record TimelineMeaning : Type 0 where
  pub count : ℕ
  pub rows : List Row

-- a timeline with nothing entered
abbrev pub no_rows : TimelineMeaning
no_rows = record { count = 0; rows = [] }

-- a letter's row goes before the first that stands after it, else to the end
abbrev pub row_entered : TimelineMeaning → Letter Text → TimelineMeaning
row_entered m x = record { count = m.count + 1; rows = placed row_after m.rows (row_of x) }

-- the kind of sheet that timelines are
abbrev pub timeline_kind : Kind TimelineMeaning Text
timeline_kind = record { places = PLACES; count = λ m. m.count; empty = no_rows; entered = row_entered }

-- what a timeline means: the rows in use
abbrev pub timeline_of : Timeline → TimelineMeaning
timeline_of s = record { count = array_vec_len s.rows; rows = s.rows.items }
