-- A timeline with one row more, and with the same rows.
use Rattle.std.proofs.Common.{◌≡◌, ◌≤◌, true, List}
use mathlib.Core.HLevel.{is_prop→PathP}
use denote.Struct.Props.{props}
use Rattle.arrayvec.specs.ArrayVec.{array_vec_len}
use Rattle.sheets.specs.Placing.{in_order, placed}
use Rattle.sheets.proofs.Orders.{placed_in_order}
use Rattle.sheet_kinds.specs.declared.row.Row.{Row}
use Rattle.sheet_kinds.specs.declared.timeline.Timeline.{Timeline}
use Rattle.sheet_kinds.specs.declared.timeline.TheConstants.{PLACES}
use Rattle.sheet_kinds.specs.KindLemmas.{row_order}
use Rattle.sheet_kinds.specs.RowOrder.{row_after}

pub rows_in_order : (rows : List Row) (new : Row) → in_order row_after rows ≡ true
    → in_order row_after (placed row_after rows new) ≡ true
rows_in_order rows new up = placed_in_order row_after row_order rows new up

-- a fact that a timeline keeps has one proof at most
pub same_timeline : (a b : Timeline) → a.rows ≡ b.rows → a ≡ b
same_timeline a b r = λ i. record {
  rows = r i;
  fit = is_prop→PathP (λ j. array_vec_len (r j) ≤ PLACES) (λ j. hlevel props) a.fit b.fit i;
  ordered = is_prop→PathP (λ j. in_order row_after (r j).items ≡ true) (λ j. hlevel props) a.ordered b.ordered i;
}

pub ruleset timeline_facts = (rows_in_order, same_timeline)
