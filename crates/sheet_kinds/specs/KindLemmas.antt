-- The orders of rows and of open jobs are orders.
use Rattle.std.specs.Prelude.{◌≡◌, not}
use Rattle.std.specs.Cmp.{IsStrictWeakOrder}
use Rattle.std.proofs.Common.{arith}
use Rattle.std.proofs.lemmas.Bool.Decides.{nat_tests}
use Rattle.sheet_kinds.specs.declared.open_job.OpenJob.{OpenJob}
use Rattle.sheet_kinds.specs.declared.row.Row.{Row}
use Rattle.sheet_kinds.specs.OpenJobs.{job_after}
use Rattle.sheet_kinds.specs.RowOrder.{row_after}

pub row_order : IsStrictWeakOrder row_after
row_order = record { one_way = λ a b e. grind (arith, nat_tests); chain = λ a b c e f. grind (arith, nat_tests) }

-- of two rows of different posters one stands after the other
pub rows_differ : (a b : Row) → ¬ (a.poster ≡ b.poster) → row_after a b ≡ not (row_after b a)
rows_differ a b apart = grind (arith, nat_tests)

pub job_order : IsStrictWeakOrder job_after
job_order = record { one_way = λ a b e. grind (arith, nat_tests); chain = λ a b c e f. grind (arith, nat_tests) }

-- of two jobs of different posters one stands after the other
pub jobs_differ : (a b : OpenJob) → ¬ (a.poster ≡ b.poster) → job_after a b ≡ not (job_after b a)
jobs_differ a b apart = grind (arith, nat_tests)
