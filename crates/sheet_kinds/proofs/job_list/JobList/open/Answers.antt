use Rattle.std.proofs.Common.{◌≡◌, ap, ◌∙◌, arith, rules}
use Rattle.sheets.specs.Placing.{placed_within}
use Rattle.sheet_kinds.specs.declared.job_list.TheConstants.{PLACES}
use Rattle.sheet_kinds.specs.JobLists.{open_job}
use Rattle.sheet_kinds.specs.OpenJobs.{job_after}
use Rattle.sheet_kinds.proofs.Opening.{opening}
use Rattle.sheet_kinds.proofs.job_list.JobList.open.Goals as goal

pub invariant_of-self : goal.invariant_of-self
invariant_of-self c =
    let s = c.args.self.now in
    let kept = c.close.new.self.rows.items in
    let job = open_job c.args.id.poster c.args.id.number c.args.code in
    let same : open_job c.poster.result c.number.result c.args.code ≡ job = cc in
    let put = c.insert.ensures.rows ∙ ap (placed_within job_after PLACES kept) same in
    let after = opening job PLACES s.rows.items kept c.insert.new.rows.items s.ordered c.close.ensures.jobs (omega arith) put in
    let longer = after.longer in
    record { few = omega (arith, longer); fit = search rules; ordered = after.up }

pub returns-clause-jobs : goal.returns-clause-jobs
returns-clause-jobs c =
    let s = c.args.self.now in
    let kept = c.close.new.self.rows.items in
    let job = open_job c.args.id.poster c.args.id.number c.args.code in
    let same : open_job c.poster.result c.number.result c.args.code ≡ job = cc in
    let put = c.insert.ensures.rows ∙ ap (placed_within job_after PLACES kept) same in
    (opening job PLACES s.rows.items kept c.insert.new.rows.items s.ordered c.close.ensures.jobs (omega arith) put).is
