use Rattle.std.proofs.Common.{sym, ap, ◌∙◌}
use Rattle.sheets.specs.Placing.{rising}
use Rattle.sheet_kinds.specs.OpenJobs.{job_after}
use Rattle.sheet_kinds.proofs.Closing.{rising_out}
use Rattle.sheet_kinds.proofs.job_list.JobList.close.Goals as goal

pub invariant_of-self-clause-ordered : goal.invariant_of-self-clause-ordered
invariant_of-self-clause-ordered c =
    let s = c.args.self.now in
    let id = c.args.id in
    ap (rising job_after) c.remove.ensures.items ∙ rising_out id.poster id.number s.rows.items c.in-Some.at (sym c.place_of.ensures ∙ c.in-Some.is) s.ordered
