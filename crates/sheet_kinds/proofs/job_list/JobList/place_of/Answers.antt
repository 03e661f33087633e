use Rattle.std.proofs.Common.{rules, tests}
use Rattle.std.proofs.lemmas.Iterator.{YieldsList-from_slice}
use Rattle.std.proofs.lemmas.Iterator.Search.{position_from_yields_List}
use Rattle.sheet_kinds.specs.declared.open_job.OpenJob.{OpenJob}
use Rattle.sheet_kinds.specs.OpenJobs.{job_is}
use Rattle.sheet_kinds.proofs.job_list.JobList.place_of.Goals as goal

pub returns : goal.returns
returns c =
    let is = λ (r : OpenJob). job_is r c.args.id.poster c.args.id.number in
    position_from_yields_List is _ _ c.position.result c.position.ensures.ran (YieldsList-from_slice c.args.self.now.rows.items cc) (λ x b q k. search (rules, tests))
