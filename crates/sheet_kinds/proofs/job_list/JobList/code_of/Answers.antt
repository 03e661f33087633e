use Rattle.std.proofs.Common.{◌≡◌, ap, ◌∙◌, rules, tests}
use Rattle.std.specs.List.{find}
use Rattle.std.specs.Option.{option_map}
use Rattle.std.proofs.lemmas.Iterator.{YieldsList-from_slice}
use Rattle.std.proofs.lemmas.Iterator.Search.{find_from_yields_List}
use Rattle.sheet_kinds.specs.declared.open_job.OpenJob.{OpenJob}
use Rattle.sheet_kinds.specs.OpenJobs.{job_is}
use Rattle.sheet_kinds.proofs.Codes.{codes_follow}
use Rattle.sheet_kinds.proofs.Jobs.{code-find, option_map-from_cases}
use Rattle.sheet_kinds.proofs.job_list.JobList.code_of.Goals as goal

pub returns-clause-answer : goal.returns-clause-answer
returns-clause-answer c =
    let jobs = c.args.self.now.rows.items in
    let is = λ (r : OpenJob). job_is r c.args.id.poster c.args.id.number in
    let found : option_map (λ x. x.now) c.find.result ≡ find is jobs =
    find_from_yields_List is _ _ c.find.result c.find.ensures.ran (YieldsList-from_slice jobs cc) (λ x b q k. search (rules, tests)) in
    option_map-from_cases (λ x. x.now) (λ (r : OpenJob). r.code) c.find.result c.map.result _ c.map.ensures.cases (λ x y called. search (rules, tests))
    ∙ ap (option_map (λ (r : OpenJob). r.code)) found
    ∙ code-find jobs c.args.id.poster c.args.id.number

pub returns-clause-follows : goal.returns-clause-follows
returns-clause-follows c = codes_follow
