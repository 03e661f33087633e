-- Job lists: the open jobs, in order of p.n.
use Rattle.std.specs.Prelude.{◌≡◌, ℕ, ◌+◌, Bool, cond, not, ◌&&◌, List, [], ◌∷◌, Some, None, filter, Option, ◌==◌}
use Rattle.letters.specs.declared.job.Job.{Job}
use Rattle.letters.specs.declared.job.Job.TheVariants.{Add, Strike}
use Rattle.letters.specs.declared.letter.Letter.{Letter}
use Rattle.letters.specs.Letters.{number_of}
use Rattle.letters.specs.Order.{covers}
use Rattle.sheet_kinds.specs.declared.job_list.JobList.{JobList}
use Rattle.sheet_kinds.specs.declared.job_list.TheConstants.{PLACES}
use Rattle.sheet_kinds.specs.declared.open_job.OpenJob.{OpenJob}
use Rattle.sheet_kinds.specs.OpenJobs.{job_after, job_is}
use Rattle.sheets.specs.Placing.{with_row}
use Rattle.sheets.specs.Sheets.{Kind}

-- the job p.n with its code
abbrev pub open_job : ℕ → ℕ → ℕ → OpenJob
open_job p n code = record { poster = p; number = n; code = code }

-- the job is another than p.n
abbrev pub is_other : ℕ → ℕ → OpenJob → Bool
is_other p n r = not (job_is r p n)

-- the jobs with p.n closed
abbrev pub without_job : List OpenJob → ℕ → ℕ → List OpenJob
without_job jobs p n = filter (is_other p n) jobs

-- the jobs with a new one open: those that it stands after, the new one, and those that stand after it.
-- A job that had its p.n before is replaced.
abbrev pub with_job : List OpenJob → OpenJob → List OpenJob
with_job jobs new = with_row job_after jobs new

-- the code of p.n, where it is open
abbrev pub code_in : List OpenJob → ℕ → ℕ → Option ℕ
code_in [] p n = None
code_in (r ∷ rs) p n = cond (job_is r p n) (Some r.code) (code_in rs p n)

-- what a letter's body does: an addition opens the letter's own p.n, a strike closes the p.n that it names if its
-- letter covers it
abbrev pub job_does : Job → Letter Job → List OpenJob → List OpenJob
job_does (Add code) m jobs = with_job jobs (open_job m.poster (number_of m) code)
job_does (Strike id) m jobs =
    cond (covers m.stamp id.poster id.number) (without_job jobs id.poster id.number) jobs

-- the code of p.n after a letter: its own addition gives one, a strike of p.n by a letter that covers it takes it away,
-- and nothing else changes it
abbrev pub code_after : Job → Letter Job → ℕ → ℕ → Option ℕ → Option ℕ
code_after (Add code) m p n before = cond (m.poster == p && number_of m == n) (Some code) before
code_after (Strike id) m p n before =
    cond (id.poster == p && id.number == n && covers m.stamp p n) None before

-- a letter changes the codes of jobs in that way and in no other
abbrev pub CodesFollow : Type 0
CodesFollow =
    (m : Letter Job) (jobs : List OpenJob) (p n : ℕ) → code_in (job_does m.body m jobs) p n ≡ code_after m.body m p n (code_in jobs p n)

-- how many letters are entered, and the open jobs
pub record JobListMeaning : Type 0 where
  pub count : ℕ
  pub jobs : List OpenJob

-- a job list with nothing entered
abbrev pub no_jobs : JobListMeaning
no_jobs = record { count = 0; jobs = [] }

-- a letter does what its body says, and is counted
abbrev pub job_entered : JobListMeaning → Letter Job → JobListMeaning
job_entered m x = record { count = m.count + 1; jobs = job_does x.body x m.jobs }

-- the kind of sheet that job lists are
abbrev pub job_list_kind : Kind JobListMeaning Job
job_list_kind = record { places = PLACES; count = λ m. m.count; empty = no_jobs; entered = job_entered }

-- what a job list means: the rows in use
abbrev pub job_list_of : JobList → JobListMeaning
job_list_of s = record { count = s.entered; jobs = s.rows.items }
