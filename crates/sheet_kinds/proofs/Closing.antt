-- In a list of jobs that rises one at most is p.n, and taking the first one out closes it.
use Rattle.std.proofs.Common.{◌≡◌, ℕ, true, List, Some, None, position, remove, arith}
use Rattle.std.proofs.lemmas.Bool.Decides.{nat_tests}
use Rattle.sheets.specs.Placing.{rising}
use Rattle.sheets.proofs.Removing.{none_out, one_out, pairs_pass_out}
use Rattle.sheet_kinds.specs.declared.open_job.OpenJob.{OpenJob}
use Rattle.sheet_kinds.specs.JobLists.{is_other, without_job}
use Rattle.sheet_kinds.specs.OpenJobs.{job_after, job_is}

module _ (p n : ℕ) where
  later_differs : (r s : OpenJob) → job_is r p n ≡ true → job_after s r ≡ true → is_other p n s ≡ true
  later_differs r s same after = grind (arith, nat_tests)

  module _ (rows : List OpenJob) where
    pub job_out : (at : ℕ) → position (λ r. job_is r p n) rows ≡ Some at → rising job_after rows ≡ true
        → without_job rows p n ≡ remove rows at
    job_out at found up = one_out (λ r s. job_after s r) (λ r. job_is r p n) later_differs rows at found up

    pub rising_out : (at : ℕ) → position (λ r. job_is r p n) rows ≡ Some at → rising job_after rows ≡ true
        → rising job_after (remove rows at) ≡ true
    rising_out at found up = pairs_pass_out (λ r s. job_after s r) (λ r. job_is r p n) later_differs rows at found up

    pub no_job_out : position (λ r. job_is r p n) rows ≡ None → rising job_after rows ≡ true
        → without_job rows p n ≡ rows
    no_job_out missed up = none_out (λ r s. job_after s r) (λ r. job_is r p n) later_differs rows missed up

pub ruleset closed = (job_out, no_job_out)
