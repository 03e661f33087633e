-- A job put in at its place is opened, and the jobs stay in order.
use Rattle.std.proofs.Common.{◌≡◌, ℕ, suc, ◌<◌, true, ◌||◌, List, length, ap, ◌∙◌, arith}
use Rattle.std.proofs.lemmas.Bool.Decides.{nat_tests}
use Rattle.sheets.specs.Placing.{placed, placed_within, rising}
use Rattle.sheets.proofs.Inserts.{placed_free, placed_length}
use Rattle.sheets.proofs.Replacing.{placed_replaces, rising_with}
use Rattle.sheet_kinds.specs.declared.open_job.OpenJob.{OpenJob}
use Rattle.sheet_kinds.specs.JobLists.{is_other, with_job, without_job}
use Rattle.sheet_kinds.specs.KindLemmas.{job_order}
use Rattle.sheet_kinds.specs.OpenJobs.{job_after}

module _ (x : OpenJob) where
  -- another job stands before or after x
  other_apart : (r : OpenJob) → is_other x.poster x.number r ≡ (job_after x r || job_after r x)
  other_apart r = grind (arith, nat_tests)

  -- the jobs after x is put in among those that are kept
  pub record JobOpening (jobs kept after : List OpenJob) : Type 0 where
    pub is : after ≡ with_job jobs x
    pub up : rising job_after after ≡ true
    pub longer : length after ≡ suc (length kept)

  pub opening : (places : ℕ) (jobs kept after : List OpenJob) → rising job_after jobs ≡ true
      → kept ≡ without_job jobs x.poster x.number → length kept < places
      → after ≡ placed_within job_after places kept x → JobOpening jobs kept after
  opening places jobs kept after up closed free within =
      let in_place = within ∙ placed_free job_after places kept x free in
      let opened = placed_replaces job_after job_order x (is_other x.poster x.number) other_apart jobs up in
      let is : after ≡ with_job jobs x = in_place ∙ ap (λ l. placed job_after l x) closed ∙ opened in
      record {
        is = is;
        up = ap (rising job_after) is ∙ rising_with job_after job_order x jobs up;
        longer = ap length in_place ∙ placed_length job_after kept x;
      }
