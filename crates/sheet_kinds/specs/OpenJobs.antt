-- Open jobs and their order, which is that of p.n: by poster, and by number among those of one poster.
use Rattle.std.specs.Prelude.{ℕ, Bool, ◌&&◌, ◌||◌, ◌==◌, nat_lt}
use Rattle.sheet_kinds.specs.declared.open_job.OpenJob.{OpenJob}

-- the job is p.n
abbrev pub job_is : OpenJob → ℕ → ℕ → Bool
job_is r p n = r.poster == p && r.number == n

-- a job stands after another in order of p.n
abbrev pub job_after : OpenJob → OpenJob → Bool
job_after r other = nat_lt other.poster r.poster || (r.poster == other.poster && nat_lt other.number r.number)
