-- The code of a job, found by its name.
use Rattle.std.proofs.Common.{◌≡◌, ℕ, List, [], ◌∷◌, Some, None, Option, refl, ap, inl, inr}
use Rattle.std.specs.List.{find}
use Rattle.std.specs.Option.{IsSomeAnd, MatchOption, option_map}
use Rattle.std.proofs.lemmas.Bool.{cases_Bool}
use Rattle.sheet_kinds.specs.declared.open_job.OpenJob.{OpenJob}
use Rattle.sheet_kinds.specs.JobLists.{code_in}
use Rattle.sheet_kinds.specs.OpenJobs.{job_is}

-- what `map` makes of a value that is there
pub option_map-from_cases : {A X Y : Type 0} (v : A → X) (f : X → Y) (o : Option A) (r : Option Y) (P : A → Y → Type 0)
    → MatchOption o (r ≡ None) (λ x. IsSomeAnd r (P x)) → ((x : A) (y : Y) → P x y → y ≡ f (v x)) → r ≡ option_map f (option_map v o)
option_map-from_cases v f None r P cases each = cases
option_map-from_cases v f (Some x) (Some y) P cases each = ap Some (each x y cases)
option_map-from_cases v f (Some x) None P cases each = absurd cases

-- the code of the first job that is p.n
pub code-find : (jobs : List OpenJob) (p n : ℕ) → option_map (λ (r : OpenJob). r.code) (find (λ r. job_is r p n) jobs) ≡ code_in jobs p n
code-find [] p n = refl
code-find (r ∷ rs) p n = elim (cases_Bool (job_is r p n)) [ inl same ↦ rw same | inr other ↦ rw other (code-find rs p n) ]
