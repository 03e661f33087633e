-- Jobs of letters that are side by side are opened and closed in either order.
use Rattle.std.specs.Prelude.{◌≡◌, ℕ, Bool, true, false, cond, List, filter, refl}
use Rattle.std.proofs.Common.{inl, inr, sym, ap, arith}
use Rattle.std.proofs.lemmas.Bool.{cases_Bool, leb-true}
use Rattle.std.proofs.lemmas.Bool.Decides.{nat_tests}
use Rattle.letters.specs.declared.job.Job.{Job}
use Rattle.letters.specs.declared.job.Job.TheVariants.{Add, Strike}
use Rattle.letters.specs.declared.letter.Letter.{Letter}
use Rattle.letters.specs.declared.letter_id.LetterId.{LetterId}
use Rattle.letters.specs.Letters.{entry_at, number_of}
use Rattle.letters.specs.Order.{SideBySide, covers}
use Rattle.sheet_kinds.specs.declared.open_job.OpenJob.{OpenJob}
use Rattle.sheet_kinds.specs.JobLists.{is_other, job_does, open_job, with_job, without_job}
use Rattle.sheet_kinds.specs.KindLemmas.{job_order, jobs_differ}
use Rattle.sheet_kinds.specs.OpenJobs.{job_after, job_is}
use Rattle.sheets.specs.BesideLemmas.{beside_posters}
use Rattle.sheets.specs.FilterLemmas.{kept_swap}
use Rattle.sheets.specs.RowLemmas.{filter_with_row, with_row_swap}

-- a job closed before or after another is opened
close_open : (jobs : List OpenJob) (x : OpenJob) (p n : ℕ) → job_is x p n ≡ false
    → without_job (with_job jobs x) p n ≡ with_job (without_job jobs p n) x
close_open jobs x p n other =
    let stays : is_other p n x ≡ true = grind (arith, nat_tests) in
    filter_with_row job_after (is_other p n) jobs x stays

-- where a strike's letter covers p.n and the two letters are side by side, the other letter is not p.n
not_struck : (x y : Letter Job) (code p n : ℕ) → SideBySide x y → covers y.stamp p n ≡ true → job_is (open_job x.poster (number_of x) code) p n ≡ false
not_struck x y code p n side known = elim (cases_Bool (job_is (open_job x.poster (number_of x) code) p n)) [
  | inl same ↦
      let from : x.poster ≡ p = grind (arith, nat_tests) in
      let is : number_of x ≡ n = grind (arith, nat_tests) in
      let read = ap (entry_at y.stamp) from in
      absurd (side.back (omega (arith, leb-true n (entry_at y.stamp p) known)))
  | inr other ↦ other
]

add_strike : (x y : Letter Job) (code : ℕ) (id : LetterId) → SideBySide x y → (jobs : List OpenJob) →
    job_does (Strike id) y (job_does (Add code) x jobs) ≡ job_does (Add code) x (job_does (Strike id) y jobs)
add_strike x y code id side jobs = elim (cases_Bool (covers y.stamp id.poster id.number)) [
  | inl known ↦ simp known (close_open jobs (open_job x.poster (number_of x) code) id.poster id.number (not_struck x y code id.poster id.number side known))
  | inr unknown ↦ simp unknown
]

-- two tests, each of which may be left out
strike_strike : (s t : Bool) (p q : OpenJob → Bool) (jobs : List OpenJob) →
    cond t (filter q (cond s (filter p jobs) jobs)) (cond s (filter p jobs) jobs) ≡ cond s (filter p (cond t (filter q jobs) jobs)) (cond t (filter q jobs) jobs)
strike_strike true true p q jobs = kept_swap q p jobs
strike_strike true false p q jobs = refl
strike_strike false true p q jobs = refl
strike_strike false false p q jobs = refl

pub jobs_swap : (a b : Job) (x y : Letter Job) → SideBySide x y → (jobs : List OpenJob) → job_does b y (job_does a x jobs) ≡ job_does a x (job_does b y jobs)
jobs_swap (Add c) (Add d) x y side jobs =
    let a = open_job x.poster (number_of x) c in
    let b = open_job y.poster (number_of y) d in
    with_row_swap job_after job_order jobs a b (jobs_differ a b (beside_posters x y side))
jobs_swap (Add c) (Strike k) x y side jobs = add_strike x y c k side jobs
jobs_swap (Strike k) (Add d) x y side jobs = sym (add_strike y x d k (record { forth = side.back; back = side.forth }) jobs)
jobs_swap (Strike k) (Strike l) x y side jobs =
    strike_strike (covers x.stamp k.poster k.number) (covers y.stamp l.poster l.number) (is_other k.poster k.number) (is_other l.poster l.number) jobs
