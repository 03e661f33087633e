-- Open jobs as codes by their names.
use Rattle.std.proofs.Common.{◌≡◌, ℕ, Bool, true, false, cond, ◌&&◌, eqb, List, [], ◌∷◌, ◌++◌, Some, None, filter, Option, refl, ◌∙◌, inl, inr, arith}
use Rattle.std.proofs.lemmas.Bool.{cases_Bool}
use Rattle.std.proofs.lemmas.Bool.Decides.{nat_tests}
use Rattle.letters.specs.declared.job.Job.{Job}
use Rattle.letters.specs.declared.job.Job.TheVariants.{Add, Strike}
use Rattle.letters.specs.declared.letter.Letter.{Letter}
use Rattle.letters.specs.Letters.{number_of}
use Rattle.letters.specs.Order.{covers}
use Rattle.sheet_kinds.specs.declared.open_job.OpenJob.{OpenJob}
use Rattle.sheet_kinds.specs.JobLists.{CodesFollow, code_after, code_in, is_other, job_does, open_job, with_job, without_job}
use Rattle.sheet_kinds.specs.OpenJobs.{job_after, job_is}

-- the first of two codes that there is
abbrev first_of : Option ℕ → Option ℕ → Option ℕ
first_of (Some c) o = Some c
first_of None o = o

or_none : (o : Option ℕ) → first_of o None ≡ o
or_none (Some c) = refl
or_none None = refl

module _ (p n : ℕ) where
  code_joined : (jobs more : List OpenJob) → code_in (jobs ++ more) p n ≡ first_of (code_in jobs p n) (code_in more p n)
  code_joined [] more = refl
  code_joined (r ∷ rs) more = elim (cases_Bool (job_is r p n)) [ inl e ↦ simp e | inr e ↦ simp e (code_joined rs more) ]

  module _ (test : OpenJob → Bool) where
    -- a filter that lets p.n through keeps its code
    code_kept : ((r : OpenJob) → job_is r p n ≡ true → test r ≡ true) → (jobs : List OpenJob) → code_in (filter test jobs) p n ≡ code_in jobs p n
    code_kept each [] = refl
    code_kept each (r ∷ rs) = elim (cases_Bool (job_is r p n)) [
      | inl e ↦ let f = each r e in simp (f, e)
      | inr e ↦ elim (cases_Bool (test r)) [ inl f ↦ simp (f, e) (code_kept each rs) | inr f ↦ simp (f, e) (code_kept each rs) ]
    ]

    -- a filter that holds p.n back takes its code away
    code_gone : ((r : OpenJob) → job_is r p n ≡ true → test r ≡ false) → (jobs : List OpenJob) → code_in (filter test jobs) p n ≡ None
    code_gone each [] = refl
    code_gone each (r ∷ rs) = elim (cases_Bool (test r)) [
      | inl f ↦ elim (cases_Bool (job_is r p n)) [
        | inl e ↦ let g = each r e in let z : ◌≡◌ {A = ℕ} 0 1 = cc in absurd (omega arith)
        | inr e ↦ simp (f, e) (code_gone each rs)
      ]
      | inr f ↦ simp f (code_gone each rs)
    ]

  -- a job p.n stands to x as its name does
  module _ (x : OpenJob) where
    name-ahead : job_after x (open_job p n 0) ≡ true → (r : OpenJob) → job_is r p n ≡ true → job_after x r ≡ true
    name-ahead e r f = grind (arith, nat_tests)

    name_not_ahead : job_after x (open_job p n 0) ≡ false → (r : OpenJob) → job_is r p n ≡ true → job_after x r ≡ false
    name_not_ahead e r f = grind (arith, nat_tests)

    name_behind : job_after x (open_job p n 0) ≡ false → job_is x p n ≡ false → (r : OpenJob) → job_is r p n ≡ true → job_after r x ≡ true
    name_behind e g r f = grind (arith, nat_tests)

    name_not_behind : job_after x (open_job p n 0) ≡ true → (r : OpenJob) → job_is r p n ≡ true → job_after r x ≡ false
    name_not_behind e r f = grind (arith, nat_tests)

    not_same : job_after x (open_job p n 0) ≡ true → job_is x p n ≡ false
    not_same e = grind (arith, nat_tests)

    code_with : (jobs : List OpenJob) → code_in (with_job jobs x) p n ≡ cond (job_is x p n) (Some x.code) (code_in jobs p n)
    code_with jobs =
        let ahead = filter (λ r. job_after x r) jobs in
        let behind = filter (λ r. job_after r x) jobs in
        code_joined ahead (x ∷ behind)
        ∙ elim (cases_Bool (job_after x (open_job p n 0))) [
          | inl e ↦
              let other = not_same e in
              let kept = code_kept (λ r. job_after x r) (name-ahead e) jobs in
              let gone = code_gone (λ r. job_after r x) (name_not_behind e) jobs in
              simp (other, kept, gone, or_none)
          | inr e ↦
              let gone = code_gone (λ r. job_after x r) (name_not_ahead e) jobs in
              elim (cases_Bool (job_is x p n)) [
                | inl same ↦ simp (gone, same)
                | inr other ↦ let kept = code_kept (λ r. job_after r x) (name_behind e other) jobs in simp (gone, other, kept)
              ]
        ]

  code_without : (q k : ℕ) (jobs : List OpenJob) → code_in (without_job jobs q k) p n ≡ cond (eqb q p && eqb k n) None (code_in jobs p n)
  code_without q k jobs = elim (cases_Bool (eqb q p && eqb k n)) [
    | inl same ↦ let gone = code_gone (is_other q k) (λ r e. struck r e same) jobs in simp same gone
    | inr other ↦ let kept = code_kept (is_other q k) (λ r e. spared r e other) jobs in simp other kept
  ]
    where
      struck : (r : OpenJob) → job_is r p n ≡ true → (eqb q p && eqb k n) ≡ true → is_other q k r ≡ false
      struck r e f = grind (arith, nat_tests)

      spared : (r : OpenJob) → job_is r p n ≡ true → (eqb q p && eqb k n) ≡ false → is_other q k r ≡ true
      spared r e f = grind (arith, nat_tests)

struck_code : (known : Bool) (m : Letter Job) (q k p n : ℕ) (jobs : List OpenJob) → covers m.stamp q k ≡ known →
    code_in (cond known (without_job jobs q k) jobs) p n ≡ cond (eqb q p && eqb k n && covers m.stamp p n) None (code_in jobs p n)
struck_code true m q k p n jobs e = code_without p n q k jobs ∙ same_test
  where
    same_test : cond (eqb q p && eqb k n) None (code_in jobs p n) ≡ cond (eqb q p && eqb k n && covers m.stamp p n) None (code_in jobs p n)
    same_test = grind (arith, nat_tests)
struck_code false m q k p n jobs e = grind (arith, nat_tests)

follow : (job : Job) (m : Letter Job) (jobs : List OpenJob) (p n : ℕ) → code_in (job_does job m jobs) p n ≡ code_after job m p n (code_in jobs p n)
follow (Add code) m jobs p n = code_with p n (open_job m.poster (number_of m) code) jobs
follow (Strike id) m jobs p n = struck_code (covers m.stamp id.poster id.number) m id.poster id.number p n jobs refl

-- opening and closing a job changes its own code and no other
pub codes_follow : CodesFollow
codes_follow m jobs p n = follow m.body m jobs p n
