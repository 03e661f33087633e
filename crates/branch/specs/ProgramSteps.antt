-- What a step of the program is, by its bytes.
use Rattle.std.specs.Prelude.{ℕ, cond, List, length, drop, Ok, Err, Result, ◌==◌, slice_index}
use Rattle.letters.specs.Jobs.{JobContent, adds, content_of_job, strike_answer}
use Rattle.letters.specs.Numbers.{number_16, number_32}
use Rattle.letters.specs.Refusals.{Reason, plain, reason_of}
use Rattle.branch.specs.declared.step.Call.{Call}
use Rattle.branch.specs.declared.step.Call.TheVariants as calls
use Rattle.branch.specs.declared.step.NoStep.{NoStep}
use Rattle.branch.specs.declared.step.Step.{Step}

-- what a step brings: a call with its seat and its values, a post of a bad form with the number of its refusal, or nothing
pub data StepContent : Type 0 where
  post : ℕ → JobContent → StepContent
  bad_form : ℕ → Reason → StepContent
  collect : ℕ → StepContent
  take : ℕ → ℕ → StepContent
  show : ℕ → StepContent
  bad : StepContent

-- a step by what it brings
abbrev pub content_of_call : ℕ → Call → StepContent
content_of_call seat (calls.Post (Ok job)) = post seat (content_of_job job)
content_of_call seat (calls.Post (Err why)) = bad_form seat (reason_of why)
content_of_call seat calls.Collect = collect seat
content_of_call seat (calls.Take place) = take seat place
content_of_call seat calls.Show = show seat

abbrev pub content_of_step : Result Step NoStep → StepContent
content_of_step (Ok step) = content_of_call step.seat step.call
content_of_step (Err stop) = bad

-- the job of a post: byte 2 is 1 for an add, its code from byte 4 on, or 2 for a strike, with the poster in byte 3 and the
-- number from byte 4 on; anything else is refused with 20
abbrev pub job_of_post : ℕ → ℕ → List ℕ → Result JobContent Reason
job_of_post kind poster value =
    cond (kind == 1) (Ok (adds (number_32 0 value)))
    (cond (kind == 2) (strike_answer poster (number_16 0 value)) (Err (plain 20)))

abbrev pub post_of : ℕ → Result JobContent Reason → StepContent
post_of seat (Ok job) = post seat job
post_of seat (Err why) = bad_form seat why

-- the step of eight bytes, by its first byte, and no step of any other bytes
abbrev pub call_of : ℕ → ℕ → List ℕ → StepContent
call_of call seat rest =
    cond (call == 1) (post_of seat (job_of_post (slice_index rest 0) (slice_index rest 1) (drop 2 rest)))
    (cond (call == 2) (collect seat)
    (cond (call == 3) (take seat (number_16 0 rest))
    (cond (call == 4) (show seat) bad)))

abbrev pub step_of : List ℕ → StepContent
step_of bs = cond (length bs == 8) (call_of (slice_index bs 0) (slice_index bs 1) (drop 2 bs)) bad
