-- Worked cases, as rows of one table: each asks a definition that a contract cites, and gives the answer.
-- Stamps are written by their first three entries, and the others are 0.
use Rattle.std.specs.Prelude.{◌≡◌, ℕ, zero, suc, ◌+◌, ◌-◌, Bool, true, false, cond, not, ◌&&◌, T, List, [], ◌∷◌, replicate, Ok, Err, Result, ◌==◌, count_ones, nat_lt, refl}
use Rattle.std.proofs.Common.{lit<}
use Rattle.letters.specs.declared.job.Job.{Job}
use Rattle.letters.specs.declared.job.Job.TheVariants.{Add, Strike}
use Rattle.letters.specs.declared.letter.Letter.{Letter}
use Rattle.letters.specs.declared.stamp.Stamp.{Stamp}
use Rattle.letters.specs.Letters.{entry_at}
use Rattle.letters.specs.Order.{covers, ready, side_by_side}
use Rattle.letters.specs.Refusals.{Reason}
use Rattle.rooms.specs.Drafts.{DraftState, draft_with_name, enrol_answer, enrol_check, state_of_new_draft}
use Rattle.sheet_kinds.specs.declared.open_job.OpenJob.{OpenJob}
use Rattle.sheet_kinds.specs.JobLists.{job_does, job_list_kind, open_job}
use Rattle.sheet_kinds.specs.Timelines.{timeline_kind}
use Rattle.sheets.specs.Pages.{page_count}
use Rattle.spool.specs.Masks.{all_but, full, seats_marked}
use Rattle.spool.specs.Rows.{row_fits, spool_answer}

abbrev stamp3 : ℕ → ℕ → ℕ → Stamp
stamp3 a b c = record { entries = a ∷ b ∷ c ∷ replicate 13 0 }

abbrev letter3 : (body : Job) (p a b c : ℕ) → T (nat_lt p 16) → T (nat_lt 0 (entry_at (stamp3 a b c) p)) → Letter Job
letter3 body p a b c seat number = record { stamp = stamp3 a b c; poster = p; body = body; sized = refl; seated = lit< seat; counted = lit< number }

-- a job, and the strike of letter 0.1
abbrev some_job : Job
some_job = Add 7

abbrev first_struck : Job
first_struck = Strike (record { poster = 0; number = 1; seated = lit< tt; counted = lit< tt })

-- the jobs of letters 0.1 and 2.1
abbrev two_jobs : List OpenJob
two_jobs = open_job 0 1 7 ∷ open_job 2 1 8 ∷ []

-- a question, with the answer that it must have
pub data Case : Type 0 where
  -- is the letter ready at seat 2 with this clock, in a room of three seats with the quota 4?
  is_ready : (clock : Stamp) (m : Letter Job) (answer : Bool) → Case
  -- are the two letters side by side?
  are_beside : (m k : Letter Job) (answer : Bool) → Case
  -- does the letter cover p.n?
  does_cover : (m : Letter Job) (p n : ℕ) (answer : Bool) → Case
  -- with this many seats, what mask does a row of this poster begin with, and how many seats have yet to draw it?
  begins_with : (seats poster mask draws : ℕ) → Case
  -- which mask marks all of so many seats? its ones are as many
  marks_all : (seats mask : ℕ) → Case
  -- with which number is a spool of so many bytes for five seats refused, 0 where it is accepted?
  spool_refused : (bytes number : ℕ) → Case
  -- how many rows does a spool of so many bytes hold?
  spool_holds : (bytes rows : ℕ) → Case
  -- these jobs are open: which are after the letter?
  leaves_jobs : (before : List OpenJob) (m : Letter Job) (after : List OpenJob) → Case
  -- with this quota, how many seats can be enrolled, one after the other, and with which number is the next refused?
  takes_seats : (quota seats number : ℕ) → Case
  -- how many pages do so many rows take?
  takes_pages : (rows pages : ℕ) → Case
  -- how many letters can be entered on a timeline, and how many on a job list?
  have_places : (timeline list : ℕ) → Case

abbrev same_answer : Bool → Bool → Bool
same_answer a b = cond a b (not b)

-- the number of a refusal, and 0 where there is none
abbrev no_number : {X : Type 0} → Result X Reason → ℕ
no_number (Ok x) = 0
no_number (Err why) = why.number

-- what a draft of the quota holds after so many enrolments, one after the other, under the names 1, 2, 3 and so on
abbrev drafted_so_far : ℕ → ℕ → DraftState
drafted_so_far quota zero = state_of_new_draft 0 quota
drafted_so_far quota (suc n) = let d = drafted_so_far quota n in draft_with_name d (enrol_answer d (n + 1)) (n + 1)

abbrev same_job : OpenJob → OpenJob → Bool
same_job j k = j.poster == k.poster && j.number == k.number && j.code == k.code

abbrev same_jobs : List OpenJob → List OpenJob → Bool
same_jobs [] [] = true
same_jobs [] (k ∷ ks) = false
same_jobs (j ∷ js) [] = false
same_jobs (j ∷ js) (k ∷ ks) = same_job j k && same_jobs js ks

abbrev holds : Case → Bool
holds (is_ready clock m answer) = same_answer (ready 3 4 2 clock m) answer
holds (are_beside m k answer) = same_answer (side_by_side m k) answer
holds (does_cover m p n answer) = same_answer (covers m.stamp p n) answer
holds (begins_with seats poster mask draws) = all_but seats poster == mask && count_ones mask == draws
holds (marks_all seats mask) = full seats == mask && (count_ones mask == seats && seats_marked mask 16 == seats)
holds (spool_refused bytes number) = no_number (spool_answer 5 bytes) == number
holds (spool_holds bytes rows) = row_fits (rows - 1) bytes && not (row_fits rows bytes)
holds (leaves_jobs before m after) = same_jobs (job_does m.body m before) after
holds (takes_seats quota seats number) =
    (drafted_so_far quota seats).count == seats && no_number (enrol_check (drafted_so_far quota seats) (seats + 1)) == number
holds (takes_pages rows pages) = page_count rows == pages
holds (have_places timeline list) = timeline_kind.places == timeline && job_list_kind.places == list

abbrev pub cases : List Case
cases =
    is_ready (stamp3 2 0 0) (letter3 some_job 0 3 0 0 tt tt) true
    ∷ is_ready (stamp3 2 0 0) (letter3 some_job 0 4 0 0 tt tt) false
    ∷ is_ready (stamp3 0 0 0) (letter3 some_job 1 1 1 0 tt tt) false
    ∷ is_ready (stamp3 1 0 0) (letter3 some_job 1 1 1 0 tt tt) true
    ∷ are_beside (letter3 some_job 0 1 0 0 tt tt) (letter3 some_job 1 0 1 0 tt tt) true
    ∷ does_cover (letter3 some_job 1 1 1 0 tt tt) 0 1 true
    ∷ begins_with 5 2 27 4
    ∷ begins_with 16 0 65534 15
    ∷ marks_all 16 65535
    ∷ spool_refused 97 5
    ∷ spool_refused 98 0
    ∷ spool_holds 195 1
    ∷ spool_holds 196 2
    ∷ leaves_jobs two_jobs (letter3 first_struck 1 0 1 0 tt tt) two_jobs
    ∷ leaves_jobs two_jobs (letter3 first_struck 1 1 1 0 tt tt) (open_job 2 1 8 ∷ [])
    ∷ takes_seats 16 16 3
    ∷ takes_seats 17 15 3
    ∷ takes_pages 0 0
    ∷ takes_pages 20 1
    ∷ takes_pages 21 2
    ∷ have_places 256 128
    ∷ []

abbrev every_holds : List Case → Bool
every_holds [] = true
every_holds (c ∷ cs) = holds c && every_holds cs

-- each row of the table has its answer
abbrev pub CasesHold : Type 0
CasesHold = every_holds cases ≡ true
