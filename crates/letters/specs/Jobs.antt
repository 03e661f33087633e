-- A job in a record: one to do, with its code, or one to take off the list.
use Rattle.std.specs.Prelude.{◌≡◌, ℕ, Bool, true, false, cond, ◌&&◌, ◌||◌, List, ◌∷◌, length, Some, None, Ok, Option, Result, ◌==◌, nat_lt, slice_index, refl}
use Rattle.std.proofs.lemmas.Bool.{and_parts, ltb-true}
use Rattle.letters.specs.declared.job.Job.{Job}
use Rattle.letters.specs.declared.job.Job.TheVariants.{Add, Strike}
use Rattle.letters.specs.Checks.{check}
use Rattle.letters.specs.Forms.{Form}
use Rattle.letters.specs.Names.{Name, is_name, name_from, name_of}
use Rattle.letters.specs.Numbers.{bytes_of_16, bytes_of_32, number_16, number_32}
use Rattle.letters.specs.Refusals.{Reason, unless}

abbrev pub job_bytes : Job → List ℕ
job_bytes (Add code) = 1 ∷ bytes_of_32 code
job_bytes (Strike id) = 2 ∷ id.poster ∷ bytes_of_16 id.number

-- five bytes are an addition
abbrev pub add_wrong : List ℕ → Option ℕ
add_wrong bs = check (slice_index bs 0 == 1) 0 None

-- four bytes are a strike, of a name that a letter can have
abbrev pub strike_wrong : List ℕ → Option ℕ
strike_wrong bs =
    check (slice_index bs 0 == 2) 0
    (check (nat_lt (slice_index bs 1) 16) 1
    (check (nat_lt 0 (number_16 2 bs)) 2 None))

-- the first byte at which a list is not a job
abbrev pub job_wrong : List ℕ → Option ℕ
job_wrong bs = cond (length bs == 5) (add_wrong bs) (cond (length bs == 4) (strike_wrong bs) (Some 0))

-- the last two bytes of a strike are one number, which is looked at as one
abbrev pub job_starts : ℕ → ℕ → ℕ
job_starts n place = cond (n == 4 && place == 3) 2 place

-- the strike of p.n, and some job where there is no such letter
unfoldable pub strike_or_none : (p n : ℕ) (can : Bool) → is_name p n ≡ can → Job
strike_or_none p n true e =
    let both = and_parts (nat_lt p 16) (nat_lt 0 n) e in
    Strike (record { poster = p; number = n; seated = ltb-true p 16 both.0; counted = ltb-true 0 n both.1 })
strike_or_none p n false e = Add 0

unfoldable pub strike_of : ℕ → ℕ → Job
strike_of p n = strike_or_none p n (is_name p n) refl

-- the job with these bytes, and any job where there is none
abbrev pub job_of : List ℕ → Job
job_of bs = cond (length bs == 5) (Add (number_32 1 bs)) (strike_of (slice_index bs 1) (number_16 2 bs))

-- a job in a record: its kind is 2
abbrev pub job_form : Form Job
job_form = record {
  kind = λ job. 2;
  bytes = job_bytes;
  has_kind = λ k. (k == 2);
  has_length = λ k n. (n == 4) || (n == 5);
  wrong = λ k bs. job_wrong bs;
  starts = λ k n place. job_starts n place;
  body = λ k bs. job_of bs;
}

-- what a caller sees of a job: the code of an addition, or the name of the letter that is struck
pub data JobContent : Type 0 where
  adds : ℕ → JobContent
  strikes : Name → JobContent

-- the values of each case of a job
abbrev pub content_of_job : Job → JobContent
content_of_job (Add code) = adds code
content_of_job (Strike id) = strikes (name_of id)

-- a strike is made of any poster and number that a letter can be called by
abbrev pub strike_answer : ℕ → ℕ → Result JobContent Reason
strike_answer p n = unless (is_name p n) 20 (Ok (strikes (name_from p n)))
