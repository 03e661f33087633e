-- A job's bytes determine the job, and pass its checks.
use Rattle.std.specs.Prelude.{◌≡◌, ℕ, ◌+◌, ◌*◌, ◌/◌, ◌%◌, ◌<◌, ◌≤◌, zero, suc, Bool, true, false, cond, ◌&&◌, ltb, List, ◌∷◌, length, Some, None, ◌==◌, nat_lt, slice_index, refl}
use Rattle.std.proofs.Common.{lit<, ap, sym, ◌∙◌, subst, ⊎_elim, arith}
use Rattle.std.proofs.lemmas.Bool.{lt-ltb, ltb-true, ltb-false, eqb-true, eqb-false, and_from, or_cases, true≢false}
use Rattle.letters.specs.declared.job.Job.{Job}
use Rattle.letters.specs.declared.job.Job.TheVariants.{Add, Strike}
use Rattle.letters.specs.declared.letter_id.LetterId.{LetterId}
use Rattle.letters.specs.declared.body.TheConstants.{BODY_SPACE}
use Rattle.letters.specs.Forms.{FirstWrong, LawfulForm, Near}
use Rattle.letters.specs.Jobs.{add_wrong, job_bytes, job_form, job_of, job_starts, job_wrong, strike_of, strike_or_none, strike_wrong}
use Rattle.letters.specs.Names.{is_name}
use Rattle.letters.specs.Numbers.{bytes_of_16, bytes_of_32, number_16, number_32}
use Rattle.letters.specs.ChecksLemmas.{failed, near_check, near_cond, passed, some_none}
use Rattle.letters.specs.ListedLemmas.{written_out}
use Rattle.letters.specs.NumbersLemmas.{bytes_of_16_back, bytes_of_32_back, made_up_16, made_up_32}
use Rattle.letters.specs.SameLemmas.{equal_ids}

strike_made : (p n : ℕ) (can : Bool) (e : is_name p n ≡ can) → can ≡ true
    → (id : LetterId) → id.poster ≡ p → id.number ≡ n → strike_or_none p n can e ≡ Strike id
unfolding strike_or_none
strike_made p n true e f id q m = ap Strike (equal_ids _ id (sym q) (sym m))
strike_made p n false e f id q m = absurd (true≢false (sym f))

strike_back : (id : LetterId) → strike_of id.poster (id.number % 256 + id.number / 256 * 256) ≡ Strike id
unfolding strike_of
strike_back id =
    let n : ℕ = id.number % 256 + id.number / 256 * 256 in
    let is : n ≡ id.number = made_up_16 id.number in
    let can = and_from (nat_lt id.poster 16) (nat_lt 0 n) (lt-ltb id.poster 16 id.seated) (lt-ltb 0 n (omega (arith, id.counted))) in
    strike_made id.poster n (is_name id.poster n) refl can id refl (sym is)

job_back : (b : Job) → job_of (job_bytes b) ≡ b
job_back (Add code) = ap Add (made_up_32 code)
job_back (Strike id) = strike_back id

job_right : (b : Job) → job_wrong (job_bytes b) ≡ None
job_right (Add code) = refl
job_right (Strike id) =
    let seated : ltb id.poster 16 ≡ true = lt-ltb id.poster 16 id.seated in
    let counted : ltb 0 (id.number % 256 + id.number / 256 * 256) ≡ true = lt-ltb 0 _ (omega (arith, id.counted)) in
    rw (seated, counted)

job_length : (b : Job) → job_form.has_length 2 (length (job_bytes b)) ≡ true
job_length (Add code) = refl
job_length (Strike id) = refl

job_short : (n : ℕ) → job_form.has_length 2 n ≡ true → n ≤ BODY_SPACE
job_short n e = ⊎_elim (λ f. omega (arith, eqb-true n 4 f)) (λ f. omega (arith, eqb-true n 5 f)) (or_cases (n == 4) (n == 5) e)

job_near : (bs : List ℕ) → Near (job_wrong bs)
job_near bs =
    near_cond (length bs == 5) _ _ (near_check (slice_index bs 0 == 1) 0 _ (omega arith) tt)
    (near_cond (length bs == 4) _ (Some 0)
    (near_check (slice_index bs 0 == 2) 0 _ (omega arith)
    (near_check (nat_lt (slice_index bs 1) 16) 1 _ (omega arith)
    (near_check (nat_lt 0 (number_16 2 bs)) 2 _ (omega arith) tt)))
    (omega arith))

job_length_known : (k n : ℕ) → job_form.has_kind k ≡ true → job_form.has_length k n ≡ true → (b : Job) × (2 ≡ k) × (length (job_bytes b) ≡ n)
job_length_known k n e l = ⊎_elim
    (λ f. (Strike (record { poster = 0; number = 1; seated = omega arith; counted = omega arith }), sym (eqb-true k 2 e), sym (eqb-true n 4 f)))
    (λ f. (Add 0, sym (eqb-true k 2 e), sym (eqb-true n 5 f)))
    (or_cases (n == 4) (n == 5) l)

-- five bytes, of which the first is 1, are an addition's
pub add_listed : (bs : List ℕ) (code : ℕ) → ((i : ℕ) → slice_index bs i < 256) → length bs ≡ 5 → slice_index bs 0 ≡ 1
    → code ≡ slice_index bs 1 + slice_index bs 2 * 256 + slice_index bs 3 * 65536 + slice_index bs 4 * 16777216
    → 1 ∷ bytes_of_32 code ≡ bs
add_listed bs code small five first is =
    let back = bytes_of_32_back (slice_index bs 1) (slice_index bs 2) (slice_index bs 3) (slice_index bs 4) (small 1) (small 2) (small 3) in
    let all = written_out 5 bs five in cc

-- four bytes, of which the first is 2, are a strike's
pub strike_listed : (bs : List ℕ) (poster number : ℕ) → ((i : ℕ) → slice_index bs i < 256) → length bs ≡ 4 → slice_index bs 0 ≡ 2
    → poster ≡ slice_index bs 1 → number ≡ slice_index bs 2 + slice_index bs 3 * 256
    → 2 ∷ poster ∷ bytes_of_16 number ≡ bs
strike_listed bs poster number small four first from is =
    let back = bytes_of_16_back (slice_index bs 2) (slice_index bs 3) (small 2) in
    let all = written_out 4 bs four in cc

-- the first letter of a seat
abbrev struck_one : (p : ℕ) → nat_lt p 16 ≡ true → LetterId
struck_one p seat = record { poster = p; number = 1; seated = ltb-true p 16 seat; counted = lit< tt }

-- the strike of letter 0.1
abbrev one_struck : Job
one_struck = Strike (record { poster = 0; number = 1; seated = lit< tt; counted = lit< tt })

-- two bytes of a job of which one is looked at with the other
starts_at : (n place k : ℕ) → job_starts n k ≤ k
starts_at n place k = go (n == 4) (k == 3) refl
  where
    go : (a b : Bool) → (k == 3) ≡ b → cond (a && b) 2 k ≤ k
    go true true e = omega (arith, eqb-true k 3 e)
    go true false e = omega arith
    go false b e = omega arith

-- a test that fails where it should pass
not_so : (a b : ℕ) → (a == b) ≡ false → ¬ (b ≡ a)
not_so a b e is = eqb-false a b e (sym is)

module _ (bs : List ℕ) where
  add_first : (slice_index bs 0 == 1) ≡ false → FirstWrong job_form 2 5 bs 0
  add_first e = record {
    inside = omega arith;
    own = refl;
    before = (Add 0, refl, refl, λ k h b. absurd (omega arith));
    never = λ b kind size agree. wrong b size (agree 0 (omega arith) (omega arith));
  }
    where
      wrong : (b : Job) → length (job_bytes b) ≡ 5 → ¬ (slice_index (job_bytes b) 0 ≡ slice_index bs 0)
      wrong (Add code) size same = not_so (slice_index bs 0) 1 e same
      wrong (Strike id) size same = absurd (omega arith)

  strike_first : (slice_index bs 0 == 2) ≡ false → FirstWrong job_form 2 4 bs 0
  strike_first e = record {
    inside = omega arith;
    own = refl;
    before = (one_struck, refl, refl, λ k h b. absurd (omega arith));
    never = λ b kind size agree. wrong b size (agree 0 (omega arith) (omega arith));
  }
    where
      wrong : (b : Job) → length (job_bytes b) ≡ 4 → ¬ (slice_index (job_bytes b) 0 ≡ slice_index bs 0)
      wrong (Add code) size same = absurd (omega arith)
      wrong (Strike id) size same = not_so (slice_index bs 0) 2 e same

  strike_poster : slice_index bs 0 ≡ 2 → nat_lt (slice_index bs 1) 16 ≡ false → FirstWrong job_form 2 4 bs 1
  strike_poster first e = record {
    inside = omega arith;
    own = refl;
    before = (one_struck, refl, refl, agrees);
    never = λ b kind size agree. wrong b size (agree 1 (omega arith) (omega arith));
  }
    where
      agrees : (k : ℕ) → k < 4 → job_starts 4 k < 1 → slice_index (job_bytes one_struck) k ≡ slice_index bs k
      agrees zero h b = sym first
      agrees (suc zero) h b = absurd (omega arith)
      agrees (suc (suc zero)) h b = absurd (omega arith)
      agrees (suc (suc (suc zero))) h b = absurd (omega arith)
      agrees (suc (suc (suc (suc k)))) h b = absurd (omega arith)

      wrong : (b : Job) → length (job_bytes b) ≡ 4 → ¬ (slice_index (job_bytes b) 1 ≡ slice_index bs 1)
      wrong (Add code) size same = absurd (omega arith)
      wrong (Strike id) size same = let large = ltb-false (slice_index bs 1) 16 e in omega (arith, id.seated)

  strike_number : slice_index bs 0 ≡ 2 → nat_lt (slice_index bs 1) 16 ≡ true → nat_lt 0 (number_16 2 bs) ≡ false → FirstWrong job_form 2 4 bs 2
  strike_number first seat e = record {
    inside = omega arith;
    own = refl;
    before = (Strike (struck_one (slice_index bs 1) seat), refl, refl, agrees);
    never = λ b kind size agree. wrong b size (agree 2 (omega arith) (omega arith)) (agree 3 (omega arith) (omega arith));
  }
    where
      agrees : (k : ℕ) → k < 4 → job_starts 4 k < 2 → slice_index (job_bytes (Strike (struck_one (slice_index bs 1) seat))) k ≡ slice_index bs k
      agrees zero h b = sym first
      agrees (suc zero) h b = refl
      agrees (suc (suc zero)) h b = absurd (omega arith)
      agrees (suc (suc (suc zero))) h b = absurd (omega arith)
      agrees (suc (suc (suc (suc k)))) h b = absurd (omega arith)

      wrong : (b : Job) → length (job_bytes b) ≡ 4 → slice_index (job_bytes b) 2 ≡ slice_index bs 2 → ¬ (slice_index (job_bytes b) 3 ≡ slice_index bs 3)
      wrong (Add code) size low high = absurd (omega arith)
      wrong (Strike named) size low high =
          let none = ltb-false 0 (number_16 2 bs) e in
          let up = made_up_16 named.number in
          omega (arith, named.counted)

  wrong_add : (place : ℕ) → add_wrong bs ≡ Some place → FirstWrong job_form 2 5 bs place
  wrong_add place e = ⊎_elim
      (λ f. subst (FirstWrong job_form 2 5 bs) (sym f.1) (add_first f.0))
      (λ f. some_none place (sym f.1))
      (failed (slice_index bs 0 == 1) 0 None place e)

  wrong_strike : (place : ℕ) → strike_wrong bs ≡ Some place → FirstWrong job_form 2 4 bs place
  wrong_strike place e = ⊎_elim
      (λ f. subst (FirstWrong job_form 2 4 bs) (sym f.1) (strike_first f.0))
      (λ f.
      let first = eqb-true (slice_index bs 0) 2 f.0 in
      ⊎_elim
      (λ h. subst (FirstWrong job_form 2 4 bs) (sym h.1) (strike_poster first h.0))
      (λ h. ⊎_elim
      (λ j. subst (FirstWrong job_form 2 4 bs) (sym j.1) (strike_number first h.0 j.0))
      (λ j. some_none place (sym j.1))
      (failed (nat_lt 0 (number_16 2 bs)) 2 None place h.1))
      (failed (nat_lt (slice_index bs 1) 16) 1 _ place f.1))
      (failed (slice_index bs 0 == 2) 0 _ place e)

-- what is wrong with bytes of which the length is known
wrong_five : (bs : List ℕ) → length bs ≡ 5 → job_wrong bs ≡ add_wrong bs
wrong_five bs five = rw five refl

wrong_four : (bs : List ℕ) → length bs ≡ 4 → job_wrong bs ≡ strike_wrong bs
wrong_four bs four = rw four refl

job_first_wrong : (k : ℕ) (bs : List ℕ) (place : ℕ) → job_form.has_kind k ≡ true → job_form.has_length k (length bs) ≡ true
    → job_wrong bs ≡ Some place → FirstWrong job_form k (length bs) bs place
job_first_wrong k bs place e l wrong =
    subst (λ j. FirstWrong job_form j (length bs) bs place) (sym (eqb-true k 2 e))
    (⊎_elim
    (λ f.
    let four = eqb-true (length bs) 4 f in
    subst (λ n. FirstWrong job_form 2 n bs place) (sym four) (wrong_strike bs place (sym (wrong_four bs four) ∙ wrong)))
    (λ f.
    let five = eqb-true (length bs) 5 f in
    subst (λ n. FirstWrong job_form 2 n bs place) (sym five) (wrong_add bs place (sym (wrong_five bs five) ∙ wrong)))
    (or_cases (length bs == 4) (length bs == 5) l))

job_bytes_known : (k : ℕ) (bs : List ℕ) → ((i : ℕ) → slice_index bs i < 256) → job_form.has_kind k ≡ true → job_form.has_length k (length bs) ≡ true
    → job_wrong bs ≡ None → (b : Job) × (2 ≡ k) × (job_bytes b ≡ bs)
job_bytes_known k bs small e l right = ⊎_elim
    (λ f.
    let four = eqb-true (length bs) 4 f in
    let one = passed (slice_index bs 0 == 2) 0 _ (sym (wrong_four bs four) ∙ right) in
    let two = passed (nat_lt (slice_index bs 1) 16) 1 _ one.1 in
    let three = passed (nat_lt 0 (number_16 2 bs)) 2 _ two.1 in
    let id : LetterId = record { poster = slice_index bs 1; number = number_16 2 bs; seated = ltb-true _ 16 two.0; counted = ltb-true 0 _ three.0 } in
    (Strike id, sym (eqb-true k 2 e), strike_listed bs (slice_index bs 1) (number_16 2 bs) small four (eqb-true _ 2 one.0) refl refl))
    (λ f.
    let five = eqb-true (length bs) 5 f in
    let one = passed (slice_index bs 0 == 1) 0 _ (sym (wrong_five bs five) ∙ right) in
    (Add (number_32 1 bs), sym (eqb-true k 2 e), add_listed bs (number_32 1 bs) small five (eqb-true _ 1 one.0) refl))
    (or_cases (length bs == 4) (length bs == 5) l)

pub job_lawful : LawfulForm job_form
job_lawful = record {
  back = job_back;
  kind_right = λ b. refl;
  length_right = job_length;
  right = job_right;
  kind_known = λ k e. (Add 0, sym (eqb-true k 2 e));
  length_known = job_length_known;
  bytes_known = job_bytes_known;
  first_wrong = job_first_wrong;
  starts_back = λ k n. starts_at n n;
  near = λ k bs h. job_near bs;
  short = λ k. job_short;
}
