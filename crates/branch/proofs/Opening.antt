-- The room of the program opens, and no seat but its own has a log.
use Rattle.std.proofs.Common.{◌≡◌, ℕ, zero, suc, ◌+◌, ◌-◌, ◌^◌, ◌≤◌, min, Bool, true, false, List, [], ◌++◌, length, Ok, Err, nat_lt, refl, sym, ap, ◌∙◌, add-one, append-nil, arith}
use Rattle.std.proofs.lemmas.Bool.{le-ltb}
use Rattle.letters.specs.declared.letter.Letter.{Letter}
use Rattle.letters.specs.Refusals.{Reason, unless}
use Rattle.carriers.specs.Meaning.{Empty, Meaning}
use Rattle.seats.specs.Outcomes.{answer_if}
use Rattle.seats.specs.Rooms.{RoomState, log_of, suffice}
use Rattle.rooms.specs.Drafts.{no_letter_waits, open_check}
use Rattle.rooms.specs.RoomReading.{log_answer}
use Rattle.rooms.proofs.Closing.{decides_quiet}
use Rattle.branch.specs.Sessions.{three_seats}
use Rattle.branch.specs.StepLines.{line_of, log_line, log_lines}

module _ {L : Type 0} (m : Meaning L) (empty : Empty m) where
  silent : no_letter_waits m 3 ≡ true
  silent = (decides_quiet m 3).1 (λ k lt. ap (λ l. min (length l) (2 ^ 32 - 1)) (empty k))

  -- with tables of 36 places, and with a carrier of three seats on which nothing waits
  pub opens : (logs holds : ℕ) → logs ≡ 36 → holds ≡ 36 → m.seats ≡ 3 → open_check three_seats logs holds m ≡ Ok tt
  opens logs holds e e' seats = rw silent (rw e (rw e' (rw seats refl)))

module _ {B : Type 0} (st : RoomState) (logs : List (Letter B)) (holds : ℕ) where
  -- the line of one seat more
  pub lines_more : (n : ℕ) (lines lines' : List ℕ) (log : List (Letter B)) → lines ≡ log_lines st logs holds n → Ok log ≡ log_answer st logs holds n
      → lines' ≡ lines ++ log_line n log → lines' ≡ log_lines st logs holds (n + 1)
  lines_more n lines lines' log so is added =
      added ∙ ap (λ l. l ++ log_line n log) so ∙ ap (λ a. log_lines st logs holds n ++ line_of n a) is ∙ ap (log_lines st logs holds) (sym (add-one n))

  pub lines_same : (n : ℕ) (lines lines' : List ℕ) (why : Reason) → lines ≡ log_lines st logs holds n → Err why ≡ log_answer st logs holds n
      → lines' ≡ lines → lines' ≡ log_lines st logs holds (n + 1)
  lines_same n lines lines' why so is same =
      same ∙ so ∙ sym (append-nil (log_lines st logs holds n)) ∙ ap (λ a. log_lines st logs holds n ++ line_of n a) is ∙ ap (log_lines st logs holds) (sym (add-one n))

  none_past : (n : ℕ) → st.count ≤ n → line_of n (log_answer st logs holds n) ≡ []
  none_past n past = so (suffice st (length logs) holds)
    where
      so : (enough : Bool) → line_of n (answer_if (unless enough 5 (unless (nat_lt n st.count) 8 (Ok tt))) (log_of st logs n)) ≡ []
      so true = rw (le-ltb n st.count past) refl
      so false = refl

  past_all : (k : ℕ) → log_lines st logs holds (st.count + k) ≡ log_lines st logs holds st.count
  past_all zero = let e : st.count + 0 ≡ st.count = omega arith in ap (log_lines st logs holds) e
  past_all (suc k) =
      let e : st.count + suc k ≡ suc (st.count + k) = omega arith in
      ap (log_lines st logs holds) e
      ∙ ap (λ l. log_lines st logs holds (st.count + k) ++ l) (none_past (st.count + k) (omega arith))
      ∙ append-nil (log_lines st logs holds (st.count + k))
      ∙ past_all k

  -- past the room's seats no line is added
  pub all_lines : (n : ℕ) (lines text : List ℕ) → text ≡ lines → lines ≡ log_lines st logs holds n → st.count ≤ n → text ≡ log_lines st logs holds st.count
  all_lines n lines text same so le =
      let e : n ≡ st.count + (n - st.count) = omega arith in
      same ∙ so ∙ ap (log_lines st logs holds) e ∙ past_all (n - st.count)
