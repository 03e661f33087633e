-- A draft that can be run: what its check has tested, and that the room is one as it opens.
use Rattle.std.proofs.Common.{◌≡◌, ℕ, ◌<◌, ◌≤◌, true, List, length, Ok, refl, arith}
use Rattle.std.proofs.lemmas.Bool.Decides.{nat_tests}
use Rattle.letters.specs.declared.letter.Letter.{Letter}
use Rattle.carriers.specs.Meaning.{LawfulMeaning, Meaning, waits_at}
use Rattle.seats.specs.Rooms.{start}
use Rattle.lives.specs.Reachability.{InitialConfiguration, configuration_of}
use Rattle.lives.proofs.Following.{nothing_waits}
use Rattle.rooms.specs.declared.draft.Draft.{Draft}
use Rattle.rooms.specs.Drafts.{DraftState, no_letter_waits, open_check, opening_state, state_of_draft}
use Rattle.rooms.specs.Running.{run_check}
use Rattle.rooms.proofs.Closing.{decides_quiet}

-- what the check of a run has tested
pub record Runnable {L : Type 0} (d : DraftState) (logs holds : ℕ) (c : Meaning L) (steps responses : ℕ) : Type 0 where
  pub answered : steps ≤ responses
  pub opens : open_check d logs holds c ≡ Ok tt
  pub some_seats : 1 ≤ d.count
  pub logs_long : start (opening_state d) d.count ≤ logs
  pub holds_long : start (opening_state d) d.count ≤ holds
  pub served : c.seats ≡ d.count
  pub silent : no_letter_waits c d.count ≡ true

pub runnable : {L : Type 0} (d : DraftState) (logs holds : ℕ) (c : Meaning L) (steps responses : ℕ) → run_check d logs holds c steps responses ≡ Ok tt
    → Runnable d logs holds c steps responses
runnable d logs holds c steps responses can = record {
  answered = grind (arith, nat_tests);
  opens = grind (arith, nat_tests);
  some_seats = grind (arith, nat_tests);
  logs_long = grind (arith, nat_tests);
  holds_long = grind (arith, nat_tests);
  served = grind (arith, nat_tests);
  silent = grind (arith, nat_tests);
}

module _ {B : Type 0} (d : Draft) (logs holds : List (Letter B)) (c : Meaning (Letter B)) (laws : LawfulMeaning c) (steps responses : ℕ)
    (can : Runnable (state_of_draft d) (length logs) (length holds) c steps responses) where
  silent_seat : (k : ℕ) → k < c.seats → waits_at c k ≡ 0
  silent_seat k lt = (decides_quiet c d.terms.count).0 can.silent k (omega (arith, can.served))

  -- the room as the draft opens it
  pub as_opened : InitialConfiguration (configuration_of (opening_state (state_of_draft d)) logs holds c)
  as_opened = record {
    some_seats = can.some_seats;
    few_seats = d.terms.few;
    some_quota = d.terms.quotaed;
    few_letters = d.terms.small;
    seats = refl;
    logs = can.logs_long;
    holds = can.holds_long;
    served = can.served;
    lawful = laws;
    empty = nothing_waits c laws silent_seat;
  }
