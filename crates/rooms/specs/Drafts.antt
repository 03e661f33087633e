-- A room before it opens, and its opening.
use Rattle.std.specs.Prelude.{ℕ, ◌+◌, ◌*◌, Bool, not, ◌&&◌, ◌||◌, List, take, replicate, Ok, Result, ◌==◌, nat_eq, nat_le, nat_lt, slice_set}
use Rattle.std.specs.List.{list_any}
use Rattle.letters.specs.Order.{each_below}
use Rattle.letters.specs.Refusals.{Reason, unless}
use Rattle.carriers.specs.Meaning.{Meaning, waits_at}
use Rattle.seats.specs.Outcomes.{after_answer, answer_if}
use Rattle.seats.specs.Rooms.{RoomState, suffice}
use Rattle.seats.specs.Seats.{fresh}
use Rattle.rooms.specs.declared.draft.Draft.{Draft}

-- a draft by what it holds
pub record DraftState : Type 0 where
  pub number : ℕ
  pub quota : ℕ
  pub names : List ℕ
  pub count : ℕ

-- what a draft holds
abbrev pub state_of_draft : Draft → DraftState
state_of_draft d = record { number = d.terms.number; quota = d.terms.quota; names = d.terms.names; count = d.terms.count }

-- a room may have this quota
abbrev pub draft_check : ℕ → Result (Unit {0}) Reason
draft_check q = unless (nat_le 1 q && nat_le q 256) 1 (Ok tt)

-- a draft with nobody enrolled
abbrev pub state_of_new_draft : ℕ → ℕ → DraftState
state_of_new_draft number quota = record { number = number; quota = quota; names = replicate 16 0; count = 0 }

-- a list has a number
abbrev pub has_number : List ℕ → ℕ → Bool
has_number xs n = list_any (λ x. x == n) xs

-- the next seat may have this name
abbrev pub enrol_check : DraftState → ℕ → Result (Unit {0}) Reason
enrol_check d name =
    unless (not (name == 0 || has_number (take d.count d.names) name)) 2
    (unless (not (d.count == 16 || nat_lt 256 ((d.count + 1) * d.quota))) 3 (Ok tt))

-- enrolling answers the next seat
abbrev pub enrol_answer : DraftState → ℕ → Result ℕ Reason
enrol_answer d name = answer_if (enrol_check d name) d.count

-- and gives it the name
abbrev pub draft_with_name : DraftState → Result ℕ Reason → ℕ → DraftState
draft_with_name d answer name =
    after_answer answer (λ seat. record { number = d.number; quota = d.quota; names = slice_set d.names seat name; count = seat + 1 }) d

-- a room with every clock at zero, and no letter and no docket anywhere
abbrev pub opening_state : DraftState → RoomState
opening_state d = record { number = d.number; names = d.names; count = d.count; quota = d.quota; seats = replicate 16 fresh }

-- nothing waits at any of the first n seats
unfoldable pub no_letter_waits : {L : Type 0} → Meaning L → ℕ → Bool
no_letter_waits c n = each_below (λ s. nat_eq (waits_at c s) 0) n

-- a room may open with so many places in its tables, and with this carrier
abbrev pub open_check : {L : Type 0} → DraftState → ℕ → ℕ → Meaning L → Result (Unit {0}) Reason
open_check d logs holds c =
    unless (not (d.count == 0)) 4
    (unless (suffice (opening_state d) logs holds) 5
    (unless (c.seats == d.count) 6
    (unless (no_letter_waits c d.count) 7 (Ok tt))))
