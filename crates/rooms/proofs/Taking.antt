-- What an accepted take draws, and what it leaves.
use Rattle.std.proofs.Common.{◌≡◌, ℕ, ◌<◌, List, map, length, get_or, Ok, Result, ap, ◌∙◌, subst, arith}
use Rattle.std.proofs.lemmas.List.{get_or-map}
use Rattle.std.proofs.lemmas.Bool.Decides.{nat_tests}
use Rattle.letters.specs.declared.letter.Letter.{Letter}
use Rattle.letters.specs.declared.parts.Parts.{Parts}
use Rattle.letters.specs.Letters.{letter_check, parts_of}
use Rattle.letters.specs.Names.{Name}
use Rattle.letters.specs.Refusals.{Reason}
use Rattle.letters.proofs.Passing.{letter_passes}
use Rattle.carriers.specs.Meaning.{Meaning, draw_answer}
use Rattle.seats.specs.Outcomes.{TakeAccepted, TakeKind, TakeLeaves, answer_then, carrier_check, take_check}
use Rattle.seats.specs.Rooms.{RoomState}

-- a letter that is drawn by its parts
module _ {B : Type 0} (c : Meaning (Letter B)) (s place : ℕ) (spare : Letter B) (lent p : Parts B)
    (drawn : Ok tt ≡ draw_answer c s place) (filled : p ≡ get_or (map parts_of (c.waiting s)) place lent) where
  there : place < length (c.waiting s)
  there = grind (arith, nat_tests)

  drawn_parts : p ≡ parts_of (get_or (c.waiting s) place spare)
  drawn_parts = filled ∙ get_or-map parts_of (c.waiting s) place spare lent there

  pub drawn_can_be : letter_check p ≡ Ok tt
  drawn_can_be = ap letter_check drawn_parts ∙ letter_passes (get_or (c.waiting s) place spare)

-- an accepted take, put together
pub took : {B : Type 0} (st : RoomState) (logs : ℕ) (holds : List (Letter B)) (c : Meaning (Letter B)) (s place : ℕ) (r : Result (TakeKind × Name) Reason) (st' : RoomState) (holds' : List (Letter B)) (c' : Meaning (Letter B))
    → Ok tt ≡ carrier_check st logs (length holds) c.seats → Ok tt ≡ draw_answer c s place → TakeAccepted st holds c s place r st' holds' c'
    → TakeLeaves (take_check st logs (length holds) c s place) st holds c s place r st' holds' c'
took st logs holds c s place r st' holds' c' can drawn t =
    subst (λ k. TakeLeaves k st holds c s place r st' holds' c') (drawn ∙ ap (λ k. answer_then k (draw_answer c s place)) can) t
