-- The lines that the program prints, as bytes.
use Rattle.std.specs.Prelude.{ℕ, zero, suc, List, [], ◌++◌, Ok, Err, Result, codes, decimal}
use Rattle.std.specs.List.{flat_map}
use Rattle.letters.specs.declared.letter.Letter.{Letter}
use Rattle.letters.specs.declared.refusal.Refusal.{Refusal}
use Rattle.letters.specs.Letters.{number_of}
use Rattle.letters.specs.Names.{name_text}
use Rattle.letters.specs.Refusals.{Reason, reason_of}
use Rattle.seats.specs.Rooms.{RoomState}
use Rattle.seats.specs.TakeTexts.{take_text}
use Rattle.rooms.specs.RoomReading.{log_answer}
use Rattle.branch.specs.declared.step.Call.{Call}
use Rattle.branch.specs.declared.step.Call.TheVariants as calls
use Rattle.branch.specs.declared.step.Step.{Step}
use Rattle.branch.specs.declared.outcome.Outcome.{Outcome}
use Rattle.branch.specs.declared.outcome.Outcome.TheVariants as outcomes

-- the name of a call
abbrev pub call_name : Call → List ℕ
call_name (calls.Post job) = codes "post"
call_name calls.Collect = codes "collect"
call_name (calls.Take place) = codes "take"
call_name calls.Show = codes "show"

-- its word in a line
abbrev pub call_word : Call → List ℕ
call_word call = codes " " ++ (call_name call ++ codes " ")

-- a step: its index, its call, and its seat as it is brought
abbrev pub step_head : ℕ → Step → List ℕ
step_head index step = decimal index ++ (call_word step.call ++ (decimal step.seat ++ codes " "))

-- its outcome in words
abbrev pub outcome_words : Outcome → List ℕ
outcome_words (outcomes.Sent d) = codes "sent " ++ name_text d.seat d.number
outcome_words (outcomes.Parked d why) = codes "parked " ++ name_text d.seat d.number
outcome_words (outcomes.Taken taken) = take_text taken
outcome_words (outcomes.Shown id) = codes "shown " ++ name_text id.poster id.number

abbrev pub outcome_says : Result Outcome Refusal → List ℕ
outcome_says (Ok outcome) = outcome_words outcome ++ codes "\n"
outcome_says (Err why) = codes "refused " ++ (decimal (reason_of why).number ++ codes "\n")

-- a step's line
abbrev pub step_line : ℕ → Step → Result Outcome Refusal → List ℕ
step_line index step outcome = step_head index step ++ outcome_says outcome

-- the line where no step can be read
abbrev pub bad_line : ℕ → List ℕ
bad_line index = decimal index ++ codes " bad\n"

-- a letter of a log
abbrev pub after_space : {B : Type 0} → Letter B → List ℕ
after_space m = codes " " ++ name_text m.poster (number_of m)

-- a log's line: its seat, and the names of its letters
abbrev pub log_line : {B : Type 0} → ℕ → List (Letter B) → List ℕ
log_line seat log = codes "log " ++ (decimal seat ++ (flat_map after_space log ++ codes "\n"))

-- the line of a log that was asked for; none where there is no such log
abbrev pub line_of : {B : Type 0} → ℕ → Result (List (Letter B)) Reason → List ℕ
line_of seat (Ok log) = log_line seat log
line_of seat (Err why) = []

-- the lines of the logs of the first n seats of a room
abbrev pub log_lines : {B : Type 0} → RoomState → List (Letter B) → ℕ → ℕ → List ℕ
log_lines st logs holds zero = []
log_lines st logs holds (suc n) = log_lines st logs holds n ++ line_of n (log_answer st logs holds n)
