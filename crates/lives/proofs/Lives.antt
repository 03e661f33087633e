-- A reachable room has a run of boxes behind it.
use Rattle.std.proofs.Common.{◌≡◌, ◌≤◌, ◌∷◌, map, length, sym, subst}
use Rattle.letters.specs.declared.letter.Letter.{Letter}
use Rattle.letters.specs.Letters.{letter_name}
use Rattle.causality.specs.History.{History, map_letters, posted_letters}
use Rattle.causality.specs.Runs.{Run}
use Rattle.seats.specs.Invariants.{RoomInvariant}
use Rattle.seats.specs.Rooms.{start}
use Rattle.seats.specs.declared.docket_id.DocketId.{DocketId}
use Rattle.lives.specs.declared.operation.Operation.{Operation}
use Rattle.lives.specs.Traces.{Answer, Posting, Trace, events, posting_of, postings, step_with_answer}
use Rattle.lives.specs.Reachability.{Configuration}
use Rattle.lives.proofs.Views.{view}

module _ {B : Type 0} where
  -- a letter as its poster gave it
  abbrev pub given : Letter B → Posting B
  given m = posting_of (letter_name m) m.body

  -- the run behind a room, which has the events and the posted letters of the trace
  pub record Lives (trace : Trace B) (w : Configuration B) : Type 0 where
    pub fit : RoomInvariant w.room
    pub logs : start w.room w.room.count ≤ length w.logs
    pub holds : start w.room w.room.count ≤ length w.holds
    pub past : History (Letter B)
    pub run : Run w.room.count w.room.quota (view w) past
    pub events_are : map_letters letter_name past ≡ events trace
    pub postings_are : map given (posted_letters past) ≡ postings trace

  module _ (trace : Trace B) (w : Configuration B) (operation : Operation B DocketId) (answer : Answer) where
    -- a step that was seen to lead to w
    pub arrives : (answer' : Answer) (w' : Configuration B) → answer' ≡ answer → w' ≡ w → Lives (step_with_answer operation answer ∷ trace) w → Lives (step_with_answer operation answer' ∷ trace) w'
    arrives answer' w' a e lives =
        subst (λ (u : Configuration B). Lives (step_with_answer operation answer' ∷ trace) u) (sym e)
        (subst (λ (b : Answer). Lives (step_with_answer operation b ∷ trace) w) (sym a) lives)
