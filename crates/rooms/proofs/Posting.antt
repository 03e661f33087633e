-- What an accepted post answers and leaves.
use Rattle.std.proofs.Common.{◌≡◌, ℕ, List, length, set, Ok, ap, ◌∙◌, subst}
use Rattle.letters.specs.declared.letter.Letter.{Letter}
use Rattle.letters.specs.declared.stamp.Stamp.{Stamp}
use Rattle.letters.specs.Letters.{parts, parts_of}
use Rattle.seats.specs.Outcomes.{PostLogs, answer_if, newest_docket, post_answer, post_check, room_with_post, seat_with_post}
use Rattle.seats.specs.Rooms.{RoomState, foot, seat_at}

module _ (st : RoomState) (logs holds s : ℕ) (can : Ok tt ≡ post_check st logs holds s) where
  accepted : Ok (newest_docket (room_with_post st s) s) ≡ post_answer st logs holds s
  accepted = ap (λ k. answer_if k (newest_docket (room_with_post st s) s)) can

module _ {B : Type 0} (st : RoomState) (holds s : ℕ) (body : B) (logs logs' : List (Letter B)) (can : Ok tt ≡ post_check st (length logs) holds s) where
  pub post_logged : (i : ℕ) (stamp : Stamp) (m : Letter B) → logs' ≡ set logs i m → i ≡ foot st s → stamp ≡ (seat_with_post (seat_at st s) s).clock → parts_of m ≡ parts stamp s body
      → PostLogs st (post_answer st (length logs) holds s) s body logs logs'
  post_logged i stamp m table at clock made =
      subst (λ k. PostLogs st k s body logs logs') (accepted st (length logs) holds s can) (record {
        letter = m;
        made = made ∙ ap (λ t. parts t s body) clock;
        table = table ∙ ap (λ k. set logs k m) at;
      })
