use Rattle.std.proofs.Common.{◌≡◌, length, ap, ◌∙◌, rules}
use Rattle.carriers.specs.Lines.{lines_of}
use Rattle.rooms.specs.Drafts.{DraftState, draft_with_name, enrol_answer, open_check, state_of_draft}
use Rattle.branch.specs.Sessions.{three_seats}
use Rattle.branch.proofs.Opening.{opens}
use Rattle.branch.proofs.open_room.Goals as goal

pub open-room-requires : goal.open-room-requires
open-room-requires c =
    let next = λ (name : _) (d : DraftState). draft_with_name d (enrol_answer d name) name in
    let draft : state_of_draft c.enrol-3.new.self ≡ three_seats =
    c.enrol-3.ensures.draft ∙ ap (next 3) (c.enrol-2.ensures.draft ∙ ap (next 2) (c.enrol.ensures.draft ∙ ap (next 1) c.new-draft.ensures)) in
    let lines = c.new-carrier.ensures in
    let enough : length c.args.logs.now ≡ 36 = search rules in
    let enough' : length c.args.holds.now ≡ 36 = search rules in
    ap (λ d. open_check d (length c.args.logs.now) (length c.args.holds.now) (lines_of c.new-carrier.result)) draft
    ∙ opens (lines_of c.new-carrier.result) lines.empty _ _ enough enough' lines.seats
