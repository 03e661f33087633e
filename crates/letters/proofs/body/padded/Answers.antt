use Rattle.std.proofs.Common.{length, drop, replicate, take, ◌++◌, ap, ◌∙◌}
use Rattle.std.proofs.lemmas.List.{take_min}
use Rattle.letters.specs.declared.body.TheConstants.{BODY_SPACE}
use Rattle.letters.specs.Numbers.{padded}
use Rattle.letters.specs.NumbersLemmas.{laid}
use Rattle.letters.proofs.body.padded.Goals as goal

pub returns : goal.returns
returns c =
    let front = c.args.front.now in
    let kept = take c.min.result front in
    ap (λ l. l ++ drop (length kept) (replicate BODY_SPACE 0)) c.copy_from_slice.ensures.after
    ∙ laid BODY_SPACE kept
    ∙ ap (padded BODY_SPACE) (ap (λ n. take n front) c.min.ensures ∙ take_min BODY_SPACE front)
