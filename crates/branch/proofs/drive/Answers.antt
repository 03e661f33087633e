use Rattle.std.proofs.Common.{◌≡◌, length, take, string_bytes, sym, ◌∙◌, arith, rules}
use Rattle.branch.specs.Driving.{SessionEffect}
use Rattle.chunks.proofs.Filling.{full_or_end}
use Rattle.branch.proofs.Pieces.{at_end, begun, not_err, on}
use Rattle.branch.proofs.drive.Goals.{then-is_err-via-then-is_err, then-is_err-via-else-is_err+then-read-lt-CHUNK}
use Rattle.branch.proofs.drive.Goals as goal

pub loop-init : goal.loop-init
loop-init g c = begun (SessionEffect g.C.Carrier) (g.R.Read.remaining c.args.input.now) (g.W.Write.contents c.args.output.now) c.args.session.now

pub loop-preserved : goal.loop-preserved
loop-preserved g c =
    on (SessionEffect g.C.Carrier) (g.R.Read.remaining c.args.input.now) (g.R.Read.remaining c.loop.input) (g.R.Read.remaining c.fill.new.input)
    (g.W.Write.contents c.args.output.now) (g.W.Write.contents c.loop.output) _ c.args.session.now c.loop.session _
    c.loop.index c.make_steps.new.index (take c.in_ok-read.read c.fill.new.chunk) (string_bytes c.make_steps.new.lines) c.as_bytes.result.now (string_bytes c.clear.new.self)
    c.in_ok-read.ensures.filled.read c.clear.ensures.bytes c.as_bytes.ensures.value c.in_ok-write_all.ensures.bytes
    c.in_ok-made.made (sym c.is_err.ensures.value ∙ c.if-is_err.false) c.in_ok-made.ensures c.loop.invariant

pub returns-then-is_err : goal.returns-then-is_err
returns-then-is_err g c =
    let size : length c.fill.new.chunk ≡ 512 = search rules in
    let left = g.R.Read.remaining c.loop.input in
    let left' = g.R.Read.remaining c.fill.new.input in
    let chunk = c.fill.new.chunk in
    let n = c.in_ok-read.read in
    at_end (SessionEffect g.C.Carrier) (g.R.Read.remaining c.args.input.now) left left'
    (g.W.Write.contents c.args.output.now) (g.W.Write.contents c.loop.output) _ c.args.session.now c.loop.session _
    c.loop.index c.make_steps.new.index (take n chunk) (string_bytes c.make_steps.new.lines) c.as_bytes.result.now (string_bytes c.clear.new.self)
    c.in_ok-read.ensures.filled.read c.clear.ensures.bytes c.as_bytes.ensures.value c.in_ok-write_all.ensures.bytes
    c.in_ok-made.made c.in_ok-made.ensures
    (full_or_end left left' chunk n 512 size c.in_ok-read.ensures.filled)
    (λ e. elim c.then-is_err.branch [
      | then-is_err-via-then-is_err w ↦ absurd (not_err c.in_ok-made.made e (sym c.is_err.ensures.value ∙ w.if-is_err.true))
      | then-is_err-via-else-is_err+then-read-lt-CHUNK w ↦ c.in_ok-read.ensures.filled.short (let a = w.if-read-lt-CHUNK.true in omega arith)
    ])
    c.loop.invariant
