use Rattle.std.proofs.Common.{◌≡◌, ◌*◌, length, take, string_bytes, sym, ◌∙◌, subst, arith, rules}
use Rattle.std.specs.Io.KnownBytes.{Appends}
use Rattle.records.specs.declared.record.TheConstants.{RECORD_SIZE}
use Rattle.chunks.proofs.Filling.{full_or_end}
use Rattle.listing.proofs.Pieces.{at_last, nothing_yet, on, when_ok}
use Rattle.listing.proofs.list.Goals.{then-is_err-via-then-is_err, then-is_err-via-else-is_err+then-read-lt-CHUNK}
use Rattle.listing.proofs.list.Goals as goal

pub loop-init : goal.loop-init
loop-init g c = nothing_yet g.B.Body.form g.met.B.Body.lawful g.B.Say.says (g.R.Read.remaining c.args.input.now) (g.W.Write.contents c.args.output.now)

pub loop-preserved : goal.loop-preserved
loop-preserved g c =
    let now = g.W.Write.contents c.loop.output in
    let now' = g.W.Write.contents c.write_all-in-loop.new.self in
    on g.B.Body.form g.met.B.Body.lawful g.B.Say.says (g.R.Read.remaining c.loop.input) (g.R.Read.remaining c.fill.new.input) (g.W.Write.contents c.args.output.now) now now'
    c.loop.letters c.add_held.new.letters (take c.in_ok-read.read c.fill.new.chunk) (string_bytes c.clear.new.self) (string_bytes c.add_held.new.lines)
    c.in_ok-read.ensures.filled.read c.clear.ensures.bytes (g.R.Read.remaining c.args.input.now) c.in_ok-listed.listed
    (sym c.is_err.ensures.value ∙ c.if-is_err.false) c.in_ok-listed.ensures (subst (Appends now now') c.as_bytes-in-loop.ensures.value c.in_ok-write_all.ensures.bytes)
    c.loop.invariant

pub returns-then-is_err : goal.returns-then-is_err
returns-then-is_err g c =
    let size : length c.fill.new.chunk ≡ RECORD_SIZE * 64 = search rules in
    let left = g.R.Read.remaining c.loop.input in
    let left' = g.R.Read.remaining c.fill.new.input in
    let chunk = c.fill.new.chunk in
    let n = c.in_ok-read.read in
    let now = g.W.Write.contents c.loop.output in
    let now' = g.W.Write.contents c.write_all.new.self in
    when_ok c.write_all.result c.write_all.ensures.bytes
    (λ wrote.
    at_last g.B.Body.form g.met.B.Body.lawful g.B.Say.says left left' (g.W.Write.contents c.args.output.now) now now'
    c.loop.letters c.add_held.new.letters (take n chunk) (string_bytes c.clear.new.self) (string_bytes c.add_held.new.lines)
    c.in_ok-read.ensures.filled.read c.clear.ensures.bytes (g.R.Read.remaining c.args.input.now) c.in_ok-listed.listed
    c.in_ok-listed.ensures (subst (Appends now now') (c.as_bytes.ensures.value ∙ c.in_ok-add_count.ensures) wrote)
    (λ good. elim c.then-is_err.branch [
      | then-is_err-via-then-is_err w ↦ absurd (let e = sym good ∙ sym c.is_err.ensures.value ∙ w.if-is_err.true in cc)
      | then-is_err-via-else-is_err+then-read-lt-CHUNK w ↦ c.in_ok-read.ensures.filled.short (let a = w.if-read-lt-CHUNK.true in omega arith)
    ])
    64 (full_or_end left left' chunk n (RECORD_SIZE * 64) size c.in_ok-read.ensures.filled) c.loop.invariant)
