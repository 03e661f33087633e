use Rattle.std.proofs.Common.{string_bytes, length}
use Rattle.records.specs.Readers.{bytes_ahead}
use Rattle.listing.proofs.Holding.{SoFar}
use Rattle.listing.proofs.add_held.Given as goal

abbrev pub invariant-loop-count : goal.invariant-loop-count
invariant-loop-count g l = SoFar g.B.Body.form g.met.B.Body.lawful g.B.Say.says l.fn.bytes l.fn.letters (string_bytes l.fn.lines) l.reader.index (bytes_ahead l.reader) l.count (string_bytes l.lines)

abbrev pub decreases-loop-count : goal.decreases-loop-count
decreases-loop-count g l = length (bytes_ahead l.reader)
