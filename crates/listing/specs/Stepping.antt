-- What one turn of a listing does with its reader, and the line that it adds.
use Rattle.std.specs.Prelude.{◌≡◌, ℕ, List, IfOk, Option, Result}
use Rattle.letters.specs.declared.parts.Parts.{Parts}
use Rattle.letters.specs.Forms.{Form}
use Rattle.records.specs.declared.fault.Fault.{Fault}
use Rattle.records.specs.declared.reader.Reader.{Reader}
use Rattle.records.specs.Readers.{NextRead, bytes_ahead, finding_of}
use Rattle.listing.specs.ListingLines.{record_line}

-- the reader's `next` was called once, also where memory ran out afterwards; its answer is the one in the line
pub record AskedOnce {B E : Type 0} (form : Form B) (before after : Reader B) (old new : Parts B) (result : Result (Result (Option ℕ) Fault) E) : Type 0 where
  pub read : Result (Option ℕ) Fault
  pub reads : NextRead form before after old new read
  pub answer : IfOk result (λ r. r ≡ read)

-- the line of what the reader has next, under an index: of a letter or of a fault, or nothing at the end
abbrev pub next_line : {B : Type 0} → Form B → (B → List ℕ) → ℕ → Reader B → List ℕ
next_line form says index reader = record_line form says index (bytes_ahead reader) (finding_of form (bytes_ahead reader))
