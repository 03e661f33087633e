use Rattle.std.proofs.Common.{◌≡◌, ◌*◌, length, take, drop}
use Rattle.records.specs.declared.record.TheConstants.{RECORD_SIZE}
use Rattle.records.specs.Files.{file_of}
use Rattle.records.proofs.file.fill_table.Given as goal

abbrev pub invariant-loop-index : goal.invariant-loop-index
invariant-loop-index g l =
    (length l.table ≡ length l.initial.table) × (file_of g.B.Body.form (take l.index l.table) ≡ take (RECORD_SIZE * l.index) l.bytes)
    × (drop l.index l.table ≡ drop l.index l.initial.table)
