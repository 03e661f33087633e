use Rattle.std.proofs.Common.{◌≡◌, ◌*◌, ◌++◌, length, take, drop}
use Rattle.records.specs.declared.record.TheConstants.{RECORD_SIZE}
use Rattle.records.specs.Files.{file_of}
use Rattle.records.proofs.file.write_all.Given as goal

abbrev pub invariant-loop-index : goal.invariant-loop-index
invariant-loop-index g l =
    (length l.out ≡ length l.initial.out)
    × (l.out ≡ file_of g.B.Body.form (take l.index l.letters) ++ drop (RECORD_SIZE * l.index) l.initial.out)
