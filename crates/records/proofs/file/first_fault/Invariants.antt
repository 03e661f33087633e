use Rattle.std.proofs.Common.{◌≡◌, ◌-◌}
use Rattle.std.specs.Slice.Iter.{chunks_rest, chunks_size}
use Rattle.records.specs.declared.record.TheConstants.{RECORD_SIZE}
use Rattle.records.specs.Files.{begun_records, fault_among, file_fault}
use Rattle.records.specs.Readers.{rest_of_file}
use Rattle.records.proofs.file.first_fault.Given as goal

-- the records so far are right, and what is left of the file is still to come
abbrev pub invariant-loop-index : goal.invariant-loop-index
invariant-loop-index g l =
    let index = l.index-iterator.count in
    (goal.iterator-loop-index g).can_next l.index-iterator
    × (goal.iterator-loop-index g).is_finite l.index-iterator
    × (chunks_rest l.index-iterator.iter ≡ rest_of_file l.bytes index)
    × (chunks_size l.index-iterator.iter ≡ RECORD_SIZE)
    × (fault_among g.B.Body.form l.bytes index (begun_records l.bytes - index) ≡ file_fault g.B.Body.form l.bytes)
