use Rattle.std.proofs.Common.{◌≡◌, ℕ, ◌/◌, ◌%◌, length, slice_index, sym, ◌∙◌, arith, rules, tests}
use Rattle.std.proofs.lemmas.List.{same_lists}
use Rattle.std.proofs.lemmas.Grind.{get_or_default_zero}
use Rattle.records.specs.declared.stamps.TheConstants.{STAMP_SIZE}
use Rattle.letters.specs.Numbers.{bytes_of_16}
use Rattle.records.proofs.Entries.{byte_written, length_written, written}
use Rattle.records.proofs.Made.{made_at}
use Rattle.records.proofs.stamps.write_stamp.Goals as goal

pub returns : goal.returns
returns c =
    let entries = c.args.stamp.now.entries in
    let made = c.from_fn.ensures.items in
    let sixteen : length entries ≡ 16 = search rules in
    let long = length_written entries in
    let h : ℕ → ℕ = λ i. slice_index (bytes_of_16 (slice_index entries (i / 2))) (i % 2) in
    let at = made_at _ _ h c.from_fn.result (λ x y q call. search (rules, tests)) STAMP_SIZE 0 made.each in
    same_lists c.from_fn.result (written entries) (omega (arith, made.long)) (λ k d lt.
    get_or_default_zero c.from_fn.result k d lt ∙ at k (omega arith) (omega (arith, made.long))
    ∙ sym (byte_written entries k (omega (arith, made.long)))
    ∙ sym (get_or_default_zero (written entries) k d (omega (arith, made.long))))
