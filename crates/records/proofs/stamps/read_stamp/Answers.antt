use Rattle.std.proofs.Common.{◌*◌, rules, tests, arith}
use Rattle.letters.specs.Numbers.{number_16}
use Rattle.records.proofs.Entries.{written_all}
use Rattle.records.proofs.Made.{made_at}
use Rattle.records.proofs.stamps.read_stamp.Goals as goal

pub returns : goal.returns
returns c =
    let bs = c.args.bytes.now in
    let made = c.from_fn.ensures.items in
    written_all bs c.from_fn.result made.long c.requires (λ i. omega (arith, c.type_inv.bytes i))
    (λ k h. made_at _ _ (λ k. number_16 (2 * k) bs) c.from_fn.result (λ x y q call. search (rules, tests)) 16 0 made.each k (search rules) (search rules))
