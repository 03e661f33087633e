-- What the tests of a scan decide of a letter's readiness.
use Rattle.std.proofs.Common.{◌≡◌, ℕ, ◌+◌, ◌<◌, ◌≤◌, true, false, List, length, get_or, Some, None, Option, Bor, Iter, sym, ap, ◌∙◌, subst, ⊎_elim, arith}
use Rattle.std.specs.Iterator.{Yields}
use Rattle.std.specs.Iterator.Adapters.{enumerate_steps}
use Rattle.std.specs.List.{enumerate_from, zip}
use Rattle.std.specs.declared.iter.Enumerate.{Enumerate}
use Rattle.std.specs.declared.iter.Zip.{Zip}
use Rattle.std.proofs.iter.Yields.{fronts}
use Rattle.std.proofs.lemmas.Iterator.{YieldsList, YieldsList-from_slice, YieldsList-from_zip, zips}
use Rattle.std.proofs.lemmas.Iterator.Consumers.{YieldsList-from_enumerate, YieldsList-turn, YieldsList-end}
use Rattle.std.proofs.lemmas.List.{get_or_default, get_or_past}
use Rattle.std.proofs.lemmas.List.FromFn.{length-enumerate_from, get_or-enumerate_from}
use Rattle.std.proofs.lemmas.Slice.Zip.{length-zip, get_or-zip}
use Rattle.std.proofs.lemmas.Bool.{cases_Bool, cases_lt}
use Rattle.std.proofs.lemmas.Bool.Decides.{nat_tests}
use Rattle.letters.specs.declared.letter.Letter.{Letter}
use Rattle.letters.specs.declared.stamp.Stamp.{Stamp}
use Rattle.letters.specs.Letters.{entry_at}
use Rattle.letters.specs.Order.{all_known, ready}
use Rattle.seats.specs.Scans.{due}
use Rattle.letters.proofs.Readiness.{decides_all_known}

-- the entries of two stamps, seat by seat, each pair with its seat
abbrev entry_pairs : Stamp → Stamp → List (ℕ × (ℕ × ℕ))
entry_pairs stamp clock = enumerate_from 0 (zip stamp.entries clock.entries)

-- there is a pair for each seat
length-entry_pairs : (stamp clock : Stamp) → length stamp.entries ≡ 16 → length clock.entries ≡ 16 → length (entry_pairs stamp clock) ≡ 16
length-entry_pairs stamp clock sized long =
    omega (arith, length-enumerate_from 0 (zip stamp.entries clock.entries), length-zip stamp.entries clock.entries)

-- the pair at a place is of the seat with this number, and of its two entries
pub record PairOf (stamp clock : Stamp) (k : ℕ) (e : ℕ × (ℕ × ℕ)) : Type 0 where
  pub seat : e.0 ≡ k
  pub stamped : e.1.0 ≡ entry_at stamp k
  pub shown : e.1.1 ≡ entry_at clock k

pair_at : (stamp clock : Stamp) (k : ℕ) (e : ℕ × (ℕ × ℕ)) → length stamp.entries ≡ 16 → length clock.entries ≡ 16
    → k < length (entry_pairs stamp clock) → e ≡ get_or (entry_pairs stamp clock) k e → PairOf stamp clock k e
pair_at stamp clock k e sized long lt is =
    let few = length-entry_pairs stamp clock sized long in
    let both = length-zip stamp.entries clock.entries in
    let at : e ≡ (0 + k, (get_or stamp.entries k e.1.0, get_or clock.entries k e.1.1)) =
    is
    ∙ get_or-enumerate_from 0 (zip stamp.entries clock.entries) k e (omega arith)
    ∙ ap (λ (x : ℕ × ℕ). (0 + k, x)) (get_or-zip stamp.entries clock.entries k e.1 (omega arith) (omega arith)) in
    record {
      seat = ap (λ x. x.0) at ∙ omega arith;
      stamped = ap (λ x. x.1.0) at ∙ get_or_default stamp.entries k _ 0 (omega arith);
      shown = ap (λ x. x.1.1) at ∙ get_or_default clock.entries k _ 0 (omega arith);
    }

-- a loop over the pairs
abbrev Pairs : Type 0
Pairs = Enumerate (Zip (Iter ℕ) (Iter ℕ))

abbrev Gives : Pairs → Option (ℕ × (Bor ℕ × Bor ℕ)) → Pairs → Type 0
Gives = enumerate_steps (zips fronts fronts)

abbrev numbers : ℕ × (Bor ℕ × Bor ℕ) → ℕ × (ℕ × ℕ)
numbers x = (x.0, (x.1.0.now, x.1.1.now))

module _ (stamp clock : Stamp) (sized : length stamp.entries ≡ 16) (long : length clock.entries ≡ 16)
    (s : Pairs) (stamped : s.iter.a.rest.now ≡ stamp.entries) (shown : s.iter.b.rest.now ≡ clock.entries) (none : s.count ≡ 0)
    (xs : List (ℕ × (Bor ℕ × Bor ℕ))) (t : Pairs) (so_far : Yields Gives s xs t) (r : Option (ℕ × (Bor ℕ × Bor ℕ))) (u : Pairs) (step : Gives t r u) where
  given : YieldsList Gives numbers s (entry_pairs stamp clock)
  given = YieldsList-from_enumerate (YieldsList-from_zip (YieldsList-from_slice stamp.entries stamped) (YieldsList-from_slice clock.entries shown)) none

  -- each turn of the loop has the next pair
  pub pair_turn : (x : ℕ × (Bor ℕ × Bor ℕ)) → r ≡ Some x → PairOf stamp clock (length xs) (numbers x)
  pair_turn x is =
      let turn = YieldsList-turn given xs t so_far r u x is step in
      pair_at stamp clock (length xs) (numbers x) sized long turn.0 turn.1

  -- and after the last one each seat was looked at
  pub pairs_end : r ≡ None → length xs ≡ 16
  pairs_end is = (YieldsList-end given xs t so_far r u is step).1 ∙ length-entry_pairs stamp clock sized long

module _ {B : Type 0} (n q s : ℕ) (clock : Stamp) (m : Letter B) where
  -- each of the first k entries but the poster's is known
  abbrev pub KnownBelow : ℕ → Type 0
  KnownBelow k = (p : ℕ) → p < k → ¬ (p ≡ m.poster) → entry_at m.stamp p ≤ entry_at clock p

  -- and with one more entry that is known or the poster's, the first k + 1
  pub known_more : (k : ℕ) → KnownBelow k → (¬ (k ≡ m.poster) → entry_at m.stamp k ≤ entry_at clock k) → KnownBelow (k + 1)
  known_more k known new p lt other = ⊎_elim
      (λ below. known p below other)
      (λ past.
      let is : k ≡ p = omega arith in
      let P : ℕ → Type 0 = λ i. entry_at m.stamp i ≤ entry_at clock i in
      subst P is (new (λ e. other (sym is ∙ e)))) (cases_lt p k)

  pub too_early : (p : ℕ) → ¬ (p ≡ m.poster) → entry_at clock p < entry_at m.stamp p → ready n q s clock m ≡ false
  too_early p other late =
      let no' : all_known clock m ≡ false = ⊎_elim (λ yes'. let fits = (decides_all_known clock m).0 yes' p other in absurd (omega arith)) (λ h. h) (cases_Bool (all_known clock m)) in
      grind (arith, nat_tests)

  all_from : KnownBelow 16 → (p : ℕ) → ¬ (p ≡ m.poster) → entry_at m.stamp p ≤ entry_at clock p
  all_from known p other = ⊎_elim
      (λ below. known p below other)
      (λ past. omega (arith, get_or_past m.stamp.entries p 0 (omega (arith, m.sized)))) (cases_lt p 16)

  pub is_ready : due n q s clock m ≡ true → KnownBelow 16 → ready n q s clock m ≡ true
  is_ready yes' known = let all = (decides_all_known clock m).1 (all_from known) in grind (arith, nat_tests)
