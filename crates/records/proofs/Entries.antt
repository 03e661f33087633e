-- A stamp's bytes, one entry after another.
use Rattle.std.proofs.Common.{◌≡◌, ℕ, zero, suc, ◌+◌, ◌*◌, ◌/◌, ◌%◌, ◌<◌, ◌≤◌, List, [], ◌∷◌, ◌++◌, length, get_or, take, sym, refl, ap, ◌∙◌, append_assoc, arith}
use Rattle.std.specs.List.{flat_map}
use Rattle.std.proofs.lemmas.List.{flat_map_more, get_or-take, length-take-le, take_more, take_all}
use Rattle.records.specs.declared.stamps.TheConstants.{STAMP_SIZE}
use Rattle.letters.specs.Numbers.{bytes_of_16, number_16}
use Rattle.letters.specs.NumbersLemmas.{bytes_of_16_back, made_up_16}
use Rattle.records.specs.Records.{paired}

-- the bytes of a list of entries
abbrev pub written : List ℕ → List ℕ
written entries = flat_map bytes_of_16 entries

pub length_written : (entries : List ℕ) → length (written entries) ≡ 2 * length entries
length_written [] = refl
length_written (n ∷ entries) = omega (arith, length_written entries)

-- reading undoes writing
pub paired_written : (entries : List ℕ) → paired (written entries) ≡ entries
paired_written [] = refl
paired_written (n ∷ entries) =
    let here = made_up_16 n in
    let later = paired_written entries in cc

-- one entry more is written
pub written_more : (entries : List ℕ) (k : ℕ) → k < length entries
    → written (take (k + 1) entries) ≡ written (take k entries) ++ bytes_of_16 (get_or entries k 0)
written_more entries k h =
    ap written (take_more entries k 0 h) ∙ sym (flat_map_more bytes_of_16 [] (take k entries) (get_or entries k 0))

-- entries that are the numbers of the pairs of bytes at the front
module _ (bs entries : List ℕ) (long : length entries ≡ 16) (room : STAMP_SIZE ≤ length bs) (small : (i : ℕ) → get_or bs i 0 < 256)
    (each : (k : ℕ) → k < 16 → get_or entries k 0 ≡ number_16 (2 * k) bs) where
  written_front : (k : ℕ) → k ≤ 16 → written (take k entries) ≡ take (2 * k) bs
  written_front zero h = refl
  written_front (suc k) h =
      let n : ℕ = 2 * k in
      let next : suc k ≡ k + 1 = omega arith in
      let back : bytes_of_16 (get_or entries k 0) ≡ get_or bs n 0 ∷ get_or bs (n + 1) 0 ∷ [] =
      ap bytes_of_16 (each k (omega arith)) ∙ bytes_of_16_back (get_or bs n 0) (get_or bs (n + 1) 0) (small n) in
      let place : 2 * suc k ≡ n + 1 + 1 = omega arith in
      let two : take (n + 1 + 1) bs ≡ (take n bs ++ (get_or bs n 0 ∷ [])) ++ (get_or bs (n + 1) 0 ∷ []) =
      take_more bs (n + 1) 0 (omega arith) ∙ ap (λ front. front ++ (get_or bs (n + 1) 0 ∷ [])) (take_more bs n 0 (omega arith)) in
      let apart = append_assoc (take n bs) (get_or bs n 0 ∷ []) (get_or bs (n + 1) 0 ∷ []) in
      let before = written_front k (omega arith) in
      let more : written (take (suc k) entries) ≡ written (take k entries) ++ bytes_of_16 (get_or entries k 0) =
      ap (λ j. written (take j entries)) next ∙ written_more entries k (omega arith) in
      cc

  pub written_all : written entries ≡ take STAMP_SIZE bs
  written_all = sym (ap written (take_all 16 entries (omega arith))) ∙ written_front 16 (omega arith)

-- each byte is one of its entry's two
pub byte_written : (entries : List ℕ) (i : ℕ) → i < 2 * length entries
    → get_or (written entries) i 0 ≡ get_or (bytes_of_16 (get_or entries (i / 2) 0)) (i % 2) 0
byte_written [] i h = absurd (omega arith)
byte_written (n ∷ entries) zero h = refl
byte_written (n ∷ entries) (suc zero) h = refl
byte_written (n ∷ entries) (suc (suc i)) h =
    let half : suc (suc i) / 2 ≡ suc (i / 2) = omega arith in
    let side : suc (suc i) % 2 ≡ i % 2 = omega arith in
    byte_written entries i (omega arith)
    ∙ sym (ap (λ j. get_or (bytes_of_16 (get_or (n ∷ entries) j 0)) (suc (suc i) % 2) 0) half
    ∙ ap (λ j. get_or (bytes_of_16 (get_or entries (i / 2) 0)) j 0) side)

-- the number that stands in the bytes for a seat is the seat's entry
pub number_written : (entries : List ℕ) (k : ℕ) → k < length entries → number_16 (2 * k) (written entries) ≡ get_or entries k 0
number_written [] k h = absurd (omega arith)
number_written (n ∷ entries) zero h = omega arith
number_written (n ∷ entries) (suc k) h =
    let bs : List ℕ = written entries in
    let low : 2 * suc k ≡ suc (suc (2 * k)) = omega arith in
    let high : 2 * suc k + 1 ≡ suc (suc (2 * k + 1)) = omega arith in
    let at_low : get_or (n % 256 ∷ n / 256 ∷ bs) (2 * suc k) 0 ≡ get_or bs (2 * k) 0 = ap (λ p. get_or (n % 256 ∷ n / 256 ∷ bs) p 0) low in
    let at_high : get_or (n % 256 ∷ n / 256 ∷ bs) (2 * suc k + 1) 0 ≡ get_or bs (2 * k + 1) 0 = ap (λ p. get_or (n % 256 ∷ n / 256 ∷ bs) p 0) high in
    let later = number_written entries k (omega arith) in
    omega arith

-- and so in a record that begins with these bytes
pub number_front : (entries bs : List ℕ) (k : ℕ) → written entries ≡ take STAMP_SIZE bs → STAMP_SIZE ≤ length bs → k < 16
    → number_16 (2 * k) bs ≡ get_or entries k 0
number_front entries bs k e long h =
    let sized : 2 * length entries ≡ STAMP_SIZE = sym (length_written entries) ∙ ap length e ∙ length-take-le STAMP_SIZE bs long in
    let low : get_or (take STAMP_SIZE bs) (2 * k) 0 ≡ get_or bs (2 * k) 0 = get_or-take STAMP_SIZE bs (2 * k) 0 (omega arith) in
    let high : get_or (take STAMP_SIZE bs) (2 * k + 1) 0 ≡ get_or bs (2 * k + 1) 0 = get_or-take STAMP_SIZE bs (2 * k + 1) 0 (omega arith) in
    let inner = number_written entries k (omega arith) in
    let moved : number_16 (2 * k) (written entries) ≡ number_16 (2 * k) (take STAMP_SIZE bs) = ap (number_16 (2 * k)) e in
    omega arith
