-- Files of letters, record by record.
use Rattle.std.proofs.Common.{◌≡◌, ℕ, zero, suc, ◌+◌, ◌*◌, ◌<◌, min, List, [], ◌∷◌, ◌++◌, length, get_or, take, drop, set, None, sym, refl, ap, ◌∙◌, ⊎_elim, arith}
use Rattle.std.proofs.Math.Seq.{take-add}
use Rattle.std.proofs.lemmas.Bool.{cases_lt}
use Rattle.std.proofs.lemmas.List.{flat_map_more, take-take, take_at, take_all, take_more, take_more_set, length-take-le, drop_at, drop_all, drop-set-lt, drop-drop, length-append, length-drop}
use Rattle.std.specs.Simd.{first_chunks}
use Rattle.letters.specs.declared.letter.Letter.{Letter}
use Rattle.letters.specs.Forms.{Form, LawfulForm}
use Rattle.letters.specs.Letters.{parts_of}
use Rattle.letters.specs.SameLemmas.{equal_letters}
use Rattle.records.specs.Buffers.{overlaid}
use Rattle.records.specs.Files.{begun_records, file_fault, file_of}
use Rattle.records.specs.Readers.{rest_of_file}
use Rattle.records.specs.Reading.{Begins}
use Rattle.records.specs.declared.record.TheConstants.{RECORD_SIZE}
use Rattle.records.specs.Records.{parts_written, record_of, wrong_byte, wrong_front}
use Rattle.records.proofs.Faults.{right_each}
use Rattle.records.proofs.Overlays.{overlaid-after}
use Rattle.records.proofs.RoundTrip.{begun, front_whole, record_long, written_back}

module _ {B : Type 0} (form : Form B) where
  -- one letter more at the foot
  pub file_more : (ms : List (Letter B)) (m : Letter B) → file_of form (ms ++ (m ∷ [])) ≡ file_of form ms ++ record_of form m
  file_more ms m = sym (flat_map_more (record_of form) [] ms m)

  -- one record more is loaded
  pub load_more : (bs : List ℕ) (table : List (Letter B)) (i : ℕ) (m : Letter B) → i < length table
      → record_of form m ≡ take RECORD_SIZE (rest_of_file bs i) → file_of form (take i table) ≡ take (RECORD_SIZE * i) bs
      → file_of form (take (i + 1) (set table i m)) ≡ take (RECORD_SIZE * (i + 1)) bs
  load_more bs table i m within is before =
      let f = ap (file_of form) (take_more_set table i m within) ∙ file_more (take i table) m in
      let size : RECORD_SIZE * (i + 1) ≡ RECORD_SIZE * i + RECORD_SIZE = omega arith in
      let two = ap (λ n. take n bs) size ∙ take-add (RECORD_SIZE * i) RECORD_SIZE bs in
      f ∙ ap (λ l. l ++ record_of form m) before ∙ ap (λ l. take (RECORD_SIZE * i) bs ++ l) is ∙ sym two

  -- the rest of the table is as it was
  pub rest_more : (old table : List (Letter B)) (i : ℕ) (m : Letter B) → drop i table ≡ drop i old → drop (i + 1) (set table i m) ≡ drop (i + 1) old
  rest_more old table i m rest =
      drop-set-lt (i + 1) table i m (omega arith) ∙ sym (drop-drop 1 i table) ∙ ap (drop 1) rest ∙ drop-drop 1 i old

  -- a file is written up to its end
  pub save_more : (ms : List (Letter B)) (old out : List ℕ) (i : ℕ) (m : Letter B) → length (record_of form m) ≡ RECORD_SIZE
      → length (file_of form (take i ms)) ≡ RECORD_SIZE * i → i < length ms → m ≡ get_or ms i m
      → out ≡ file_of form (take i ms) ++ drop (RECORD_SIZE * i) old
      → overlaid out (RECORD_SIZE * i) (record_of form m) ≡ file_of form (take (i + 1) ms) ++ drop (RECORD_SIZE * (i + 1)) old
  save_more ms old out i m long before within is whole =
      let f : List ℕ = file_of form (take i ms) in
      let rest : drop (length (record_of form m)) (drop (RECORD_SIZE * i) old) ≡ drop (RECORD_SIZE * (i + 1)) old =
      drop-drop (length (record_of form m)) (RECORD_SIZE * i) old ∙ ap (λ n. drop n old) (omega arith) in
      let one : take (i + 1) ms ≡ take i ms ++ (m ∷ []) = take_more ms i m within ∙ ap (λ x. take i ms ++ (x ∷ [])) (sym is) in
      ap (λ l. overlaid l (RECORD_SIZE * i) (record_of form m)) whole
      ∙ overlaid-after f (drop (RECORD_SIZE * i) old) (record_of form m) (RECORD_SIZE * i) before
      ∙ ap (λ l. (f ++ record_of form m) ++ l) rest
      ∙ ap (λ l. l ++ drop (RECORD_SIZE * (i + 1)) old) (sym (ap (file_of form) one ∙ file_more (take i ms) m))

  module _ (laws : LawfulForm form) where
    pub length_file : (ms : List (Letter B)) → length (file_of form ms) ≡ RECORD_SIZE * length ms
    length_file [] = refl
    length_file (m ∷ ms) =
        let both = length-append (record_of form m) (file_of form ms) in
        omega (arith, record_long form laws m, length_file ms)

    -- what is left of a file is the file of the letters that are left
    file_left : (ms : List (Letter B)) (i : ℕ) → rest_of_file (file_of form ms) i ≡ file_of form (drop i ms)
    file_left ms zero = refl
    file_left [] (suc i) = drop_all (RECORD_SIZE * suc i) [] (omega arith)
    file_left (m ∷ ms) (suc i) =
        let size : RECORD_SIZE * suc i ≡ RECORD_SIZE + RECORD_SIZE * i = omega arith in
        ap (λ n. drop n (file_of form (m ∷ ms))) size
        ∙ sym (drop-drop (RECORD_SIZE * i) RECORD_SIZE (file_of form (m ∷ ms)))
        ∙ ap (drop (RECORD_SIZE * i)) (drop_at (record_of form m) (file_of form ms) RECORD_SIZE (record_long form laws m))
        ∙ file_left ms i

    first_begins : (m : Letter B) (ms : List (Letter B)) → Begins form (file_of form (m ∷ ms)) (parts_of m)
    first_begins m ms = (
      omega (arith, length-append (record_of form m) (file_of form ms), record_long form laws m),
      take_at (record_of form m) (file_of form ms) RECORD_SIZE (record_long form laws m),
    )

    right_at : (ms : List (Letter B)) (i : ℕ) → i < length ms → wrong_front form (rest_of_file (file_of form ms) i) ≡ None
    right_at ms i h = ap (wrong_front form) (file_left ms i) ∙ right_front (drop i ms) (omega (arith, length-drop i ms)) where
      right_front : (ks : List (Letter B)) → 0 < length ks → wrong_front form (file_of form ks) ≡ None
      right_front [] h = absurd (omega arith)
      right_front (k ∷ ks) h = (begun form laws (file_of form (k ∷ ks)) k (first_begins k ks)).0

    -- a file of letters has no fault
    pub file_right : (ms : List (Letter B)) → file_fault form (file_of form ms) ≡ None
    file_right ms =
        let long = length_file ms in
        right_each form (file_of form ms) (begun_records (file_of form ms)) 0
        (λ k h. let at : 0 + k ≡ k = omega arith in ap (λ i. wrong_front form (rest_of_file (file_of form ms) i)) at ∙ right_at ms k (omega arith))

    letter_one : (a b : Letter B) → record_of form a ≡ record_of form b → a ≡ b
    letter_one a b e =
        let same = sym (written_back form laws (parts_of a) a.sized) ∙ ap (parts_written form) e ∙ written_back form laws (parts_of b) b.sized in
        equal_letters a b (ap (λ p. p.stamp) same) (ap (λ p. p.poster) same) (ap (λ p. p.body) same)

    -- no two lists of letters have the same file
    pub file_one : (xs ys : List (Letter B)) → length xs ≡ length ys → file_of form xs ≡ file_of form ys → xs ≡ ys
    file_one [] [] n e = refl
    file_one [] (y ∷ ys) n e = absurd (omega arith)
    file_one (x ∷ xs) [] n e = absurd (omega arith)
    file_one (x ∷ xs) (y ∷ ys) n e =
        let here = sym (first_begins x xs).1 ∙ ap (take RECORD_SIZE) e ∙ (first_begins y ys).1 in
        let same : x ≡ y = letter_one x y here in
        let later : file_of form xs ≡ file_of form ys =
        sym (drop_at (record_of form x) (file_of form xs) RECORD_SIZE (record_long form laws x)) ∙ ap (drop RECORD_SIZE) e
        ∙ drop_at (record_of form y) (file_of form ys) RECORD_SIZE (record_long form laws y) in
        let rest : xs ≡ ys = file_one xs ys (omega arith) later in
        cc

-- a file cut into records
pub chunk_at : (k : ℕ) (bs : List ℕ) (i : ℕ) → i < k → get_or (first_chunks RECORD_SIZE k bs) i [] ≡ take RECORD_SIZE (rest_of_file bs i)
chunk_at zero bs i h = absurd (omega arith)
chunk_at (suc k) bs zero h = refl
chunk_at (suc k) bs (suc i) h =
    let size : RECORD_SIZE * suc i ≡ RECORD_SIZE + RECORD_SIZE * i = omega arith in
    chunk_at k (drop RECORD_SIZE bs) i (omega arith)
    ∙ ap (take RECORD_SIZE) (drop-drop (RECORD_SIZE * i) RECORD_SIZE bs ∙ ap (λ n. drop n bs) (sym size))

-- the first record of what is left, or the short end of the file
pub chunk_front : (rest piece more : List ℕ) → rest ≡ piece ++ more → length piece ≡ min RECORD_SIZE (length rest) → piece ≡ take RECORD_SIZE rest
chunk_front rest piece more is long =
    let both = length-append piece more in
    let whole = ap length is in
    let front : take (length piece) rest ≡ piece = ap (take (length piece)) is ∙ take_at piece more (length piece) refl in
    ⊎_elim
    (λ few. let all : length piece ≡ length rest = omega arith in
    sym front ∙ take_all (length piece) rest (omega arith) ∙ sym (take_all RECORD_SIZE rest (omega arith)))
    (λ enough. let one : length piece ≡ RECORD_SIZE = omega arith in sym front ∙ ap (λ n. take n rest) one)
    (cases_lt (length rest) RECORD_SIZE)

-- and what is left after it
pub chunk_rest : (rest piece more : List ℕ) → rest ≡ piece ++ more → length piece ≡ min RECORD_SIZE (length rest) → more ≡ drop RECORD_SIZE rest
chunk_rest rest piece more is long =
    let both = length-append piece more in
    let whole = ap length is in
    let back : drop (length piece) rest ≡ more = ap (drop (length piece)) is ∙ drop_at piece more (length piece) refl in
    ⊎_elim
    (λ few. let all : length piece ≡ length rest = omega arith in
    sym back ∙ drop_all (length piece) rest (omega arith) ∙ sym (drop_all RECORD_SIZE rest (omega arith)))
    (λ enough. let one : length piece ≡ RECORD_SIZE = omega arith in sym back ∙ ap (λ n. drop n rest) one)
    (cases_lt (length rest) RECORD_SIZE)

pub chunk_first : {B : Type 0} (form : Form B) (laws : LawfulForm form) (rest : List ℕ) → wrong_front form (take RECORD_SIZE rest) ≡ wrong_front form rest
chunk_first form laws rest = ⊎_elim
    (λ few. ap (wrong_front form) (take_all RECORD_SIZE rest (omega arith)))
    (λ enough.
    front_whole form laws (take RECORD_SIZE rest) (omega (arith, length-take-le RECORD_SIZE rest enough))
    ∙ ap (wrong_byte form) (take-take RECORD_SIZE RECORD_SIZE rest (omega arith)) ∙ sym (front_whole form laws rest enough))
    (cases_lt (length rest) RECORD_SIZE)
