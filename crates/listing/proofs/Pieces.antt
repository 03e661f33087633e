-- A file that is listed piece by piece.
use Rattle.std.proofs.lemmas.Bool.{eqb-true}
use Rattle.std.proofs.lemmas.Grind.{flat_map-append}
use Rattle.std.proofs.Common.{◌≡◌, ℕ, ◌+◌, ◌*◌, ◌<◌, ◌≤◌, ◌⊎◌, ⊎_elim, Bool, true, false, cond, List, [], ◌∷◌, ◌++◌, length, take, drop, IfSome, OnOk, Some, None, Ok, Err, Option, Result, ◌==◌, refl, sym, ap, ◌∙◌, subst, append-nil, append_assoc, arith}
use Rattle.std.proofs.lemmas.List.{take_at, drop_at, take-append-le, length-append}
use Rattle.std.specs.Result.{is_err}
use Rattle.std.specs.Io.KnownBytes.{Appends, Consumes, IsAtEnd}
use Rattle.letters.specs.declared.letter.Letter.{Letter}
use Rattle.letters.specs.Forms.{Form, LawfulForm}
use Rattle.letters.specs.Letters.{parts_of}
use Rattle.records.specs.declared.fault.Fault.{Fault}
use Rattle.records.specs.Files.{file_of}
use Rattle.records.specs.Readers.{Finding, at_end, right, wrong, finding_of, looked_at}
use Rattle.records.specs.declared.record.TheConstants.{RECORD_SIZE}
use Rattle.records.specs.Records.{record_of, wrong_byte, wrong_front}
use Rattle.records.proofs.Filing.{file_one, length_file}
use Rattle.records.proofs.RoundTrip.{begun, front_whole, record_long}
use Rattle.chunks.proofs.Streams.{appended, read_on}
use Rattle.listing.specs.ListingLines.{count_line, letter_line}
use Rattle.listing.specs.Listings.{HeldListed, ListingWritten, counted, ended_line, ending_line, letter_lines}
use Rattle.listing.proofs.Holding.{lines_append}

-- counts that stay at the largest value number the lines alike
lines_same : {B : Type 0} (says : B → List ℕ) (n n' : ℕ) (ms : List (Letter B)) → counted n ≡ counted n' → letter_lines says n ms ≡ letter_lines says n' ms
lines_same says n n' [] e = refl
lines_same says n n' (m ∷ ms) e =
    let next : counted (n + 1) ≡ counted (n' + 1) = omega arith in
    ap (λ k. letter_line says k (parts_of m) ++ letter_lines says (n + 1) ms) e
    ∙ ap (λ l. letter_line says (counted n') (parts_of m) ++ l) (lines_same says (n + 1) (n' + 1) ms next)

unless_true : (test : Bool) (x y : Finding) → (test ≡ true → ⊥) → cond test x y ≡ y
unless_true true x y never = absurd (never refl)
unless_true false x y never = refl

module _ {B : Type 0} (form : Form B) (laws : LawfulForm form) where
  some_found : (bs : List ℕ) → 0 < length bs → finding_of form bs ≡ looked_at (wrong_front form bs)
  some_found bs some = unless_true (length bs == 0) at_end (looked_at (wrong_front form bs)) (λ e. let z = eqb-true (length bs) 0 e in absurd (omega arith))

  -- a letter's record is right, whatever comes behind it
  letter_right : (m : Letter B) (bs : List ℕ) → finding_of form (record_of form m ++ bs) ≡ right
  letter_right m bs =
      let all = record_of form m ++ bs in
      let one = record_long form laws m in
      let both = length-append (record_of form m) bs in
      some_found all (omega arith)
      ∙ ap looked_at (begun form laws all m (omega arith, take_at (record_of form m) bs RECORD_SIZE one)).0

  -- of a whole record, more bytes behind it change nothing
  whole_found : (bs later : List ℕ) → RECORD_SIZE ≤ length bs → finding_of form (bs ++ later) ≡ finding_of form bs
  whole_found bs later long =
      let both = length-append bs later in
      some_found (bs ++ later) (omega arith)
      ∙ ap looked_at (front_whole form laws (bs ++ later) (omega arith) ∙ ap (wrong_byte form) (take-append-le RECORD_SIZE bs later long) ∙ sym (front_whole form laws bs long))
      ∙ sym (some_found bs (omega arith))

  -- no two lists of letters have the same file, with a rest that does not begin with a letter's record
  pub one_file : (xs ys : List (Letter B)) (r s : List ℕ) → file_of form xs ++ r ≡ file_of form ys ++ s → ¬ (finding_of form r ≡ right) → ¬ (finding_of form s ≡ right)
      → (xs ≡ ys) × (r ≡ s)
  one_file [] [] r s e never never' = (refl, e)
  one_file [] (y ∷ ys) r s e never never' =
      absurd (never (ap (finding_of form) (e ∙ append_assoc (record_of form y) (file_of form ys) s) ∙ letter_right y (file_of form ys ++ s)))
  one_file (x ∷ xs) [] r s e never never' =
      absurd (never' (ap (finding_of form) (sym e ∙ append_assoc (record_of form x) (file_of form xs) r) ∙ letter_right x (file_of form xs ++ r)))
  one_file (x ∷ xs) (y ∷ ys) r s e never never' =
      let long = record_long form laws x in
      let long' = record_long form laws y in
      let both : record_of form x ++ (file_of form xs ++ r) ≡ record_of form y ++ (file_of form ys ++ s) =
      sym (append_assoc (record_of form x) (file_of form xs) r) ∙ e ∙ append_assoc (record_of form y) (file_of form ys) s in
      let first : record_of form x ≡ record_of form y =
      sym (take_at (record_of form x) (file_of form xs ++ r) RECORD_SIZE long) ∙ ap (take RECORD_SIZE) both ∙ take_at (record_of form y) (file_of form ys ++ s) RECORD_SIZE long' in
      let one : x ∷ [] ≡ y ∷ [] = file_one form laws (x ∷ []) (y ∷ []) refl (ap (λ l. l ++ []) first) in
      let others = one_file xs ys r s
      (sym (drop_at (record_of form x) (file_of form xs ++ r) RECORD_SIZE long) ∙ ap (drop RECORD_SIZE) both ∙ drop_at (record_of form y) (file_of form ys ++ s) RECORD_SIZE long')
      never never' in
      let same : xs ≡ ys = others.0 in
      (cc, others.1)

module _ {B : Type 0} (form : Form B) (laws : LawfulForm form) (says : B → List ℕ) where
  -- where the listing stands: the pieces so far were the records of letters, and their lines are written
  pub record Between (bytes : List ℕ) (left before now : Option (List ℕ)) (count : ℕ) : Type 0 where
    pub past : List (Letter B)
    pub rest : List ℕ
    pub split : bytes ≡ file_of form past ++ rest
    pub is_left : left ≡ Some rest
    pub counts : count ≡ counted (length past)
    pub written : Appends before now (letter_lines says 0 past)

  pub nothing_yet : (known before : Option (List ℕ)) → IfSome known (λ bytes. Between bytes known before before 0)
  nothing_yet None before = tt
  nothing_yet (Some bytes) before = record { past = []; rest = bytes; split = refl; is_left = refl; counts = omega arith; written = nothing before }
    where
      nothing : (c : Option (List ℕ)) → Appends c c []
      nothing None = tt
      nothing (Some xs) = sym (append-nil xs)

  module _ (left left' before now now' : Option (List ℕ)) (count count' : ℕ) (piece start text : List ℕ) (ended : Result (Unit {0}) Fault)
      (read : Consumes left left' piece) (clear : start ≡ []) (held : HeldListed form says piece count start ended count' text) where
    -- what this piece adds
    added : text ≡ letter_lines says count held.letters ++ ended_line count' ended
    added = held.lines ∙ ap (λ l. l ++ (letter_lines says count held.letters ++ ended_line count' ended)) clear

    module _ (bytes : List ℕ) (b : Between bytes left before now count) where
      -- the letters so far, with those of this piece
      abbrev all : List (Letter B)
      all = b.past ++ held.letters

      counts_all : count' ≡ counted (length all)
      counts_all = let c = held.counts in let p = b.counts in let l = length-append b.past held.letters in omega arith

      lines_all : (later : List ℕ) → letter_lines says 0 b.past ++ ((letter_lines says count held.letters ++ ended_line count' ended) ++ later)
          ≡ letter_lines says 0 all ++ (ended_line count' ended ++ later)
      lines_all later =
          let fit : counted count ≡ counted (0 + length b.past) = let p = b.counts in omega arith in
          let past = letter_lines says 0 b.past in
          let mine = letter_lines says count held.letters in
          let ending = ended_line count' ended in
          ap (λ l. past ++ l) (append_assoc mine ending later) ∙ sym (append_assoc past mine (ending ++ later))
          ∙ ap (λ l. (past ++ l) ++ (ending ++ later)) (lines_same says count (0 + length b.past) held.letters fit)
          ∙ ap (λ l. l ++ (ending ++ later)) (sym (lines_append says 0 b.past held.letters))

      split_all : (later : List ℕ) → b.rest ≡ piece ++ later → bytes ≡ file_of form all ++ (held.rest ++ later)
      split_all later e =
          let past = file_of form b.past in
          let mine = file_of form held.letters in
          b.split ∙ ap (λ l. past ++ l) (e ∙ ap (λ l. l ++ later) held.file ∙ append_assoc mine held.rest later) ∙ sym (append_assoc past mine (held.rest ++ later))
          ∙ ap (λ l. l ++ (held.rest ++ later)) (sym (flat_map-append (record_of form) b.past held.letters))

      -- the listing ends here, by what stands behind the letters
      ends_here : (later : List ℕ) → b.rest ≡ piece ++ later → ¬ (finding_of form (held.rest ++ later) ≡ right)
          → ended_line count' ended ≡ ending_line count' (finding_of form (held.rest ++ later)) → Appends now now' (text ++ count_line count') → ListingWritten form says bytes before now'
      ends_here later e never line wrote =
          let k = length all in
          let last = count_line count' in
          let here = text ++ last in
          record {
            text = letter_lines says 0 b.past ++ here;
            listing = record {
              letters = all;
              rest = held.rest ++ later;
              file = split_all later e;
              ends = never;
              lines = ap (λ l. letter_lines says 0 b.past ++ (l ++ last)) added ∙ lines_all last ∙ ap (λ l. letter_lines says 0 all ++ (l ++ last)) line
                  ∙ ap (λ n. letter_lines says 0 all ++ (ending_line n (finding_of form (held.rest ++ later)) ++ count_line n)) counts_all;
              only = λ ms more is none. one_file form laws ms all more (held.rest ++ later) (sym is ∙ split_all later e) none never;
            };
            written = appended before now now' (letter_lines says 0 b.past) here b.written wrote;
          }

not_right : (f : Finding) (byte : ℕ) → f ≡ wrong byte → ¬ (f ≡ right)
not_right f byte e r = wrong_right byte (sym e ∙ r)
  where
    wrong_right : (byte : ℕ) → ¬ (wrong byte ≡ right)
    wrong_right byte e = absurd cc

no_end : (byte : ℕ) → ¬ (at_end ≡ wrong byte)
no_end byte e = absurd cc

left_none : (l : Option (List ℕ)) (m : List ℕ) → l ≡ Some m → IsAtEnd l → m ≡ []
left_none None m e i = absurd cc
left_none (Some x) m e i = some_is x m e ∙ i
  where
    some_is : (x m : List ℕ) → Some x ≡ Some m → m ≡ x
    some_is x m e = cc

module _ {B : Type 0} (form : Form B) (laws : LawfulForm form) (says : B → List ℕ) (left left' before now now' : Option (List ℕ)) (count count' : ℕ)
    (piece start text : List ℕ) (read : Consumes left left' piece) (clear : start ≡ []) where
  -- one piece more
  pub on : (known : Option (List ℕ)) (ended : Result (Unit {0}) Fault) → is_err ended ≡ false → HeldListed form says piece count start ended count' text → Appends now now' text
      → IfSome known (λ bytes. Between form laws says bytes left before now count) → IfSome known (λ bytes. Between form laws says bytes left' before now' count')
  on None ended good held wrote b = tt
  on (Some bytes) (Err fault) good held wrote b = absurd cc
  on (Some bytes) (Ok done) good held wrote b =
      let r = read_on b.rest left' piece (subst (λ (l : Option (List ℕ)). Consumes l left' piece) b.is_left read) in
      let mine = letter_lines says count held.letters in
      let past = letter_lines says 0 b.past in
      let all = b.past ++ held.letters in
      let none = append-nil mine in
      record {
        past = all;
        rest = r.later;
        split = split_all form laws says left left' before now now' count count' piece start text (Ok done) read clear held bytes b r.later r.split
            ∙ ap (λ l. file_of form all ++ (l ++ r.later)) held.ends;
        is_left = r.is_left;
        counts = counts_all form laws says left left' before now now' count count' piece start text (Ok done) read clear held bytes b;
        written = subst (Appends before now')
            (ap (λ l. past ++ l) (added form laws says left left' before now now' count count' piece start text (Ok done) read clear held ∙ sym (append-nil (mine ++ [])))
            ∙ lines_all form laws says left left' before now now' count count' piece start text (Ok done) read clear held bytes b []
            ∙ append-nil (letter_lines says 0 all))
            (appended before now now' past text b.written wrote);
      }

  -- the last piece: the file ends with it, or it is whole records and a fault is among them
  pub at_last : (known : Option (List ℕ)) (ended : Result (Unit {0}) Fault) → HeldListed form says piece count start ended count' text → Appends now now' (text ++ count_line count')
      → (is_err ended ≡ false → IsAtEnd left') → (n : ℕ) → ((length piece ≡ RECORD_SIZE * n) ⊎ IsAtEnd left')
      → IfSome known (λ bytes. Between form laws says bytes left before now count) → IfSome known (λ bytes. ListingWritten form says bytes before now')
  at_last None ended held wrote over n whole b = tt
  at_last (Some bytes) (Ok done) held wrote over n whole b =
      let r = read_on b.rest left' piece (subst (λ (l : Option (List ℕ)). Consumes l left' piece) b.is_left read) in
      let none : held.rest ++ r.later ≡ [] = ap (λ l. l ++ r.later) held.ends ∙ left_none left' r.later r.is_left (over refl) in
      let is : finding_of form (held.rest ++ r.later) ≡ at_end = ap (finding_of form) none in
      ends_here form laws says left left' before now now' count count' piece start text (Ok done) read clear held bytes b r.later r.split
      (λ e. absurd cc) (ap (ending_line count') (sym is)) wrote
  at_last (Some bytes) (Err fault) held wrote over n whole b =
      let r = read_on b.rest left' piece (subst (λ (l : Option (List ℕ)). Consumes l left' piece) b.is_left read) in
      let is : finding_of form (held.rest ++ r.later) ≡ wrong fault.byte = ⊎_elim
      (λ long. whole_found form laws held.rest r.later (rest_long long) ∙ held.ends.1)
      (λ end. ap (λ l. finding_of form (held.rest ++ l)) (left_none left' r.later r.is_left end) ∙ ap (finding_of form) (append-nil held.rest) ∙ held.ends.1)
      whole in
      ends_here form laws says left left' before now now' count count' piece start text (Err fault) read clear held bytes b r.later r.split
      (not_right (finding_of form (held.rest ++ r.later)) fault.byte is) (ap (ending_line count') (sym is)) wrote
    where
      some_left : (rest : List ℕ) → finding_of form rest ≡ wrong fault.byte → 0 < length rest
      some_left [] e = absurd (no_end fault.byte e)
      some_left (x ∷ xs) e = omega arith

      rest_long : length piece ≡ RECORD_SIZE * n → RECORD_SIZE ≤ length held.rest
      rest_long long =
          let file = ap length held.file in
          let both = length-append (file_of form held.letters) held.rest in
          let letters = length_file form laws held.letters in
          let some = some_left held.rest held.ends.1 in
          omega arith

pub when_ok : {X Y P Q : Type 0} (r : Result X Y) → OnOk r P → (P → Q) → OnOk r Q
when_ok (Ok x) p then' = then' p
when_ok (Err y) p then' = tt
