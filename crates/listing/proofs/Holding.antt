-- The records that are held, listed one by one.
use Rattle.std.proofs.Common.{◌≡◌, ℕ, ◌+◌, ◌-◌, ◌^◌, ◌≤◌, min, List, [], ◌∷◌, ◌++◌, length, drop, Ok, Err, sym, ap, ◌∙◌, append_assoc, take-append-drop, arith}
use Rattle.std.proofs.lemmas.List.{append-nil, length-append}
use Rattle.letters.specs.declared.letter.Letter.{Letter}
use Rattle.letters.specs.Forms.{Form, LawfulForm}
use Rattle.letters.specs.Letters.{parts_of}
use Rattle.records.specs.declared.fault.Fault.{Fault}
use Rattle.records.specs.Files.{file_of}
use Rattle.records.specs.Readers.{at_end, right, wrong, finding_of}
use Rattle.records.specs.Reading.{Begins}
use Rattle.records.specs.declared.record.TheConstants.{RECORD_SIZE}
use Rattle.records.specs.Records.{record_of}
use Rattle.records.proofs.Filing.{file_more}
use Rattle.records.proofs.RoundTrip.{begun}
use Rattle.listing.specs.ListingLines.{letter_line, record_line}
use Rattle.listing.specs.Listings.{HeldListed, counted, letter_lines}
use Rattle.listing.proofs.Found.{none_found}

-- more letters after some
pub lines_append : {B : Type 0} (says : B → List ℕ) (n : ℕ) (xs ys : List (Letter B))
    → letter_lines says n (xs ++ ys) ≡ letter_lines says n xs ++ letter_lines says (n + length xs) ys
lines_append says n [] ys = let e : n ≡ n + 0 = omega arith in ap (λ k. letter_lines says k ys) e
lines_append says n (x ∷ xs) ys =
    let line : List ℕ = letter_line says (counted n) (parts_of x) in
    let e : (n + 1) + length xs ≡ n + length (x ∷ xs) = omega arith in
    ap (λ l. line ++ l) (lines_append says (n + 1) xs ys ∙ ap (λ k. letter_lines says (n + 1) xs ++ letter_lines says k ys) e)
    ∙ sym (append_assoc line (letter_lines says (n + 1) xs) (letter_lines says (n + length (x ∷ xs)) ys))

module _ {B : Type 0} (form : Form B) (laws : LawfulForm form) (says : B → List ℕ) where
  -- where the listing of some bytes stands
  pub record SoFar (bytes : List ℕ) (count : ℕ) (before : List ℕ) (index : ℕ) (bs : List ℕ) (count' : ℕ) (lines : List ℕ) : Type 0 where
    pub letters : List (Letter B)
    pub file : bytes ≡ file_of form letters ++ bs
    pub place : index ≡ length letters
    pub counts : count' ≡ counted (count + length letters)
    pub said : lines ≡ before ++ letter_lines says count letters

  pub begin : (bytes bs : List ℕ) (count : ℕ) (before : List ℕ) (index : ℕ) → count ≤ 2 ^ 64 - 1 → bs ≡ bytes → index ≡ 0
      → SoFar bytes count before index bs count before
  begin bytes bs count before index fits e z = record {
    letters = [];
    file = sym e;
    place = z;
    counts = omega arith;
    said = sym (append-nil before);
  }

  module _ (bytes : List ℕ) (count : ℕ) (before : List ℕ) (index : ℕ) (bs : List ℕ) (count' : ℕ) (lines lines' : List ℕ)
      (so : SoFar bytes count before index bs count' lines) (line : lines' ≡ lines ++ record_line form says count' bs (finding_of form bs)) where
    -- a letter's record: its line is added
    pub one_more : (m : Letter B) → Begins form bs (parts_of m) → finding_of form bs ≡ right → (index' : ℕ) → index' ≡ index + 1 → (bs' : List ℕ) → bs' ≡ drop RECORD_SIZE bs
        → (count'' : ℕ) → count'' ≡ min (count' + 1) (2 ^ 64 - 1) → SoFar bytes count before index' bs' count'' lines'
    one_more m begins is index' next bs' left count'' counts =
        let ms = so.letters in
        let k : ℕ = count + length ms in
        let long = length-append ms (m ∷ []) in
        let here : bs ≡ record_of form m ++ bs' =
        sym (take-append-drop RECORD_SIZE bs) ∙ ap (λ l. l ++ drop RECORD_SIZE bs) begins.1 ∙ ap (λ l. record_of form m ++ l) (sym left) in
        let one : record_line form says count' bs (finding_of form bs) ≡ letter_line says (counted k) (parts_of m) ++ [] =
        ap (record_line form says count' bs) is ∙ ap (letter_line says count') (begun form laws bs m begins).1
        ∙ ap (λ n. letter_line says n (parts_of m)) so.counts ∙ sym (append-nil (letter_line says (counted k) (parts_of m))) in
        let c = so.counts in
        let p = so.place in
        record {
          letters = ms ++ (m ∷ []);
          file = so.file ∙ ap (λ l. file_of form ms ++ l) here ∙ sym (append_assoc (file_of form ms) (record_of form m) bs')
              ∙ ap (λ l. l ++ bs') (sym (file_more form ms m));
          place = omega arith;
          counts = omega arith;
          said = line ∙ ap (λ l. l ++ record_line form says count' bs (finding_of form bs)) so.said ∙ ap (λ l. (before ++ letter_lines says count ms) ++ l) one
              ∙ append_assoc before (letter_lines says count ms) (letter_lines says k (m ∷ []))
              ∙ ap (λ l. before ++ l) (sym (lines_append says count ms (m ∷ [])));
        }

    -- nothing is left
    pub all_listed : finding_of form bs ≡ at_end → HeldListed form says bytes count before (Ok tt) count' lines'
    all_listed is = record {
      letters = so.letters;
      rest = bs;
      file = so.file;
      ends = none_found form bs is;
      counts = so.counts;
      lines = line ∙ ap (λ l. lines ++ l) (ap (record_line form says count' bs) is) ∙ ap (λ l. l ++ []) so.said
          ∙ append_assoc before (letter_lines says count so.letters) [];
    }

    -- a fault
    pub fault_listed : (fault : Fault) → fault.index ≡ index → finding_of form bs ≡ wrong fault.byte → HeldListed form says bytes count before (Err fault) count' lines'
    fault_listed fault at is = record {
      letters = so.letters;
      rest = bs;
      file = so.file;
      ends = (at ∙ so.place, is);
      counts = so.counts;
      lines = line ∙ ap (λ l. lines ++ l) (ap (record_line form says count' bs) is) ∙ ap (λ l. l ++ record_line form says count' bs (wrong fault.byte)) so.said
          ∙ append_assoc before (letter_lines says count so.letters) (record_line form says count' bs (wrong fault.byte));
    }
