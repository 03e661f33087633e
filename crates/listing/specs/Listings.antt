-- What a listing is: a line for each letter of a file, one for the fault behind them, if there is one, and their number.
use Rattle.std.specs.Prelude.{◌≡◌, ℕ, ◌+◌, ◌-◌, ◌^◌, min, List, [], ◌∷◌, ◌++◌, length, IfSome, Ok, Err, Option, Result}
use Rattle.std.specs.Io.KnownBytes.{Appends}
use Rattle.letters.specs.declared.letter.Letter.{Letter}
use Rattle.letters.specs.Forms.{Form}
use Rattle.letters.specs.Letters.{parts_of}
use Rattle.records.specs.declared.fault.Fault.{Fault}
use Rattle.records.specs.Files.{file_of}
use Rattle.records.specs.Readers.{Finding, at_end, right, wrong, finding_of}
use Rattle.listing.specs.ListingLines.{count_line, fault_line, letter_line}

-- a count, which stays at its largest value
abbrev pub counted : ℕ → ℕ
counted n = min n (2 ^ 64 - 1)

-- the line of what stands behind the letters: a fault, or nothing
abbrev pub ending_line : ℕ → Finding → List ℕ
ending_line index at_end = []
ending_line index right = []
ending_line index (wrong byte) = fault_line index byte

-- the same, by how the listing of some bytes ended
abbrev pub ended_line : ℕ → Result (Unit {0}) Fault → List ℕ
ended_line index (Ok done) = []
ended_line index (Err fault) = fault_line index fault.byte

-- the lines of letters, in their order, each with its index: so many letters stand before them
abbrev pub letter_lines : {B : Type 0} → (B → List ℕ) → ℕ → List (Letter B) → List ℕ
letter_lines says n [] = []
letter_lines says n (m ∷ ms) = letter_line says (counted n) (parts_of m) ++ letter_lines says (n + 1) ms

module _ {B : Type 0} (form : Form B) (says : B → List ℕ) where
  -- A file is the records of some letters, and a rest that does not begin with a letter's record. Its listing is the lines of
  -- these letters, then the line of the fault with which the rest begins, if there is a rest, and last how many letters they are.
  pub record Listing (bytes text : List ℕ) : Type 0 where
    pub letters : List (Letter B)
    pub rest : List ℕ
    pub file : bytes ≡ file_of form letters ++ rest
    pub ends : ¬ (finding_of form rest ≡ right)
    pub lines : text ≡ letter_lines says 0 letters
        ++ (ending_line (counted (length letters)) (finding_of form rest) ++ count_line (counted (length letters)))
    -- no other letters and no other rest make up the file
    pub only : (ms : List (Letter B)) (later : List ℕ) → bytes ≡ file_of form ms ++ later → ¬ (finding_of form later ≡ right)
        → (ms ≡ letters) × (later ≡ rest)

  -- the listing of a file was written behind what was written before, and nothing else
  pub record ListingWritten (bytes : List ℕ) (before after : Option (List ℕ)) : Type 0 where
    pub text : List ℕ
    pub listing : Listing bytes text
    pub written : Appends before after text

  -- the same of all that there is to read, where it is known
  abbrev pub Lists : Option (List ℕ) → Option (List ℕ) → Option (List ℕ) → Type 0
  Lists input before after = IfSome input (λ bytes. ListingWritten bytes before after)

  -- how the listing of some bytes ended: at their end, or by the fault behind the letters, which has its index among them
  abbrev pub EndedBy : List (Letter B) → List ℕ → Result (Unit {0}) Fault → Type 0
  EndedBy letters rest (Ok done) = rest ≡ []
  EndedBy letters rest (Err fault) = (fault.index ≡ length letters) × (finding_of form rest ≡ wrong fault.byte)

  -- The lines of all letters of some bytes were added, and of the fault behind them. So many letters were counted before.
  pub record HeldListed (bytes : List ℕ) (count : ℕ) (before : List ℕ) (ended : Result (Unit {0}) Fault) (count' : ℕ) (after : List ℕ) : Type 0 where
    pub letters : List (Letter B)
    pub rest : List ℕ
    pub file : bytes ≡ file_of form letters ++ rest
    pub ends : EndedBy letters rest ended
    pub counts : count' ≡ counted (count + length letters)
    pub lines : after ≡ before ++ (letter_lines says count letters ++ ended_line count' ended)
