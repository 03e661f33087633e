-- The lines of a listing, as bytes.
use Rattle.std.specs.Prelude.{ℕ, List, [], ◌∷◌, ◌++◌, take, codes, decimal}
use Rattle.std.specs.List.{flat_map}
use Rattle.letters.specs.declared.job.Job.{Job}
use Rattle.letters.specs.declared.job.Job.TheVariants.{Add, Strike}
use Rattle.letters.specs.declared.text.Text.{Text}
use Rattle.letters.specs.Forms.{Form}
use Rattle.letters.specs.declared.parts.Parts.{Parts}
use Rattle.letters.specs.Letters.{entry_at}
use Rattle.letters.specs.Names.{name_text}
use Rattle.letters.specs.Texts.{text_bytes}
use Rattle.records.specs.Readers.{Finding, at_end, right, wrong}
use Rattle.records.specs.declared.record.TheConstants.{RECORD_SIZE}
use Rattle.records.specs.Records.{parts_written}

-- a comma and a number
abbrev pub after_comma : ℕ → List ℕ
after_comma n = codes "," ++ decimal n

-- numbers joined by commas
abbrev pub commas : List ℕ → List ℕ
commas [] = []
commas (n ∷ ns) = decimal n ++ flat_map after_comma ns

-- what a text says
abbrev pub text_says : Text → List ℕ
text_says t = codes "text " ++ text_bytes t

-- what a job says
abbrev pub job_says : Job → List ℕ
job_says (Add code) = codes "add " ++ decimal code
job_says (Strike id) = codes "strike " ++ name_text id.poster id.number

-- a letter's line: the record's index, the letter's name, its stamp, and what its body says
abbrev pub letter_line : {B : Type 0} → (B → List ℕ) → ℕ → Parts B → List ℕ
letter_line says index p =
    decimal index ++ (codes " " ++ (name_text p.poster (entry_at p.stamp p.poster) ++ (codes " " ++ (commas p.stamp.entries
    ++ (codes " " ++ (says p.body ++ codes "\n"))))))

-- the line of a fault: the record's index and its first wrong byte
abbrev pub fault_line : ℕ → ℕ → List ℕ
fault_line index byte = decimal index ++ (codes " bad " ++ (decimal byte ++ codes "\n"))

-- the last line: how many letters there were
abbrev pub count_line : ℕ → List ℕ
count_line n = decimal n ++ codes " letters\n"

-- what a listing does at a record: a letter's line, a fault's line, or nothing at the end
abbrev pub record_line : {B : Type 0} → Form B → (B → List ℕ) → ℕ → List ℕ → Finding → List ℕ
record_line form says index bs at_end = []
record_line form says index bs right = letter_line says index (parts_written form (take RECORD_SIZE bs))
record_line form says index bs (wrong byte) = fault_line index byte
