-- What the scan of a hold looks at before it goes through a letter's stamp.
use Rattle.std.specs.Prelude.{◌≡◌, ℕ, ◌+◌, ◌<◌, Bool, not, ◌&&◌, List, length, Some, None, Option, ◌==◌, nat_le, nat_lt, slice_index_or}
use Rattle.letters.specs.declared.letter.Letter.{Letter}
use Rattle.letters.specs.declared.stamp.Stamp.{Stamp}
use Rattle.letters.specs.Letters.{entry_at, number_of}

-- the letter is the next one from another seat of a room of n seats with the quota q
abbrev pub due : {B : Type 0} → ℕ → ℕ → ℕ → Stamp → Letter B → Bool
due n q s clock m =
    nat_lt m.poster n && (not (m.poster == s) && (nat_le (number_of m) q && number_of m == entry_at clock m.poster + 1))

-- the first of a list for which something holds, with its place: it holds there, and of none before; or it holds of none
abbrev pub FirstSuch : {L : Type 0} → (L → Type 0) → List L → Option (ℕ × L) → Type 0
FirstSuch {L} Is xs None = (k : ℕ) (x : L) → k < length xs → ¬ (Is (slice_index_or xs k x))
FirstSuch {L} Is xs (Some found) =
    (found.0 < length xs) × (found.1 ≡ slice_index_or xs found.0 found.1) × Is found.1
    × ((k : ℕ) → k < found.0 → ¬ (Is (slice_index_or xs k found.1)))
