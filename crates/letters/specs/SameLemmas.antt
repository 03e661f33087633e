-- Values that agree in what the code holds are the same: a fact that a type keeps has one proof at most.
use Rattle.std.specs.Prelude.{◌≡◌, ◌-◌, ◌<◌, ◌≤◌, false, length, take, drop, replicate, is_some, slice_index}
use mathlib.Core.HLevel.{is_prop→PathP}
use denote.Struct.Props.{props}
use Rattle.std.proofs.Math.Bridge.{le_prop}
use Rattle.std.proofs.Math.Nat.{ℕ_set}
use Rattle.letters.specs.declared.letter_id.LetterId.{LetterId}
use Rattle.letters.specs.declared.letter.Letter.{Letter}
use Rattle.letters.specs.declared.text.Text.{Text}
use Rattle.letters.specs.declared.text.TheConstants.{LONGEST_TEXT}
use Rattle.letters.specs.Characters.{text_wrong}

pub equal_ids : (a b : LetterId) → a.poster ≡ b.poster → a.number ≡ b.number → a ≡ b
equal_ids a b p n = λ i. record {
  poster = p i;
  number = n i;
  seated = is_prop→PathP (λ j. p j < 16) (λ j. le_prop) a.seated b.seated i;
  counted = is_prop→PathP (λ j. 0 < n j) (λ j. le_prop) a.counted b.counted i;
}

pub equal_letters : {B : Type 0} (a b : Letter B) → a.stamp ≡ b.stamp → a.poster ≡ b.poster → a.body ≡ b.body → a ≡ b
equal_letters a b s p d = λ i. record {
  stamp = s i;
  poster = p i;
  body = d i;
  sized = is_prop→PathP (λ j. length (s j).entries ≡ 16) (λ j. ℕ_set _ _) a.sized b.sized i;
  seated = is_prop→PathP (λ j. p j < 16) (λ j. le_prop) a.seated b.seated i;
  counted = is_prop→PathP (λ j. 0 < slice_index (s j).entries (p j)) (λ j. le_prop) a.counted b.counted i;
}

pub equal_texts : (a b : Text) → a.chars ≡ b.chars → a.len ≡ b.len → a ≡ b
equal_texts a b c l = λ i. record {
  chars = c i;
  len = l i;
  sized = is_prop→PathP (λ j. length (c j) ≡ LONGEST_TEXT) (λ j. hlevel props) a.sized b.sized i;
  short = is_prop→PathP (λ j. l j ≤ LONGEST_TEXT) (λ j. hlevel props) a.short b.short i;
  clean = is_prop→PathP (λ j. is_some (text_wrong (take (l j) (c j))) ≡ false) (λ j. hlevel props) a.clean b.clean i;
  blank = is_prop→PathP (λ j. drop (l j) (c j) ≡ replicate (LONGEST_TEXT - l j) 0) (λ j. hlevel props) a.blank b.blank i;
}
