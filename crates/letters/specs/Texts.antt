-- A text in a record: its characters.
use Rattle.std.specs.Prelude.{◌≡◌, ℕ, ◌-◌, ◌≤◌, Bool, true, false, not, List, [], length, take, replicate, is_some, Ok, Option, Result, ◌==◌, nat_le, refl}
use Rattle.std.proofs.Common.{ap, ◌∙◌, arith}
use Rattle.std.proofs.lemmas.List.{take_at, drop_at, length-append, length-replicate}
use Rattle.std.proofs.lemmas.Bool.{leb-true, true≢false}
use Rattle.letters.specs.declared.text.Text.{Text}
use Rattle.letters.specs.declared.text.TheConstants.{LONGEST_TEXT}
use Rattle.letters.specs.Characters.{text_wrong}
use Rattle.letters.specs.Checks.{check}
use Rattle.letters.specs.Forms.{Form}
use Rattle.letters.specs.Numbers.{padded}
use Rattle.letters.specs.Refusals.{Reason, unless}

abbrev pub text_bytes : Text → List ℕ
text_bytes t = take t.len t.chars

-- a check that finds nothing wrong was passed
passing_check : (test : Bool) (place : ℕ) (later : Option ℕ) → is_some (check test place later) ≡ false → test ≡ true
passing_check true place later e = refl
passing_check false place later e = absurd (true≢false e)

module _ (bs : List ℕ) (clean : is_some (text_wrong bs) ≡ false) where
  pub short : length bs ≤ LONGEST_TEXT
  short = leb-true (length bs) LONGEST_TEXT (passing_check (nat_le (length bs) LONGEST_TEXT) LONGEST_TEXT _ clean)

  pub front : take (length bs) (padded LONGEST_TEXT bs) ≡ bs
  front = take_at bs (replicate (LONGEST_TEXT - length bs) 0) (length bs) refl

  pub padded_length : length (padded LONGEST_TEXT bs) ≡ LONGEST_TEXT
  padded_length =
      let parts = length-append bs (replicate (LONGEST_TEXT - length bs) 0) in
      let zeros = length-replicate {A = ℕ} (LONGEST_TEXT - length bs) 0 in
      omega (arith, short)

  -- the text of bytes in which nothing is wrong
  unfoldable pub text_made : Text
  text_made = record {
    chars = padded LONGEST_TEXT bs;
    len = length bs;
    sized = padded_length;
    short = short;
    clean = ap (λ l. is_some (text_wrong l)) front ∙ clean;
    blank = drop_at bs (replicate (LONGEST_TEXT - length bs) 0) (length bs) refl;
  }

unfoldable pub text_or_none : (bs : List ℕ) (spoilt : Bool) → is_some (text_wrong bs) ≡ spoilt → Text
text_or_none bs false e = text_made bs e
text_or_none bs true e = text_made [] refl

-- the text with these bytes, and the empty one where there is none
unfoldable pub text_of : List ℕ → Text
text_of bs = text_or_none bs (is_some (text_wrong bs)) refl

-- a text in a record: its kind is 1, its bytes are its characters
abbrev pub text_form : Form Text
text_form = record {
  kind = λ t. 1;
  bytes = text_bytes;
  has_kind = λ k. (k == 1);
  has_length = λ k n. nat_le n LONGEST_TEXT;
  wrong = λ k bs. text_wrong bs;
  starts = λ k n place. place;
  body = λ k bs. text_of bs;
}

-- a text is made of any bytes in which nothing is wrong
abbrev pub text_answer : List ℕ → Result (List ℕ) Reason
text_answer bs = unless (not (is_some (text_wrong bs))) 20 (Ok bs)
