-- A text's bytes determine the text, and pass its checks.
use Rattle.std.specs.Prelude.{◌≡◌, ℕ, zero, suc, ◌+◌, ◌-◌, ◌<◌, ◌≤◌, Bool, true, false, List, [], ◌∷◌, ◌++◌, length, take, replicate, is_some, Some, None, Option, nat_le, slice_index, refl}
use Rattle.std.proofs.Common.{ap, sym, ◌∙◌, arith}
use Rattle.std.proofs.lemmas.List.{take-append-drop, length-take-le, length-replicate}
use Rattle.std.proofs.lemmas.Bool.{eqb-true, le-leb, leb-true, true≢false}
use Rattle.letters.specs.declared.text.Text.{Text}
use Rattle.letters.specs.declared.text.TheConstants.{LONGEST_TEXT}
use Rattle.letters.specs.Characters.{printable, text_wrong}
use Rattle.letters.specs.Checks.{check, first_failing}
use Rattle.letters.specs.Forms.{FirstWrong, LawfulForm}
use Rattle.letters.specs.Numbers.{padded}
use Rattle.letters.specs.Texts.{front, text_bytes, text_form, text_made, text_of, text_or_none}
use Rattle.letters.specs.ChecksLemmas.{each_passes, fails_at, near_check, near_failing, passed}
use Rattle.letters.specs.SameLemmas.{equal_texts}

none_found : (o : Option ℕ) → is_some o ≡ false → o ≡ None
none_found None e = refl
none_found (Some place) e = absurd (true≢false e)

length_of_text : (t : Text) → length (text_bytes t) ≡ t.len
length_of_text t = length-take-le t.len t.chars (omega (arith, t.short, t.sized))

-- the characters are the text's bytes with zeros after them
pub text_padded : (t : Text) → t.chars ≡ padded LONGEST_TEXT (text_bytes t)
text_padded t =
    sym (take-append-drop t.len t.chars) ∙ ap (λ l. text_bytes t ++ l) t.blank
    ∙ ap (λ n. text_bytes t ++ replicate (LONGEST_TEXT - n) 0) (sym (length_of_text t))

-- the text of bytes in which nothing is wrong has these bytes, and zeros after them
made_chars : (bs : List ℕ) (spoilt : Bool) (e : is_some (text_wrong bs) ≡ spoilt) → spoilt ≡ false
    → ((text_or_none bs spoilt e).chars ≡ padded LONGEST_TEXT bs) × ((text_or_none bs spoilt e).len ≡ length bs)
unfolding text_or_none text_made
made_chars bs false e f = (refl, refl)
made_chars bs true e f = absurd (true≢false f)

text_back : (t : Text) → text_of (text_bytes t) ≡ t
unfolding text_of
text_back t =
    let made = made_chars (text_bytes t) (is_some (text_wrong (text_bytes t))) refl t.clean in
    equal_texts (text_of (text_bytes t)) t (made.0 ∙ sym (text_padded t)) (made.1 ∙ length_of_text t)

spaces_clean : (place n : ℕ) → is_some (first_failing printable place (replicate n 32)) ≡ false
spaces_clean place zero = refl
spaces_clean place (suc n) = spaces_clean (place + 1) n

spaces_right : (n : ℕ) → n ≤ LONGEST_TEXT → is_some (text_wrong (replicate n 32)) ≡ false
spaces_right n h =
    let many : length (replicate {A = ℕ} n 32) ≡ n = length-replicate {A = ℕ} n 32 in
    ap (λ b. is_some (check b LONGEST_TEXT (first_failing printable 0 (replicate n 32)))) (le-leb (length (replicate {A = ℕ} n 32)) LONGEST_TEXT (omega (arith, many, h))) ∙ spaces_clean 0 n

text_length_known : (k n : ℕ) → text_form.has_kind k ≡ true → text_form.has_length k n ≡ true → (t : Text) × (1 ≡ k) × (length (text_bytes t) ≡ n)
unfolding text_of
text_length_known k n e l =
    let bs : List ℕ = replicate n 32 in
    let made = made_chars bs (is_some (text_wrong bs)) refl (spaces_right n (leb-true n LONGEST_TEXT l)) in
    (text_of bs, sym (eqb-true k 1 e), length_of_text (text_of bs) ∙ made.1 ∙ length-replicate {A = ℕ} n 32)

-- the text of bytes in which nothing is wrong has these bytes
text_has : (bs : List ℕ) → is_some (text_wrong bs) ≡ false → text_bytes (text_of bs) ≡ bs
unfolding text_of
text_has bs clean =
    let made = made_chars bs (is_some (text_wrong bs)) refl clean in
    ap (λ n. take n (text_of bs).chars) made.1 ∙ ap (take (length bs)) made.0 ∙ front bs clean

text_bytes_known : (k : ℕ) (bs : List ℕ) → text_form.has_kind k ≡ true → text_wrong bs ≡ None → (t : Text) × (1 ≡ k) × (text_bytes t ≡ bs)
text_bytes_known k bs e right = (text_of bs, sym (eqb-true k 1 e), text_has bs (ap is_some right))

-- the bytes before a place, and spaces from there on
mended : ℕ → List ℕ → List ℕ
mended place [] = []
mended zero (b ∷ bs) = 32 ∷ mended zero bs
mended (suc place) (b ∷ bs) = b ∷ mended place bs

mended_long : (place : ℕ) (bs : List ℕ) → length (mended place bs) ≡ length bs
unfolding mended
mended_long place [] = refl
mended_long zero (b ∷ bs) = ap suc (mended_long zero bs)
mended_long (suc place) (b ∷ bs) = ap suc (mended_long place bs)

mended_same : (place : ℕ) (bs : List ℕ) (k : ℕ) → k < place → slice_index (mended place bs) k ≡ slice_index bs k
unfolding mended
mended_same place [] k h = refl
mended_same zero (b ∷ bs) k h = absurd (omega arith)
mended_same (suc place) (b ∷ bs) zero h = refl
mended_same (suc place) (b ∷ bs) (suc k) h = mended_same place bs k (omega arith)

mended_right : (place : ℕ) (bs : List ℕ) (start : ℕ) → ((k : ℕ) → k < place → printable (slice_index bs k) ≡ true) → first_failing printable start (mended place bs) ≡ None
unfolding mended
mended_right place [] start each = refl
mended_right zero (b ∷ bs) start each = mended_right zero bs (start + 1) (λ k h. absurd (omega arith))
mended_right (suc place) (b ∷ bs) start each =
    let here : printable b ≡ true = each 0 (omega arith) in
    let later = mended_right place bs (start + 1) (λ k h. each (suc k) (omega arith)) in
    rw here later

text_clean : (bs : List ℕ) → length bs ≤ LONGEST_TEXT → first_failing printable 0 bs ≡ None → is_some (text_wrong bs) ≡ false
text_clean bs h e = ap (λ b. is_some (check b LONGEST_TEXT (first_failing printable 0 bs))) (le-leb (length bs) LONGEST_TEXT h) ∙ ap is_some e

text_first_wrong : (k : ℕ) (bs : List ℕ) (place : ℕ) → text_form.has_kind k ≡ true → text_form.has_length k (length bs) ≡ true
    → text_wrong bs ≡ Some place → FirstWrong text_form k (length bs) bs place
text_first_wrong k bs place e l wrong =
    let few : length bs ≤ LONGEST_TEXT = leb-true (length bs) LONGEST_TEXT l in
    let found : first_failing printable 0 bs ≡ Some place =
    sym (ap (λ b. check b LONGEST_TEXT (first_failing printable 0 bs)) (le-leb (length bs) LONGEST_TEXT few)) ∙ wrong in
    let fails = fails_at printable 0 bs place found in
    let at : place ≡ fails.at = omega (arith, fails.is) in
    let new : List ℕ = mended place bs in
    let many : length new ≡ length bs = mended_long place bs in
    let right = mended_right place bs 0 (λ j h. fails.before j (omega arith)) in
    let is : text_bytes (text_of new) ≡ new = text_has new (text_clean new (omega arith) right) in
    record {
      inside = omega (arith, fails.inside);
      own = refl;
      before = (text_of new, sym (eqb-true k 1 e), ap length is ∙ many, λ j h b. ap (λ l. slice_index l j) is ∙ mended_same place bs j b);
      never = λ t kind size agree.
          let same : slice_index (text_bytes t) place ≡ slice_index bs place = agree place (omega (arith, fails.inside)) (omega arith) in
          let clean = none_found (text_wrong (text_bytes t)) t.clean in
          let each = each_passes printable 0 (text_bytes t) (passed (nat_le (length (text_bytes t)) LONGEST_TEXT) LONGEST_TEXT _ clean).1 place (omega (arith, fails.inside, size)) in
          true≢false (sym each ∙ ap printable same ∙ ap (λ j. printable (slice_index bs j)) at ∙ fails.fails);
    }

pub text_lawful : LawfulForm text_form
text_lawful = record {
  back = text_back;
  kind_right = λ t. refl;
  length_right = λ t. le-leb (length (text_bytes t)) LONGEST_TEXT (omega (arith, length_of_text t, t.short));
  right = λ t. none_found (text_wrong (text_bytes t)) t.clean;
  kind_known = λ k e. (text_of [], sym (eqb-true k 1 e));
  length_known = text_length_known;
  bytes_known = λ k bs small e l right. text_bytes_known k bs e right;
  first_wrong = text_first_wrong;
  starts_back = λ k n place. omega arith;
  near = λ k bs h. near_check (nat_le (length bs) LONGEST_TEXT) LONGEST_TEXT _ (omega arith) (near_failing printable 0 bs (omega arith));
  short = λ k n e. leb-true n LONGEST_TEXT e;
}
