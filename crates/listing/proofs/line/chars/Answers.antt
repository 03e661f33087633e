use Rattle.std.proofs.Common.{◌≡◌, ℕ, ◌<◌, true, length, slice_index, nat_le, subst, sym, arith, rules}
use Rattle.std.specs.Str.{IsUtf8}
use Rattle.std.proofs.lemmas.Bool.Decides.{nat_tests}
use Rattle.std.proofs.lemmas.Str.{IsUtf8-from_ascii}
use Rattle.std.proofs.lemmas.Str.Ascii.{IsAscii-from_reads}
use Rattle.letters.specs.declared.text.Text.{Text}
use Rattle.letters.specs.declared.text.TheConstants.{LONGEST_TEXT}
use Rattle.letters.specs.Characters.{printable}
use Rattle.letters.specs.Checks.{first_failing}
use Rattle.letters.specs.ChecksLemmas.{each_passes, passed}
use Rattle.letters.specs.Texts.{text_bytes}
use Rattle.letters.specs.TextsLemmas.{text_lawful}
use Rattle.listing.proofs.line.chars.Goals as goal

ascii : (c : ℕ) → printable c ≡ true → c < 128
ascii c e = grind (arith, nat_tests)

-- a text's characters are ASCII
text_utf8 : (t : Text) → IsUtf8 (text_bytes t)
text_utf8 t =
    let bs = text_bytes t in
    let clean = (passed (nat_le (length bs) LONGEST_TEXT) LONGEST_TEXT (first_failing printable 0 bs) (text_lawful.right t)).1 in
    IsUtf8-from_ascii bs (IsAscii-from_reads bs (length bs) (omega arith) (λ k within. ascii (slice_index bs k) (each_passes printable 0 bs clean k within)))

pub unwrap-requires : goal.unwrap-requires
unwrap-requires c =
    let utf8 : IsUtf8 c.as_bytes.result.now = subst IsUtf8 (sym c.as_bytes.ensures) (text_utf8 c.args.text.now) in
    let cases = c.from_utf8.ensures.cases in
    search rules
