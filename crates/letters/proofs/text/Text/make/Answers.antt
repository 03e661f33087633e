use Rattle.std.proofs.Common.{◌≡◌, List, ℕ, ap, ◌∙◌}
use Rattle.std.specs.Prelude.{None, is_some, take, drop, length}
use Rattle.std.proofs.lemmas.List.{take_all}
use Rattle.letters.specs.Characters.{text_wrong}
use Rattle.letters.specs.Numbers.{padded}
use Rattle.letters.specs.Texts.{front, short, text_made}
use Rattle.letters.specs.declared.text.TheConstants.{LONGEST_TEXT}
use Rattle.letters.proofs.text.Text.make.Goals as goal

-- the bytes are within the space, so none is left out
chars_are : (bs chars : List ℕ) → text_wrong bs ≡ None → chars ≡ padded LONGEST_TEXT (take LONGEST_TEXT bs)
    → chars ≡ padded LONGEST_TEXT bs
chars_are bs chars right e = e ∙ ap (padded LONGEST_TEXT) (take_all LONGEST_TEXT bs (short bs (ap is_some right)))

pub invariant_of-result : goal.invariant_of-result
unfolding text_made
invariant_of-result c =
    let bs = c.args.bytes.now in
    let clean = ap is_some c.requires in
    let made = text_made bs clean in
    let is = chars_are bs c.padded.result c.requires c.padded.ensures in
    record {
      sized = ap length is ∙ made.sized;
      short = made.short;
      clean = ap (λ l. is_some (text_wrong (take (length bs) l))) is ∙ made.clean;
      blank = ap (drop (length bs)) is ∙ made.blank;
    }

pub returns : goal.returns
returns c =
    let bs = c.args.bytes.now in
    ap (take (length bs)) (chars_are bs c.padded.result c.requires c.padded.ensures) ∙ front bs (ap is_some c.requires)
