-- Two lists of the same letters, in the order that logs have, give the same meaning on every kind of sheet.
use Rattle.std.proofs.Common.{◌≡◌, ◌≤◌, List, length, Ok, sym, ap, ◌∙◌, arith}
use Rattle.std.proofs.lemmas.Bool.Decides.{nat_tests}
use Rattle.letters.specs.declared.letter.Letter.{Letter}
use Rattle.letters.specs.Letters.{letter_name}
use Rattle.letters.specs.Names.{Name}
use Rattle.letters.specs.Order.{SameLetter}
use Rattle.letters.specs.Lists.{◌∈◌}
use Rattle.causality.specs.LetterLists.{ForSheets}
use Rattle.causality.proofs.Lists.{in_as}
use Rattle.sheets.specs.Sheets.{Kind, LawfulKind, draw_up_outcome, drawn_up}
use Rattle.sheets.proofs.Sheets.{converges}
use Rattle.lives.specs.Guarantees.{SheetsAgree}

-- letters of one name are the same
pub same_named : {B : Type 0} (m k : Letter B) → letter_name m ≡ letter_name k → SameLetter m k
same_named m k e = record { poster = ap (λ (i : Name). i.poster) e; number = ap (λ (i : Name). i.number) e }

-- what drawing up a list has tested, and what it results in
record Drawn {M B : Type 0} (kind : Kind M B) (l : List (Letter B)) (m : M) : Type 0 where
  fits : length l ≤ kind.places
  is : m ≡ drawn_up kind l

drawn : {M B : Type 0} (kind : Kind M B) (l : List (Letter B)) (m : M) → draw_up_outcome kind l ≡ Ok m → Drawn kind l m
drawn kind l m e = record { fits = grind (arith, nat_tests); is = grind (arith, nat_tests) }

pub agree : {M B : Type 0} (kind : Kind M B) → LawfulKind kind → (a b : List (Letter B)) → ForSheets a b → SheetsAgree kind a b
agree {M} {B} kind laws a b fit same m m' e e' =
    let d = drawn kind a m e in
    let d' = drawn kind b m' e' in
    d.is
    ∙ converges kind laws a b d.fits fit.once fit.once' fit.onward fit.onward' (λ x. (into x, back x))
    ∙ sym d'.is
  where
    into : (x : Letter B) → x ∈ a → x ∈ b
    into x i =
        let s = same.into x i in
        in_as (fit.equal x s.letter i s.inside (same_named x s.letter (sym s.called))) s.inside

    back : (x : Letter B) → x ∈ b → x ∈ a
    back x i =
        let s = same.back x i in
        in_as (sym (fit.equal s.letter x s.inside i (same_named s.letter x s.called))) s.inside
