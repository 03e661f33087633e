-- Drawing up two logs, on any kind of sheet that keeps the laws.
use Rattle.std.proofs.Common.{le_refl, arith}
use Rattle.letters.specs.Letters.{number_of}
use Rattle.letters.specs.Order.{CoversLetter}
use Rattle.sheets.specs.Sheets.{Converges, Kind, LawfulKind}
use Rattle.sheets.proofs.Converge.{same_fold}

module _ {M B : Type 0} (kind : Kind M B) (laws : LawfulKind kind) where
  pub converges : Converges kind
  converges log other fits once once-too ordered ordered-too same =
      let starts = laws.starts in
      same_fold CoversLetter (λ x. le_refl (number_of x)) kind.entered kind.count kind.places (λ m x room. laws.adds m x (λ full. absurd (omega (arith, room, full))))
      (λ m x y room forth back. laws.commutes m x y room (record { forth = forth; back = back }))
      kind.empty log other ordered ordered-too same (omega arith)
