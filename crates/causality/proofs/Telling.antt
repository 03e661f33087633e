-- The test of stamps decides what led to what.
use Rattle.std.proofs.Common.{◌≡◌, Bool, not, eqb, Decides}
use Rattle.std.proofs.lemmas.Bool.{leb-true, le-leb}
use Rattle.std.proofs.lemmas.Bool.Decides.{Decides-and, Decides-at, Decides-eqb, Decides-like, Decides-not}
use Rattle.letters.specs.declared.letter.Letter.{Letter}
use Rattle.letters.specs.Letters.{entry_at, number_of}
use Rattle.letters.specs.Order.{CoversLetter, SameLetter, covers, same_letter}
use Rattle.causality.specs.Theorems.{TellsLedTo, stamps_say}
use Rattle.causality.proofs.Theorems.{stamps_mean_led_to}

module _ {B : Type 0} (m k : Letter B) where
  decides_same : Decides (same_letter m k) (SameLetter m k)
  decides_same = Decides-like (same_letter m k)
      (λ (e : (m.poster ≡ k.poster) × (number_of m ≡ number_of k)). record { poster = e.0; number = e.1 })
      (λ e. (e.poster, e.number))
      (Decides-and (eqb m.poster k.poster) (eqb (number_of m) (number_of k))
      (Decides-eqb m.poster k.poster) (Decides-eqb (number_of m) (number_of k)))

  decides_both : Decides (stamps_say m k) (CoversLetter k m × (¬ (SameLetter m k)))
  decides_both = Decides-and (covers k.stamp m.poster (number_of m)) (not (same_letter m k))
      (leb-true (number_of m) (entry_at k.stamp m.poster), le-leb (number_of m) (entry_at k.stamp m.poster))
      (Decides-not (same_letter m k) decides_same)

  pub tells_led_to : (r : Bool) → r ≡ stamps_say m k → TellsLedTo m k r
  tells_led_to r e N Q w h run i j =
      let means = stamps_mean_led_to N Q w h run m k i j in
      Decides-like r means.1 means.0 (Decides-at r (stamps_say m k) e decides_both)
