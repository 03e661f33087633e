-- The test of readiness decides readiness.
use Rattle.std.proofs.Common.{◌≡◌, ℕ, ◌+◌, ◌<◌, ◌≤◌, not, eqb, ltb, leb, ◌⊎◌, Decides, inl, inr, ⊎_elim, arith}
use Rattle.std.proofs.lemmas.List.{get_or_past}
use Rattle.std.proofs.lemmas.Bool.{cases_eq, cases_lt, leb-true, le-leb}
use Rattle.std.proofs.lemmas.Bool.Decides.{Decides-and, Decides-or, Decides-not, Decides-eqb, Decides-ltb, Decides-like}
use Rattle.letters.specs.declared.letter.Letter.{Letter}
use Rattle.letters.specs.declared.stamp.Stamp.{Stamp}
use Rattle.letters.specs.Letters.{entry_at, number_of}
use Rattle.letters.specs.Order.{Ready, all_known, known_at, ready}
use Rattle.letters.proofs.Bounded.{decides_each}

decides_leb : (a b : ℕ) → Decides (leb a b) (a ≤ b)
decides_leb a b = (leb-true a b, le-leb a b)

module _ {B : Type 0} (clock : Stamp) (m : Letter B) where
  abbrev KnownAt : ℕ → Type 0
  KnownAt p = (p ≡ m.poster) ⊎ (entry_at m.stamp p ≤ entry_at clock p)

  -- a stamp has no entries past the sixteen, so what holds of these holds of all
  beyond : (p : ℕ) → 16 ≤ p → entry_at m.stamp p ≡ 0
  beyond p h = get_or_past m.stamp.entries p 0 (omega (arith, m.sized))

  all_from : ((p : ℕ) → p < 16 → KnownAt p) → (p : ℕ) → ¬ (p ≡ m.poster) → entry_at m.stamp p ≤ entry_at clock p
  all_from known p differs = ⊎_elim
      (λ below. ⊎_elim (λ same. absurd (differs same)) (λ h. h) (known p below))
      (λ past. omega (arith, beyond p past)) (cases_lt p 16)

  all_to : ((p : ℕ) → ¬ (p ≡ m.poster) → entry_at m.stamp p ≤ entry_at clock p) → (p : ℕ) → p < 16 → KnownAt p
  all_to known p below = ⊎_elim (λ same. inl same) (λ differs. inr (known p differs)) (cases_eq p m.poster)

  pub decides_all_known : Decides (all_known clock m) ((p : ℕ) → ¬ (p ≡ m.poster) → entry_at m.stamp p ≤ entry_at clock p)
  unfolding all_known
  decides_all_known =
      Decides-like (all_known clock m) all_from all_to
      (decides_each (known_at clock m) KnownAt
      (λ p. Decides-or (eqb p m.poster) _ (Decides-eqb p m.poster) (decides_leb (entry_at m.stamp p) (entry_at clock p))) 16)

  module _ (n q seat : ℕ) where
    abbrev Facts : Type 0
    Facts =
        (m.poster < n) × ((¬ (m.poster ≡ seat)) × ((number_of m ≤ q) × ((number_of m ≡ entry_at clock m.poster + 1)
        × ((p : ℕ) → ¬ (p ≡ m.poster) → entry_at m.stamp p ≤ entry_at clock p))))

    gathered : Facts → Ready n q seat (entry_at clock) m
    gathered f = record { below = f.0; other = f.1.0; within = f.1.1.0; next = f.1.1.1.0; known = f.1.1.1.1 }

    spread : Ready n q seat (entry_at clock) m → Facts
    spread r = (r.below, (r.other, (r.within, (r.next, r.known))))

    pub decides_ready : Decides (ready n q seat clock m) (Ready n q seat (entry_at clock) m)
    decides_ready =
        Decides-like (ready n q seat clock m) gathered spread
        (Decides-and (ltb m.poster n) _ (Decides-ltb m.poster n)
        (Decides-and (not (eqb m.poster seat)) _ (Decides-not (eqb m.poster seat) (Decides-eqb m.poster seat))
        (Decides-and (leb (number_of m) q) _ (decides_leb (number_of m) q)
        (Decides-and (eqb (number_of m) (entry_at clock m.poster + 1)) _ (Decides-eqb (number_of m) (entry_at clock m.poster + 1))
        decides_all_known))))
