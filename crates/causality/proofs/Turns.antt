-- A log is what was posted or shown at its box, in that order.
use Rattle.std.proofs.Common.{◌≡◌, ℕ, cond, eqb, List, [], ◌∷◌, ◌++◌, map, refl, sym, ap, ◌∙◌, inl, inr, ⊎_elim}
use Rattle.std.proofs.lemmas.List.{map-append}
use Rattle.std.proofs.lemmas.Bool.{cases_Bool, cases_eq, cond-true, cond-false, eq-eqb, ne_eqb}
use Rattle.letters.specs.declared.letter.Letter.{Letter}
use Rattle.causality.specs.History.{Event, History, posted, shown, seen_at, map_letters}
use Rattle.causality.specs.Runs.{Run, opened, more}
use Rattle.causality.specs.WorldSteps.{WorldStep, refuses, posts, sends, parks, collects, takes, shows}
use Rattle.causality.specs.Worlds.{Box, World, Elsewhere}
use Rattle.causality.proofs.Steps.{same_part}

module _ {B : Type 0} (w w' : World B) (h : History (Letter B)) (had : (s : ℕ) → (w.box s).log ≡ seen_at s h) where
  abbrev log : Box B → List (Letter B)
  log b = b.log

  -- a step at seat t that leaves the log there
  stays : (t : ℕ) → Elsewhere t w w' → (w'.box t).log ≡ (w.box t).log → (s : ℕ) → (w'.box s).log ≡ seen_at s h
  stays t elsewhere here s = same_part log t w w' elsewhere here s ∙ had s

  -- a step at seat t that adds m at the foot of the log there
  grows : (t : ℕ) (m : Letter B) → Elsewhere t w w' → (w'.box t).log ≡ (w.box t).log ++ (m ∷ []) → (s : ℕ)
      → (w'.box s).log ≡ cond (eqb t s) (seen_at s h ++ (m ∷ [])) (seen_at s h)
  grows t m elsewhere longer s = ⊎_elim
      (λ same.
      ap (λ i. (w'.box i).log) (sym same) ∙ longer ∙ ap (λ i. (w.box i).log ++ (m ∷ [])) same ∙ ap (λ l. l ++ (m ∷ [])) (had s)
      ∙ sym (cond-true _ _ _ (eq-eqb t s same)))
      (λ other. ap log (elsewhere s (λ e. other (sym e))) ∙ had s ∙ sym (cond-false _ _ _ (ne_eqb t s other)))
      (cases_eq t s)

  moved : {N Q : ℕ} {new : List (Event (Letter B))} → WorldStep N Q w w' new → (s : ℕ) → (w'.box s).log ≡ seen_at s (new ++ h)
  moved (refuses x) s = ap log (x.box s) ∙ had s
  moved (posts {s = t} {m} x) s = grows t m x.elsewhere x.log s
  moved (sends {s = t} x) s = stays t x.moves.elsewhere x.moves.log s
  moved (parks {s = t} x) s = stays t x.moves.elsewhere x.moves.log s
  moved (collects {s = t} x) s = stays t x.moves.elsewhere x.moves.log s
  moved (takes {s = t} x) s = stays t x.elsewhere x.log s
  moved (shows {s = t} {m} x) s = grows t m x.elsewhere x.log s

pub in_turn : {B : Type 0} {N Q : ℕ} {w : World B} {h : History (Letter B)} → Run N Q w h → (s : ℕ) → (w.box s).log ≡ seen_at s h
in_turn (opened o) s = o.log s
in_turn (more {w} {w'} {h} run step) s = moved w w' h (in_turn run) step s

-- the same with what a function makes of the letters
pub told_in_turn : {A L : Type 0} (f : A → L) (s : ℕ) (h : History A) → map f (seen_at s h) ≡ seen_at s (map_letters f h)
told_in_turn f s [] = refl
told_in_turn f s (posted t m ∷ h) = elim (cases_Bool (eqb t s)) [
  | inl here ↦ rw here (map-append f (seen_at s h) (m ∷ []) ∙ ap (λ l. l ++ (f m ∷ [])) (told_in_turn f s h))
  | inr else' ↦ rw else' (told_in_turn f s h)
]
told_in_turn f s (shown t m ∷ h) = elim (cases_Bool (eqb t s)) [
  | inl here ↦ rw here (map-append f (seen_at s h) (m ∷ []) ∙ ap (λ l. l ++ (f m ∷ [])) (told_in_turn f s h))
  | inr else' ↦ rw else' (told_in_turn f s h)
]
