-- One copy more at the end of each other seat's list is a put.
use Rattle.std.proofs.Common.{◌≡◌, ℕ, not, ltb, sym, refl, ap, ◌∙◌, subst}
use Rattle.std.proofs.lemmas.Bool.{and_from, and_right, cond-false, cond-true, eq-eqb, lt-ltb, ne_eqb}
use Rattle.carriers.specs.Putting.{Gains}
use Rattle.carriers.specs.Meaning.{Meaning, PutOn}
use Rattle.carriers.specs.Appending.{appended}
use Rattle.carriers.proofs.Gained.{gains_end}

pub put_appended : {L : Type 0} (m after : Meaning L) (poster : ℕ) (x : L) → after.seats ≡ m.seats → ((k : ℕ) → after.waiting k ≡ appended m poster x k) → PutOn m poster x after
put_appended m after poster x seats exact = record {
  seats = seats;
  lists = record {
    own = exact poster ∙ cond-false _ _ _ (and_right (ltb poster m.seats) _ (ap not (eq-eqb poster poster refl)));
    others = λ k h ne. subst (Gains x (m.waiting k))
        (sym (exact k ∙ cond-true _ _ _ (and_from _ _ (lt-ltb k m.seats h) (ap not (ne_eqb k poster ne)))))
        (gains_end x _);
  };
}
