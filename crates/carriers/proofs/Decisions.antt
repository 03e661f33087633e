-- When a put or a draw is accepted, and when it is refused for which reason.
use Rattle.std.proofs.Common.{◌≡◌, ℕ, ◌<◌, ◌≤◌, true, map, get_or, Ok, Err, Result, sym, arith}
use Rattle.std.proofs.lemmas.Bool.{lt-ltb, le-ltb}
use Rattle.std.specs.Result.{OnErr}
use Rattle.letters.specs.declared.refusal.Refusal.{Refusal}
use Rattle.letters.specs.Refusals.{Reason, as_answer, plain, reason_of}
use Rattle.carriers.specs.Meaning.{Meaning, PutOn, Drawn, PutLeaves, DrawLeaves, waits_at, put_answer, draw_answer}

module _ {L : Type 0} (m : Meaning L) where
  pub put_ok : (poster : ℕ) → poster < m.seats → m.fits poster ≡ true → put_answer m poster ≡ Ok tt
  put_ok poster h f = rw (lt-ltb poster m.seats h, f)

  pub draw_ok : (seat place : ℕ) → seat < m.seats → place < waits_at m seat → draw_answer m seat place ≡ Ok tt
  draw_ok seat place h l = rw (lt-ltb seat m.seats h, lt-ltb place (waits_at m seat) l)

  pub draw_no_seat : (seat place : ℕ) → m.seats ≤ seat → draw_answer m seat place ≡ Err (plain 8)
  draw_no_seat seat place h = rw (le-ltb seat m.seats h)

  pub draw_no_place : (seat place : ℕ) → seat < m.seats → waits_at m seat ≤ place → draw_answer m seat place ≡ Err (plain 14)
  draw_no_place seat place h l = rw (lt-ltb seat m.seats h, le-ltb place (waits_at m seat) l)

-- no answer both accepts and refuses
clash : (u : Unit {0}) (w : Reason) {X : Type 0} → ◌≡◌ {A = Result (Unit {0}) Reason} (Err w) (Ok u) → X
clash u w e = let z : ◌≡◌ {A = ℕ} 0 1 = cc in absurd (omega arith)

pub not_both : {w : Reason} {X : Type 0} → ◌≡◌ {A = Result (Unit {0}) Reason} (Err w) (Ok tt) → X
not_both {w} e = clash tt w e

-- where the answer accepts, there is nothing to show of a refusal
pub no_refusal : (r : Result (Unit {0}) Refusal) (P : Type 0) → as_answer (λ u. u) r ≡ Ok tt → OnErr r P
no_refusal (Ok u) P took = tt
no_refusal (Err why) P took = not_both took

-- what the answer says of what is left
module _ {L : Type 0} (m m' : Meaning L) where
  module _ (p : ℕ) (x : L) where
    pub put_accepted : (r : Result (Unit {0}) Refusal) → as_answer (λ u. u) r ≡ Ok tt → PutLeaves r m p x m' → PutOn m p x m'
    put_accepted (Ok u) e l = l
    put_accepted (Err why) e l = clash tt (reason_of why) e

    pub accepted_put : (r : Result (Unit {0}) Refusal) → as_answer (λ u. u) r ≡ Ok tt → PutOn m p x m' → PutLeaves r m p x m'
    accepted_put (Ok u) e l = l
    accepted_put (Err why) e l = clash tt (reason_of why) e

  module _ {P : Type 0} (see : L → P) (seat place : ℕ) (lent filled : P) where
    pub draw_accepted : (r : Result (Unit {0}) Refusal) → as_answer (λ u. u) r ≡ Ok tt → DrawLeaves see r m seat place m' lent filled → Drawn m seat place m' × (filled ≡ get_or (map see (m.waiting seat)) place lent)
    draw_accepted (Ok u) e l = l
    draw_accepted (Err why) e l = clash tt (reason_of why) e

    pub accepted_draw : (r : Result (Unit {0}) Refusal) → as_answer (λ u. u) r ≡ Ok tt → Drawn m seat place m' × (filled ≡ get_or (map see (m.waiting seat)) place lent) → DrawLeaves see r m seat place m' lent filled
    accepted_draw (Ok u) e l = l
    accepted_draw (Err why) e l = clash tt (reason_of why) e

    pub draw_refused : (r : Result (Unit {0}) Refusal) (w : Reason) → as_answer (λ u. u) r ≡ Err w → DrawLeaves see r m seat place m' lent filled → (m' ≡ m) × (filled ≡ lent)
    draw_refused (Ok u) w e l = clash u w (sym e)
    draw_refused (Err why) w e l = l

    pub refused_draw : (r : Result (Unit {0}) Refusal) (w : Reason) → as_answer (λ u. u) r ≡ Err w → (m' ≡ m) × (filled ≡ lent) → DrawLeaves see r m seat place m' lent filled
    refused_draw (Ok u) w e l = clash u w (sym e)
    refused_draw (Err why) w e l = l
