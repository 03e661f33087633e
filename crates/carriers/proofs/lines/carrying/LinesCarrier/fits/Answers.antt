use Rattle.std.proofs.Common.{◌≡◌, ℕ, Bool, Decides, rules, tests, refl, sym, ap, subst, ◌∙◌, ◌==◌, ◌||◌, ◌&&◌, slice_index, nat_lt, arith}
use Rattle.std.proofs.lemmas.Iterator.{YieldsList-from_range}
use Rattle.std.proofs.lemmas.Iterator.Search.{all_from_yields_List}
use Rattle.std.proofs.lemmas.Bool.{lt-ltb}
use Rattle.letters.proofs.Bounded.{each_listed}
use Rattle.carriers.specs.Lines.{HasPlaces, lines_of, others_free}
use Rattle.carriers.specs.LineLemmas.{fits_decides}
use Rattle.carriers.proofs.lines.carrying.LinesCarrier.fits.Goals as goal

pub returns-then-poster-self : goal.returns-then-poster-self
returns-then-poster-self g c =
    let l = c.args.self.now in
    let test : ℕ → Bool = λ k. (k == c.args.poster) || nat_lt (slice_index l.counts k) l.size in
    let is : c.all.result ≡ (lines_of l).fits c.args.poster =
    all_from_yields_List test _ _ _ c.all.ensures.ran (YieldsList-from_range 0 l.seats l.seats refl (omega arith)) (λ x b q k. search (rules, tests))
    ∙ each_listed test l.seats
    ∙ sym (ap (λ b. b && others_free l.counts l.size c.args.poster l.seats) (lt-ltb c.args.poster l.seats c.if-poster-self.true)) in
    record { answer = is; decides = subst (λ r. Decides r (HasPlaces l c.args.poster)) (sym is) (fits_decides l c.args.poster) }
