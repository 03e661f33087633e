use Rattle.std.proofs.Common.{◌≡◌, ◌<◌, ◌≤◌, ⊎_elim, ap, arith, length, subst, sym, ◌∙◌}
use Rattle.std.specs.Option.{option_map}
use Rattle.std.proofs.lemmas.Bool.{cases_lt}
use Rattle.spool.specs.Decoding.{letter_of}
use Rattle.carriers.specs.Meaning.{waits_at}
use Rattle.spool.specs.Rows.{letters_at, marks_at, picks}
use Rattle.spool.specs.Spools.{StandsAt, spool_of}
use Rattle.spool.proofs.Rows.{none_read, place_found, place_within, some_read}
use Rattle.spool.proofs.Spool.find.Goals as goal

pub returns : goal.returns
returns g c =
    let s = c.args.self.now in
    let b = s.row_buffer.bytes.now in
    let items = letters_at (letter_of g.B.Body.form g.B.Body.blank) b in
    let is = c.nth_marked.ensures in
    let within = place_within s.rows b _ c.rows.ensures items c.args.seat c.args.place _ (sym is ∙ ap (option_map (λ p. (p.0, p.1.now))) c.in_ok-row.was) in
    let q = place_found s.rows b _ c.rows.ensures items c.args.seat c.args.place within in
    let same : c.in_ok-row.row ≡ q.0.0 = ap (λ p. p.0) (some_read (λ p. (p.0, p.1.now)) c.nth_marked.result _ q.0 (is ∙ q.1) c.in_ok-row.was) in (
      subst (λ n. n < s.rows) (sym same) q.2,
      ap (marks_at b c.args.seat) same ∙ q.3,
      ap (λ n. length (picks (marks_at b c.args.seat) items n)) same ∙ q.4,
      omega arith,
    )

pub returns-in_err-row : goal.returns-in_err-row
returns-in_err-row g c =
    let s = c.args.self.now in
    let b = s.row_buffer.bytes.now in
    let items = letters_at (letter_of g.B.Body.form g.B.Body.blank) b in
    let past : waits_at (spool_of g.B.Body.form g.B.Body.blank s) c.args.seat ≤ c.args.place = ⊎_elim
    (λ lt. let q = place_found s.rows b _ c.rows.ensures items c.args.seat c.args.place lt in absurd (none_read (λ p. (p.0, p.1.now)) c.nth_marked.result q.0 (c.nth_marked.ensures ∙ q.1) c.in_err-row.was))
    (λ ge. omega (arith, ge))
    (cases_lt c.args.place (length (picks (marks_at b c.args.seat) items s.rows))) in
    subst (StandsAt g.B.Body.form g.B.Body.blank s c.args.seat c.args.place) (sym c.from_residual.ensures) past
