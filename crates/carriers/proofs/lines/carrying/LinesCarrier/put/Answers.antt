use Rattle.std.proofs.Common.{◌≡◌, ◌+◌, ◌<◌, true, ltb, get_or, sym, ◌∙◌, subst, arith}
use Rattle.std.proofs.lemmas.Bool.{and_parts}
use Rattle.carriers.specs.declared.lines.Lines.{Lines}
use Rattle.carriers.specs.Lines.{others_free}
use Rattle.carriers.specs.LineLemmas.{free_at}
use Rattle.carriers.proofs.Sending.{Sent, sent_skip, sent_more, sent_all, sent_exact, sent_table}
use Rattle.carriers.proofs.lines.carrying.LinesCarrier.put.Goals as goal
use Rattle.carriers.proofs.lines.carrying.LinesCarrier.put.Goals.{then-other-poster, else-other-poster}

pub append-requires : goal.append-requires
append-requires g c =
    let old = c.args.self.now in
    let sent = c.loop-other.invariant in
    let seat = c.loop-other.other in
    let poster = c.poster-poster.result in
    let all : others_free old.counts old.size poster old.seats ≡ true = (and_parts (ltb poster old.seats) (others_free old.counts old.size poster old.seats) (sym c.fits.ensures.answer ∙ c.if-not-fits.false)).1 in
    let free : get_or old.counts seat 0 < old.size = free_at old.counts old.size poster old.seats seat all c.loop-other-test.true c.if-other-poster.true in
    let same = sent.counts seat (omega arith) in
    (omega (arith, sent.seats, c.loop-other-test.true), omega (arith, free, same, sent.size))

pub loop-other-preserved : goal.loop-other-preserved
loop-other-preserved g c =
    let old = c.args.self.now in
    let x = c.args.letter.now in
    let seat = c.loop-other.other in
    let mid = c.loop-other.self in
    elim c.if-other-poster.branch [
      | then-other-poster w ↦
          let e = w.append.ensures in
          subst (λ (s : Lines g.row.B.Denot). Sent old x (seat + 1) s) (sym w.self-is)
          (sent_more old x seat mid c.loop-other.invariant w.append.new.self (λ same. w.if-other-poster.true (same ∙ sym c.poster-poster.ensures)) e.seats e.size e.lender e.counts e.own e.others e.table)
      | else-other-poster w ↦
          subst (λ (s : Lines g.row.B.Denot). Sent old x (seat + 1) s) (sym w.self-is)
          (sent_skip old x seat mid c.loop-other.invariant (w.if-other-poster.false ∙ c.poster-poster.ensures))
    ]

pub returns-clause-leaves : goal.returns-clause-leaves
returns-clause-leaves g c =
    sent_all c.args.self.now c.args.letter.now c.loop-other.other c.loop-other.self c.loop-other.invariant
    (omega (arith, c.loop-other.auto.other-end, c.loop-other-test.false))

pub returns-clause-once : goal.returns-clause-once
returns-clause-once g c =
    sent_exact c.args.self.now c.args.letter.now c.loop-other.other c.loop-other.self c.loop-other.invariant
    (omega (arith, c.loop-other.auto.other-end, c.loop-other-test.false))

pub returns-clause-table : goal.returns-clause-table
returns-clause-table g c =
    sent_table c.args.self.now c.args.letter.now c.loop-other.other c.loop-other.self c.loop-other.invariant
    (omega (arith, c.loop-other.auto.other-end, c.loop-other-test.false))

pub returns-clause-lender : goal.returns-clause-lender
returns-clause-lender g c = c.loop-other.invariant.lender
