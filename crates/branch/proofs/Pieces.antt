-- Pieces of the input, one after the other.
use Rattle.std.proofs.Common.{◌≡◌, ℕ, ◌+◌, true, false, ◌*◌, ◌≤◌, ◌⊎◌, inl, inr, ⊎_elim, List, [], ◌++◌, length, take, drop, Some, None, Option, Ok, Err, Result, sym, refl, ap, ◌∙◌, subst, append-nil, append_assoc, arith}
use Rattle.std.proofs.lemmas.List.{take-append-le, drop-append-le, drop_at, drop-drop, length-drop, length-append}
use Rattle.std.specs.Result.{is_err}
use Rattle.std.specs.Io.KnownBytes.{Appends, Consumes, IsAtEnd}
use Rattle.letters.specs.declared.refusal.Refusal.{Refusal}
use Rattle.branch.specs.declared.outcome.Outcome.{Outcome}
use Rattle.branch.specs.declared.step.Call.{Call}
use Rattle.branch.specs.declared.step.NoStep.{NoStep}
use Rattle.branch.specs.StepLines.{bad_line, step_line}
use Rattle.branch.specs.ProgramSteps.{step_of}
use Rattle.chunks.proofs.Streams.{appended, consumed}
use Rattle.branch.specs.StepRuns.{AllRead, MadeSteps, Printed, Ran, SomeMade, Stepped, more, next_step_index, none, step_bytes}

module _ (a b : List ℕ) where
  step_front : (j : ℕ) → j * 8 + 8 ≤ length a → step_bytes (a ++ b) j ≡ step_bytes a j
  step_front j le =
      let d = length-drop (j * 8) a in
      ap (take 8) (drop-append-le (j * 8) a b (omega arith)) ∙ take-append-le 8 (drop (j * 8) a) b (omega arith)

  step_back : (k j : ℕ) → length a ≡ k * 8 → step_bytes (a ++ b) (k + j) ≡ step_bytes b j
  step_back k j size =
      let e : (k + j) * 8 ≡ k * 8 + j * 8 = omega arith in
      ap (take 8) (ap (λ n. drop n (a ++ b)) e ∙ sym (drop-drop (j * 8) (k * 8) (a ++ b)) ∙ ap (drop (j * 8)) (drop_at a b (k * 8) size))

none_consumed : (known : Option (List ℕ)) → Consumes known known []
none_consumed None = tt
none_consumed (Some xs) = refl

none_appended : (c : Option (List ℕ)) → Appends c c []
none_appended None = tt
none_appended (Some xs) = sym (append-nil xs)

module _ {D : Type 0} (turns : ℕ → Call → D → Result Outcome Refusal → D → Type 0) where
  module _ (a b : List ℕ) where
    front : {n : ℕ} {s : List ℕ} {w : D} {i index : ℕ} {lines : List ℕ} {u : D} → MadeSteps turns a n s w i index lines u → i * 8 ≤ length a → MadeSteps turns (a ++ b) n s w i index lines u
    front none le = none
    front (more {i} {index} {lines} {lines'} {e} {e'} before step) le =
        more (front before (omega arith)) (subst (λ (bs : List ℕ). Stepped turns bs index lines e lines' e') (sym (step_front a b i (omega arith))) step)

    -- the lines of a piece stand behind those of the pieces before it
    later : {bs : List ℕ} {index : ℕ} {lines lines' : List ℕ} {u u' : D} (past : List ℕ) → Stepped turns bs index lines u lines' u' → Stepped turns bs index (past ++ lines) u (past ++ lines') u'
    later {index} {lines} past s = record {
      step = s.step;
      outcome = s.outcome;
      read = s.read;
      turn = s.turn;
      line = ap (λ (l : List ℕ). past ++ l) s.line ∙ sym (append_assoc past lines (step_line index s.step s.outcome));
    }

    module _ {n k index : ℕ} {s lines : List ℕ} {w u : D} (size : length a ≡ k * 8) (made : MadeSteps turns a n s w k index lines u) where
      after : {j index' : ℕ} {lines' : List ℕ} {v : D} → MadeSteps turns b index [] u j index' lines' v → MadeSteps turns (a ++ b) n s w (k + j) index' (lines ++ lines') v
      after none =
          let e : k ≡ k + 0 = omega arith in
          subst (λ (m : ℕ). MadeSteps turns (a ++ b) n s w m index (lines ++ []) u) e
          (subst (λ (l : List ℕ). MadeSteps turns (a ++ b) n s w k index l u) (sym (append-nil lines)) (front made (omega arith)))
      after (more {i} {index = x} {lines = l} {lines' = l'} {e = p} {e' = q} before step) =
          let e : (k + i) + 1 ≡ k + (i + 1) = omega arith in
          subst (λ (m : ℕ). MadeSteps turns (a ++ b) n s w m (next_step_index x) (lines ++ l') q) e
          (more (after before) (subst (λ (bs : List ℕ). Stepped turns bs x (lines ++ l) p (lines ++ l') q) (sym (step_back a b k i size)) (later lines step)))

      whole : (j : ℕ) → length b ≡ j * 8 → length (a ++ b) ≡ (k + j) * 8
      whole j e = let d = length-append a b in omega arith

      then_ran : (r : Result (Unit {0}) NoStep) (index' : ℕ) (lines' : List ℕ) (v : D) → Ran turns r b index [] u index' lines' v
          → Ran turns r (a ++ b) n s w index' (lines ++ lines') v
      then_ran (Ok done) index' lines' v ran = record { steps = k + ran.steps; whole = whole ran.steps ran.whole; made = after ran.made }
      then_ran (Err stop) index' lines' v ran = record {
        steps = k + ran.steps;
        left = (let d = length-append a b in let l = ran.left in omega arith);
        before = lines ++ ran.before;
        last = ran.last;
        made = after ran.made;
        stopped = record {
          read = ap step_of (step_back a b k ran.steps size) ∙ ran.stopped.read;
          session = ran.stopped.session;
          line = ap (λ (l : List ℕ). lines ++ l) ran.stopped.line ∙ sym (append_assoc lines ran.before (bad_line index'));
        };
      }

  -- a step that cannot be read is none, however the input goes on
  some_more : {a : List ℕ} (b : List ℕ) {n index : ℕ} {s lines : List ℕ} {w u : D} (j : ℕ) → length a ≡ j * 8
      → SomeMade turns a n s w index lines u → SomeMade turns (a ++ b) n s w index lines u
  some_more {a} b j size ran =
      let d = length-append a b in
      let l = ran.left in
      record {
        steps = ran.steps;
        left = omega arith;
        before = ran.before;
        last = ran.last;
        made = front a b ran.made (omega arith);
        stopped = record { read = ap step_of (step_front a b ran.steps (omega arith)) ∙ ran.stopped.read; session = ran.stopped.session; line = ran.stopped.line };
      }

  -- where the driver stands: the pieces so far were whole steps, and their lines are written
  pub record Between (known left before now : Option (List ℕ)) (d e : D) (index : ℕ) : Type 0 where
    pub past : List ℕ
    pub steps : ℕ
    pub lines : List ℕ
    pub read : Consumes known left past
    pub size : length past ≡ steps * 8
    pub made : MadeSteps turns past 0 [] d steps index lines e
    pub written : Appends before now lines

  pub begun : (known before : Option (List ℕ)) (d : D) → Between known known before before d d 0
  begun known before d = record { past = []; steps = 0; lines = []; read = none_consumed known; size = omega arith; made = none; written = none_appended before }

  -- all that was read, and what is left of the input
  module _ (d e : D) (index : ℕ) (lines : List ℕ) where
    extend : (a rest : List ℕ) (made : Result (Unit {0}) NoStep) → Ran turns made a 0 [] d index lines e → (made ≡ Ok tt → rest ≡ [])
        → ((k : ℕ) × (length a ≡ k * 8)) ⊎ (rest ≡ []) → Ran turns made (a ++ rest) 0 [] d index lines e
    extend a rest made ran all (inr none') =
        subst (λ (l : List ℕ). Ran turns made (a ++ l) 0 [] d index lines e) (sym none') (subst (λ (l : List ℕ). Ran turns made l 0 [] d index lines e) (sym (append-nil a)) ran)
    extend a rest (Ok done) ran all (inl whole') =
        subst (λ (l : List ℕ). Ran turns (Ok tt) (a ++ l) 0 [] d index lines e) (sym (all refl)) (subst (λ (l : List ℕ). Ran turns (Ok tt) l 0 [] d index lines e) (sym (append-nil a)) ran)
    extend a rest (Err stop) ran all (inl whole') = some_more {a = a} rest whole'.0 whole'.1 ran

    all_read : (known left : Option (List ℕ)) (a : List ℕ) (made : Result (Unit {0}) NoStep) → Consumes known left a → Ran turns made a 0 [] d index lines e
        → (made ≡ Ok tt → IsAtEnd left) → ((k : ℕ) × (length a ≡ k * 8)) ⊎ IsAtEnd left → AllRead turns known d lines e
    all_read None left a made took ran all full = record { bytes = a; known = tt; made = made; index = index; ran = ran }
    all_read (Some xs) None a made took ran all full = absurd took
    all_read (Some xs) (Some ys) a made took ran all full =
        record { bytes = xs; known = refl; made = made; index = index; ran = subst (λ (l : List ℕ). Ran turns made l 0 [] d index lines e) (sym took) (extend a ys made ran all full) }

  module _ (known left left' before now now' : Option (List ℕ)) (d e e' : D) (index index' : ℕ) (piece lines' text start : List ℕ)
      (take_in : Consumes left left' piece) (st : start ≡ []) (t : text ≡ lines') (wrote : Appends now now' text) where
    afresh : (made : Result (Unit {0}) NoStep) → Ran turns made piece index start e index' lines' e' → Ran turns made piece index [] e index' lines' e'
    afresh made ran = subst (λ (s : List ℕ). Ran turns made piece index s e index' lines' e') st ran

    wrote_on : (lines : List ℕ) → Appends before now lines → Appends before now' (lines ++ lines')
    wrote_on lines written = appended before now now' lines lines' written (subst (Appends now now') t wrote)

    -- one piece more
    pub on : (made : Result (Unit {0}) NoStep) → is_err made ≡ false → Ran turns made piece index start e index' lines' e'
        → Between known left before now d e index → Between known left' before now' d e' index'
    on (Err stop) fine ran b = absurd cc
    on (Ok done) fine ran b =
        let all = then_ran b.past piece b.size b.made (Ok tt) index' lines' e' (afresh (Ok tt) ran) in
        record {
          past = b.past ++ piece;
          steps = all.steps;
          lines = b.lines ++ lines';
          read = consumed known left left' b.past piece b.read take_in;
          size = all.whole;
          made = all.made;
          written = wrote_on b.lines b.written;
        }

    -- the last piece
    pub at_end : (made : Result (Unit {0}) NoStep) → Ran turns made piece index start e index' lines' e' → (length piece ≡ 512) ⊎ IsAtEnd left'
        → (made ≡ Ok tt → IsAtEnd left') → Between known left before now d e index → Printed turns known d before now' e'
    at_end made ran full done b = record {
      lines = b.lines ++ lines';
      read = all_read d e' index' (b.lines ++ lines') known left' (b.past ++ piece) made (consumed known left left' b.past piece b.read take_in)
          (then_ran b.past piece b.size b.made made index' lines' e' (afresh made ran)) done (⊎_elim (λ long. inl (b.steps + 64, whole_pieces long)) (λ ended. inr ended) full);
      written = wrote_on b.lines b.written;
    }
      where
        whole_pieces : length piece ≡ 512 → length (b.past ++ piece) ≡ (b.steps + 64) * 8
        whole_pieces long = let l = length-append b.past piece in let z = b.size in omega arith

pub not_err : (r : Result (Unit {0}) NoStep) → r ≡ Ok tt → is_err r ≡ true → ⊥
not_err (Ok x) e f = cc
not_err (Err y) e f = cc
