-- Looking for the first fault of a file.
use Rattle.std.proofs.Common.{◌≡◌, ℕ, zero, suc, ◌+◌, ◌-◌, ◌<◌, List, Some, None, Option, refl, ap, ◌∙◌, arith}
use Rattle.letters.specs.Forms.{Form}
use Rattle.records.specs.declared.fault.Fault.{Fault}
use Rattle.records.specs.Files.{fault_among, fault_or}
use Rattle.records.specs.Readers.{rest_of_file}
use Rattle.records.specs.Records.{wrong_front}

or_none : (index : ℕ) (f : Option ℕ) (later : Option Fault) → fault_or index f later ≡ None → (f ≡ None) × (later ≡ None)
or_none index None later e = (refl, e)
or_none index (Some byte) later e = let z : ◌≡◌ {A = ℕ} 0 1 = cc in absurd (omega arith)

module _ {B : Type 0} (form : Form B) (bs : List ℕ) where
  -- one record of the scan
  pub among_first : (index n : ℕ) → 0 < n → fault_among form bs index n ≡ fault_or index (wrong_front form (rest_of_file bs index)) (fault_among form bs (index + 1) (n - 1))
  among_first index zero h = absurd (omega arith)
  among_first index (suc n) h = ap (λ k. fault_or index (wrong_front form (rest_of_file bs index)) (fault_among form bs (index + 1) k)) (omega arith)

  -- the same record, counted in another way
  recounted : (a b : ℕ) → a ≡ b → wrong_front form (rest_of_file bs a) ≡ wrong_front form (rest_of_file bs b)
  recounted a b same = ap (λ i. wrong_front form (rest_of_file bs i)) same

  -- none is found just when each record is right
  pub each_right : (n index : ℕ) → fault_among form bs index n ≡ None → (k : ℕ) → k < n → wrong_front form (rest_of_file bs (index + k)) ≡ None
  each_right zero index e k h = absurd (omega arith)
  each_right (suc n) index e zero h =
      recounted (index + 0) index (omega arith) ∙ (or_none index (wrong_front form (rest_of_file bs index)) (fault_among form bs (index + 1) n) e).0
  each_right (suc n) index e (suc k) h =
      recounted (index + suc k) (index + 1 + k) (omega arith)
      ∙ each_right n (index + 1) (or_none index (wrong_front form (rest_of_file bs index)) (fault_among form bs (index + 1) n) e).1 k (omega arith)

  pub right_each : (n index : ℕ) → ((k : ℕ) → k < n → wrong_front form (rest_of_file bs (index + k)) ≡ None) → fault_among form bs index n ≡ None
  right_each zero index each = refl
  right_each (suc n) index each =
      let here : wrong_front form (rest_of_file bs index) ≡ None = recounted index (index + 0) (omega arith) ∙ each 0 (omega arith) in
      let later : fault_among form bs (index + 1) n ≡ None = right_each n (index + 1) (λ k h. recounted (index + 1 + k) (index + suc k) (omega arith) ∙ each (suc k) (omega arith)) in
      rw (here, later)

  module _ (index total : ℕ) (some : index < total) where
    -- the scan stops at a wrong record
    pub among_wrong : (byte : ℕ) → wrong_front form (rest_of_file bs index) ≡ Some byte → fault_among form bs index (total - index) ≡ Some (record { index = index; byte = byte })
    among_wrong byte e = among_first index (total - index) (omega arith) ∙ ap (λ f. fault_or index f (fault_among form bs (index + 1) (total - index - 1))) e

    -- and goes on after a right one
    pub among_right : wrong_front form (rest_of_file bs index) ≡ None → fault_among form bs index (total - index) ≡ fault_among form bs (index + 1) (total - (index + 1))
    among_right e =
        let fewer : total - index - 1 ≡ total - (index + 1) = omega arith in
        among_first index (total - index) (omega arith) ∙ ap (λ f. fault_or index f (fault_among form bs (index + 1) (total - index - 1))) e
        ∙ ap (fault_among form bs (index + 1)) fewer
