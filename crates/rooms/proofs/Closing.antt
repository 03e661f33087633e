-- A room closes where every docket is clear, and opens where nothing waits.
use Rattle.std.proofs.Common.{◌≡◌, ℕ, zero, suc, ◌<◌, ◌≤◌, Bool, ◌&&◌, eqb, List, length, get_or, take, Decides, sym, refl, ap, ◌∙◌, add-one, zero-add, arith}
use Rattle.std.specs.List.{list_all, range_with_len}
use Rattle.std.proofs.Math.Bool.{and_comm}
use Rattle.std.proofs.lemmas.List.{take_all}
use Rattle.std.proofs.lemmas.List.Folds.{list_all_more}
use Rattle.std.proofs.lemmas.List.FromFn.{get_or-range_with_len, length-range_with_len}
use Rattle.std.proofs.lemmas.Bool.Decides.{Decides-eqb}
use Rattle.letters.specs.Order.{each_below}
use Rattle.letters.proofs.Bounded.{decides_each}
use Rattle.carriers.specs.Meaning.{Meaning, waits_at}
use Rattle.seats.specs.declared.seat.Seat.{Seat}
use Rattle.seats.specs.declared.seat.DocketEvent.TheVariants.{Post}
use Rattle.seats.specs.Rooms.{RoomState}
use Rattle.seats.specs.Seats.{allows, blank}
use Rattle.rooms.specs.Drafts.{no_letter_waits}
use Rattle.rooms.specs.RoomReading.{all_clear}

-- a test of each of the first elements is a test of each place below
all_first : {X : Type 0} (test : X → Bool) (here : ℕ → Bool) (xs : List X) (d : X) → ((k : ℕ) → k < length xs → test (get_or xs k d) ≡ here k)
    → (n : ℕ) → n ≤ length xs → list_all test (take n xs) ≡ each_below here n
all_first test here xs d same zero few = refl
all_first test here xs d same (suc n) few =
    ap (λ i. list_all test (take i xs)) (sym (add-one n))
    ∙ list_all_more test xs n d (omega arith)
    ∙ and_comm (list_all test (take n xs)) (test (get_or xs n d))
    ∙ (λ j. same n (omega arith) j && all_first test here xs d same n (omega arith) j)

pub clear_is : (st : RoomState) → st.count ≤ length st.seats → list_all (λ (x : Seat). allows x.docket Post) (take st.count st.seats) ≡ all_clear st
unfolding all_clear
clear_is st few = all_first (λ (x : Seat). allows x.docket Post) _ st.seats blank (λ k lt. refl) st.count few

module _ {L : Type 0} (c : Meaning L) (n : ℕ) where
  abbrev silent : ℕ → Bool
  silent s = eqb (waits_at c s) 0

  pub quiet_is : list_all (λ s. eqb (waits_at c s) 0) (range_with_len 0 n) ≡ no_letter_waits c n
  unfolding no_letter_waits
  quiet_is =
      let seats = range_with_len 0 n in
      let size = length-range_with_len 0 n in
      ap (list_all silent) (sym (take_all n seats (omega arith)))
      ∙ all_first silent silent seats 0 (λ k lt. ap silent (get_or-range_with_len 0 n k 0 (omega arith) ∙ zero-add k)) n (omega arith)

  pub decides_quiet : Decides (no_letter_waits c n) ((s : ℕ) → s < n → waits_at c s ≡ 0)
  unfolding no_letter_waits
  decides_quiet = decides_each _ (λ s. waits_at c s ≡ 0) (λ s. Decides-eqb (waits_at c s) 0) n
