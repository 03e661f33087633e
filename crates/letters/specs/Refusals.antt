-- The numbers of refusals.
use Rattle.std.specs.Prelude.{ℕ, Bool, true, false, List, [], Ok, Err, Result}
use Rattle.letters.specs.declared.refusal.Refusal.{Refusal}
use Rattle.letters.specs.declared.refusal.Refusal.TheVariants.{
  BadQuota,
  BadName,
  TooManySeats,
  NoSeats,
  TooShort,
  WrongSeatCount,
  LetterWaiting,
  UnknownSeat,
  QuotaSpent,
  DocketTaken,
  CarrierFull,
  WrongDocket,
  NotParked,
  UnknownPlace,
  NoneReady,
  DocketsOpen,
  TooFewPlaces,
  SheetFull,
  LetterMissing,
  BadRecord,
}

-- what a refusal gives its caller: its number, and the values that come with it
pub record Reason : Type 0 where
  pub number : ℕ
  pub values : List ℕ

-- a number without values
abbrev pub plain : ℕ → Reason
plain n = record { number = n; values = [] }

-- the number and the values of each refusal
abbrev pub reason_of : Refusal → Reason
reason_of BadQuota = plain 1
reason_of BadName = plain 2
reason_of TooManySeats = plain 3
reason_of NoSeats = plain 4
reason_of TooShort = plain 5
reason_of WrongSeatCount = plain 6
reason_of LetterWaiting = plain 7
reason_of UnknownSeat = plain 8
reason_of QuotaSpent = plain 9
reason_of DocketTaken = plain 10
reason_of CarrierFull = plain 11
reason_of WrongDocket = plain 12
reason_of NotParked = plain 13
reason_of UnknownPlace = plain 14
reason_of NoneReady = plain 15
reason_of DocketsOpen = plain 16
reason_of TooFewPlaces = plain 17
reason_of SheetFull = plain 18
reason_of LetterMissing = plain 19
reason_of BadRecord = plain 20

-- an answer as its caller sees it: the view of its value, or the reason of its refusal
abbrev pub as_answer : {X Y : Type 0} → (X → Y) → Result X Refusal → Result Y Reason
as_answer view (Ok x) = Ok (view x)
as_answer view (Err why) = Err (reason_of why)

-- one check in an order of checks: its number where it fails, else what comes after it
abbrev pub unless : {X : Type 0} → Bool → ℕ → Result X Reason → Result X Reason
unless true number later = later
unless false number later = Err (plain number)
