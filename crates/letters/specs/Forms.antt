-- How bodies of a type stand in a record.
use Rattle.std.specs.Prelude.{◌≡◌, ℕ, ◌<◌, ◌≤◌, Bool, true, List, length, Some, None, Option, slice_index}
use Rattle.letters.specs.declared.body.TheConstants.{BODY_SPACE}

-- What a type of bodies gives about its bytes. A type may have bodies of several kinds, each with a byte of its own.
pub record Form (B : Type 0) : Type 0 where
  -- the byte of a body's kind
  pub kind : B → ℕ
  pub bytes : B → List ℕ
  -- whether the type has bodies of the kind
  pub has_kind : ℕ → Bool
  -- whether a body of the kind can have so many bytes
  pub has_length : ℕ → ℕ → Bool
  -- the first byte at which a list is not a body of the kind
  pub wrong : ℕ → List ℕ → Option ℕ
  -- Of a kind, a length and a place: where that begins which is looked at together with the byte at the place. A byte that is
  -- looked at alone begins itself, and so does the first byte of a number.
  pub starts : ℕ → ℕ → ℕ → ℕ
  -- the body of the kind with these bytes, and any body where there is none
  pub body : ℕ → List ℕ → B

-- a place in the bytes of a body, or just after them
abbrev pub Near : Option ℕ → Type 0
Near None = Unit {0}
Near (Some place) = place ≤ BODY_SPACE

-- What it means that the byte at a place is the first wrong one of n bytes of a kind. Bodies of the kind and length can agree
-- with the bytes as far as they are looked at before the place, and none agrees so far and at what begins there as well.
pub record FirstWrong {B : Type 0} (form : Form B) (kind n : ℕ) (bs : List ℕ) (place : ℕ) : Type 0 where
  pub inside : place < n
  pub own : form.starts kind n place ≡ place
  pub before : (b : B) × (form.kind b ≡ kind) × (length (form.bytes b) ≡ n)
      × ((k : ℕ) → k < n → form.starts kind n k < place → slice_index (form.bytes b) k ≡ slice_index bs k)
  pub never : (b : B) → form.kind b ≡ kind → length (form.bytes b) ≡ n
      → ¬ ((k : ℕ) → k < n → form.starts kind n k ≤ place → slice_index (form.bytes b) k ≡ slice_index bs k)

-- the round trip, and that every body has place in a record
pub record LawfulForm {B : Type 0} (form : Form B) : Type 0 where
  -- reading undoes writing
  pub back : (b : B) → form.body (form.kind b) (form.bytes b) ≡ b
  -- a body's own kind, length and bytes are right
  pub kind_right : (b : B) → form.has_kind (form.kind b) ≡ true
  pub length_right : (b : B) → form.has_length (form.kind b) (length (form.bytes b)) ≡ true
  pub right : (b : B) → form.wrong (form.kind b) (form.bytes b) ≡ None
  -- and no other kind or length is: some body has it
  pub kind_known : (kind : ℕ) → form.has_kind kind ≡ true → (b : B) × (form.kind b ≡ kind)
  pub length_known : (kind n : ℕ) → form.has_kind kind ≡ true → form.has_length kind n ≡ true
      → (b : B) × (form.kind b ≡ kind) × (length (form.bytes b) ≡ n)
  -- bytes of a known kind and length in which nothing is wrong are some body's
  pub bytes_known : (kind : ℕ) (bs : List ℕ) → ((i : ℕ) → slice_index bs i < 256) → form.has_kind kind ≡ true → form.has_length kind (length bs) ≡ true
      → form.wrong kind bs ≡ None → (b : B) × (form.kind b ≡ kind) × (form.bytes b ≡ bs)
  -- and what is said to be wrong is the first wrong byte
  pub first_wrong : (kind : ℕ) (bs : List ℕ) (place : ℕ) → form.has_kind kind ≡ true → form.has_length kind (length bs) ≡ true
      → form.wrong kind bs ≡ Some place → FirstWrong form kind (length bs) bs place
  -- nothing begins behind one of its bytes
  pub starts_back : (kind n k : ℕ) → form.starts kind n k ≤ k
  -- what is wrong is wrong within the space
  pub near : (kind : ℕ) (bs : List ℕ) → length bs ≤ BODY_SPACE → Near (form.wrong kind bs)
  pub short : (kind n : ℕ) → form.has_length kind n ≡ true → n ≤ BODY_SPACE
