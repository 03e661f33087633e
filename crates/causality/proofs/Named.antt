-- What led to what is the same where names stand for the letters.
use Rattle.std.proofs.Common.{◌≡◌, ℕ, [], ◌∷◌, sym, refl, ap, ◌∙◌, subst, inl, inr}
use Rattle.letters.specs.Lists.{◌∈◌, here, there}
use Rattle.causality.specs.History.{History, posted, shown, posted_letters, Seen, Before, LedTo, direct, through, map_letters}

module _ {A L : Type 0} (f : A → L) where
  -- what was seen by a name was seen
  pub seen_told : (s : ℕ) (i : L) (h : History A) → Seen s i (map_letters f h) → (x : A) × Seen s x h × (f x ≡ i)
  seen_told s i [] x = absurd x
  seen_told s i (posted t m ∷ h) (inl e) = (m, inl (e.0, refl), sym e.1)
  seen_told s i (posted t m ∷ h) (inr x) = let r = seen_told s i h x in (r.0, inr r.1, r.2)
  seen_told s i (shown t m ∷ h) (inl e) = (m, inl (e.0, refl), sym e.1)
  seen_told s i (shown t m ∷ h) (inr x) = let r = seen_told s i h x in (r.0, inr r.1, r.2)

  seen_named : (s : ℕ) (x : A) (h : History A) → Seen s x h → Seen s (f x) (map_letters f h)
  seen_named s x [] i = absurd i
  seen_named s x (posted t m ∷ h) (inl e) = inl (e.0, ap f e.1)
  seen_named s x (posted t m ∷ h) (inr i) = inr (seen_named s x h i)
  seen_named s x (shown t m ∷ h) (inl e) = inl (e.0, ap f e.1)
  seen_named s x (shown t m ∷ h) (inr i) = inr (seen_named s x h i)

  before_named : (x y : A) (h : History A) → Before x y h → Before (f x) (f y) (map_letters f h)
  before_named x y [] b = absurd b
  before_named x y (posted t m ∷ h) (inl e) = inl (ap f e.0, seen_named t x h e.1)
  before_named x y (posted t m ∷ h) (inr b) = inr (before_named x y h b)
  before_named x y (shown t m ∷ h) b = before_named x y h b

  pub led_named : (h : History A) (x y : A) → LedTo h x y → LedTo (map_letters f h) (f x) (f y)
  led_named h x y (direct b) = direct (before_named x y h b)
  led_named h x y (through {k = k} a b) = through (led_named h x k a) (led_named h k y b)

  -- two letters, the second posted, for which i and j stand
  pub record PairOf (R : A → A → Type 0) (h : History A) (i j : L) : Type 0 where
    pub before : A
    pub after : A
    pub led : R before after
    pub before_is : f before ≡ i
    pub after_is : f after ≡ j
    pub after_in : after ∈ posted_letters h

  before_told : (i j : L) (h : History A) → Before i j (map_letters f h) → PairOf (λ x y. Before x y h) h i j
  before_told i j [] b = absurd b
  before_told i j (posted t m ∷ h) (inl e) =
      let r = seen_told t i h e.1 in
      record { before = r.0; after = m; led = inl (refl, r.1); before_is = r.2; after_is = sym e.0; after_in = here refl }
  before_told i j (posted t m ∷ h) (inr b) =
      let r = before_told i j h b in
      record { before = r.before; after = r.after; led = inr r.led; before_is = r.before_is; after_is = r.after_is; after_in = there r.after_in }
  before_told i j (shown t m ∷ h) b =
      let r = before_told i j h b in
      record { before = r.before; after = r.after; led = r.led; before_is = r.before_is; after_is = r.after_is; after_in = r.after_in }

  -- where letters of one name are one letter
  module _ (h : History A) (known : (x y : A) → Before x y h → x ∈ posted_letters h)
      (unique : (x y : A) → x ∈ posted_letters h → y ∈ posted_letters h → f x ≡ f y → x ≡ y) where
    pub first_known : (x y : A) → LedTo h x y → x ∈ posted_letters h
    first_known x y (direct b) = known x y b
    first_known x y (through {k = k} a b) = first_known x k a

    pub led_from_names : (i j : L) → LedTo (map_letters f h) i j → PairOf (LedTo h) h i j
    led_from_names i j (direct b) =
        let r = before_told i j h b in
        record { before = r.before; after = r.after; led = direct r.led; before_is = r.before_is; after_is = r.after_is; after_in = r.after_in }
    led_from_names i j (through {k = k} a b) =
        let p = led_from_names i k a in
        let q = led_from_names k j b in
        let same : p.after ≡ q.before = unique p.after q.before p.after_in (first_known q.before q.after q.led) (p.after_is ∙ sym q.before_is) in
        record {
          before = p.before;
          after = q.after;
          led = through p.led (subst (λ (z : A). LedTo h z q.after) (sym same) q.led);
          before_is = p.before_is;
          after_is = q.after_is;
          after_in = q.after_in;
        }
