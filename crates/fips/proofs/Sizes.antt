-- What the edition lookup answers, and what every crate above may know of an edition: laws of specs/Sizes.antt. Number and sizes settle
-- what is answered, `sizes-same`, and it is `sizes_of`: `sized-is`, `is-sized`.
-- An edition's number is below 2^16, `known_small`; every number has one of two widths, `width-of`; a block has some bytes, at most 128,
-- `block-some` and `block_within`.
use Prim.Native.Nat.{ℕ, ◌^◌, ◌≤◌, ◌<◌}
use mathlib.Core.Bool.{Bool, true, false, cond, not}
use mathlib.Core.List.{[], ◌∷◌}
use mathlib.Core.Logic.{⊎_elim}
use mathlib.Core.Path.{◌≡◌, refl, sym, ap, subst, ◌∙◌}
use native.Mathlib.Omega.{arith}
use lib.Dec.{eqb}
use Rattle.std.specs.Prelude.{Option, Some, None, is_some}
use Rattle.answers.proofs.Outcome.{outcome-settled}
use Rattle.answers.specs.Judged.{◌when◌, first, Judged}
use Rattle.fips.specs.declared.lookup.EditionSizes.{EditionSizes}
use Rattle.fips.specs.Words.{Width, w32, w64, word, block_bytes}
use Rattle.fips.specs.Editions.{Edition, known, width, digest_bytes}
use Rattle.fips.specs.Sizes.{Sizes, sizes, no_sizes, sizes_number, sizes_told, Sized, is_narrow, width_of}
use Rattle.fips.proofs.Editions.{within-known, width-cases, width_some, edition-none, digest-none, digest-some}

-- ---- the lookup

abbrev the_sizes : ℕ → ℕ → ℕ → EditionSizes
the_sizes w b d = record { word = w; block = b; digest = d }

-- what it answers
unfoldable pub sizes_of : ℕ → Option EditionSizes
sizes_of e = cond (known e) (Some (the_sizes (word (width e)) (block_bytes (width e)) (digest_bytes e))) None

sized_of : (e : ℕ) → Sized e (sizes_number (sizes_of e)) (sizes_told (sizes_of e))
unfolding sizes_of first
sized_of e = go (known e)
  where
    go : (k : Bool) →
        let r = cond k (Some (the_sizes (word (width e)) (block_bytes (width e)) (digest_bytes e))) None in
        Judged (5 when not k ∷ []) no_sizes (sizes (word (width e)) (block_bytes (width e)) (digest_bytes e)) (sizes_number r)
        (sizes_told r)
    go true = record { answer = refl; leaves = refl }
    go false = record { answer = refl; leaves = refl }

pub is-sized : (e : ℕ) (r : Option EditionSizes) → r ≡ sizes_of e → Sized e (sizes_number r) (sizes_told r)
is-sized e r p = subst (λ (x : Option EditionSizes). Sized e (sizes_number x) (sizes_told x)) (sym p) (sized_of e)

-- number and sizes settle it
same_case : (r s : Option EditionSizes) → sizes_number r ≡ sizes_number s → sizes_told r ≡ sizes_told s → r ≡ s
same_case (Some r) (Some s) n t = λ i. Some (the_sizes (t i).word (t i).block (t i).digest)
same_case (Some r) None n t = absurd (omega arith)
same_case None (Some s) n t = absurd (omega arith)
same_case None None n t = refl

pub sizes-same : (e : ℕ) (r s : Option EditionSizes) → Sized e (sizes_number r) (sizes_told r) → Sized e (sizes_number s) (sizes_told s) →
    r ≡ s
sizes-same e r s j k = let o = outcome-settled j k in same_case r s o.0 o.1

pub sized-is : (e : ℕ) (r : Option EditionSizes) → Sized e (sizes_number r) (sizes_told r) → r ≡ sizes_of e
sized-is e r j = sizes-same e r (sizes_of e) j (sized_of e)

pub known-told : (e : ℕ) (r : Option EditionSizes) → Sized e (sizes_number r) (sizes_told r) → is_some r ≡ known e
unfolding sizes_of
known-told e r j = ap is_some (sized-is e r j) ∙ go (known e)
  where
    go : (k : Bool) → is_some (cond k (Some (the_sizes (word (width e)) (block_bytes (width e)) (digest_bytes e))) None) ≡ k
    go true = refl
    go false = refl

-- what the lookup says of an edition, and that it refuses the others
pub sizes-known : (e : ℕ) {r : Option EditionSizes} {s : EditionSizes} → Sized e (sizes_number r) (sizes_told r) → r ≡ Some s →
    (known e ≡ true) × (s.word ≡ word (width e)) × (s.block ≡ block_bytes (width e)) × (s.digest ≡ digest_bytes e)
unfolding first
sizes-known e {s = s} j p =
    go (known e) refl (subst (λ (x : Option EditionSizes). Sized e (sizes_number x) (sizes_told x)) p j)
  where
    go : (k : Bool) → known e ≡ k →
        Judged (5 when not k ∷ []) no_sizes (sizes (word (width e)) (block_bytes (width e)) (digest_bytes e)) 0
        (sizes s.word s.block s.digest) →
        (known e ≡ true) × (s.word ≡ word (width e)) × (s.block ≡ block_bytes (width e)) × (s.digest ≡ digest_bytes e)
    go true q i = let t = i.leaves in (q, ap (λ (x : Sizes). x.word) t, ap (λ (x : Sizes). x.block) t, ap (λ (x : Sizes). x.digest) t)
    go false q i = absurd (omega (arith, i.answer))

pub sizes-unknown : (e : ℕ) {r : Option EditionSizes} → Sized e (sizes_number r) (sizes_told r) → r ≡ None → known e ≡ false
unfolding first
sizes-unknown e j p = go (known e) refl (ap sizes_number (sym p) ∙ j.answer)
  where
    go : (k : Bool) → known e ≡ k → 5 ≡ first (5 when not k ∷ []) → known e ≡ false
    go true q i = absurd (omega arith)
    go false q i = q

pub narrow-word : (e w : ℕ) → w ≡ word (width e) → eqb w 32 ≡ is_narrow e
unfolding is_narrow
narrow-word e w p = ⊎_elim (λ (q : width e ≡ w32). rw (p, q)) (λ (q : width e ≡ w64). rw (p, q)) (width-cases e)

pub narrow-none : (e : ℕ) → known e ≡ false → is_narrow e ≡ false
unfolding is_narrow
narrow-none e p = ap (λ (x : Edition). eqb x.width.bytes 4) (edition-none e p)

pub width-of : (e : ℕ) → width e ≡ width_of (is_narrow e)
unfolding is_narrow
width-of e =
    ⊎_elim (λ (q : width e ≡ w32). q ∙ sym (ap (λ (p : Width). width_of (eqb p.bytes 4)) q))
    (λ (q : width e ≡ w64). q ∙ sym (ap (λ (p : Width). width_of (eqb p.bytes 4)) q)) (width-cases e)

pub thin-bytes : (t : Bool) → (0 < (width_of t).bytes) × ((width_of t).bytes ≤ 8)
thin-bytes true = (omega arith, omega arith)
thin-bytes false = (omega arith, omega arith)

pub bytes-within : (e : ℕ) → (width e).bytes ≤ 8
bytes-within e = rw (width-of e) (thin-bytes (is_narrow e)).1

pub block-some : (e : ℕ) → 0 < block_bytes (width e)
block-some e = omega (arith, width_some e)

pub block_within : (e : ℕ) → block_bytes (width e) ≤ 128
block_within e = omega (arith, bytes-within e)

pub size-unknown : (e n : ℕ) → n ≡ digest_bytes e → n ≡ 0 → known e ≡ false
size-unknown e n p z = go (known e) refl
  where
    go : (k : Bool) → known e ≡ k → k ≡ false
    go false q = refl
    go true q = absurd (omega (arith, digest-some e q))

pub size-known : (e n : ℕ) → n ≡ digest_bytes e → (n ≡ 0 → ⊥) → known e ≡ true
size-known e n p z = go (known e) refl
  where
    go : (k : Bool) → known e ≡ k → k ≡ true
    go true q = refl
    go false q = absurd (z (p ∙ digest-none e q))

pub known_small : (e : ℕ) → known e ≡ true → e < 2 ^ 16
known_small e p = omega (arith, within-known e p)
