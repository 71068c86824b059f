-- Which numbers name an edition, and what stands at the others: laws of specs/Editions.antt.
use Prim.Native.Nat.{ℕ, zero, suc, ◌+◌, ◌-◌, ◌*◌, ◌<◌, ◌≤◌}
use mathlib.Core.Bool.{Bool, true, false, ◌&&◌, false≢true}
use mathlib.Core.List.{List, [], ◌∷◌, map}
use mathlib.Core.Logic.{◌⊎◌, inl, inr, ⊎_elim}
use mathlib.Core.Path.{◌≡◌, refl, sym, ap, ◌∙◌}
use native.Mathlib.Decide.{dec_le}
use native.Mathlib.Nat.{not-suc-le-zero, le_of_suc-le-suc, lt_of_not-le}
use native.Mathlib.Omega.{arith}
use lib.Dec.{ltb}
use lib.ListN.{length, get_or, drop, length-map, get_or-map, get_or-eq_default}
use lib.Seq.{get_or-drop}
use borrow.Author.Tests.{lt-ltb, ltb-true}
use Rattle.fips.specs.Words.{Width, w32, w64}
use Rattle.fips.specs.Editions.{Edition, no_edition, editions, edition, known, width, digest_bytes, start, start_rows}

-- a place inside a list does not show what stands for those outside
pub get_or-inside {ℓ} : {A : Type ℓ} (l : List A) (i : ℕ) (d d' : A) → i < length l → get_or l i d ≡ get_or l i d'
get_or-inside [] i d d' h = absurd (not-suc-le-zero h)
get_or-inside (x ∷ xs) zero d d' h = refl
get_or-inside (x ∷ xs) (suc i) d d' h = get_or-inside xs i d d' (le_of_suc-le-suc h)

pub known-within : (e : ℕ) → 0 < e → e ≤ 6 → known e ≡ true
unfolding known editions
known-within e h k = rw (lt-ltb 0 e h, lt-ltb e 7 (omega arith))

both : (a b : Bool) → (a && b) ≡ true → (a ≡ true) × (b ≡ true)
both true b p = (refl, p)
both false b p = (p, absurd (false≢true p))

pub within-known : (e : ℕ) → known e ≡ true → (0 < e) × (e ≤ 6)
unfolding known editions
within-known e p =
    let t = both (ltb 0 e) (ltb e 7) p in
    (ltb-true 0 e t.0, omega (arith, ltb-true e 7 t.1))

pub unknown-none : (e : ℕ) → 6 < e → edition e ≡ no_edition
unfolding edition editions
unknown-none e h = get_or-eq_default editions no_edition h

pub unknown : (e : ℕ) → ((e ≡ 1) → ⊥) → ((e ≡ 2) → ⊥) → ((e ≡ 3) → ⊥) → ((e ≡ 4) → ⊥) → ((e ≡ 5) → ⊥) → ((e ≡ 6) → ⊥) → known e ≡ false
unknown e n1 n2 n3 n4 n5 n6 = go (known e) refl
  where
    go : (k : Bool) → known e ≡ k → k ≡ false
    go false p = refl
    go true p = absurd (let t = within-known e p in omega arith)

-- every number has one of the two widths
pub width-cases : (e : ℕ) → (width e ≡ w32) ⊎ (width e ≡ w64)
unfolding edition editions
width-cases zero = inr refl
width-cases (suc zero) = inl refl
width-cases (suc (suc zero)) = inl refl
width-cases (suc (suc (suc e))) = inr (rest e)
  where
    rest : (e : ℕ) → width (suc (suc (suc e))) ≡ w64
    rest zero = refl
    rest (suc zero) = refl
    rest (suc (suc zero)) = refl
    rest (suc (suc (suc zero))) = refl
    rest (suc (suc (suc (suc e)))) = refl

pub width_some : (e : ℕ) → 0 < (width e).bytes
width_some e =
    ⊎_elim (λ (q : width e ≡ w32). rw q (omega arith)) (λ (q : width e ≡ w64). rw q (omega arith)) (width-cases e)

-- a digest is no longer than the eight words
pub digest-within : (e : ℕ) → digest_bytes e ≤ 8 * (width e).bytes
unfolding edition editions
digest-within zero = omega arith
digest-within (suc zero) = omega arith
digest-within (suc (suc zero)) = omega arith
digest-within (suc (suc (suc zero))) = omega arith
digest-within (suc (suc (suc (suc zero)))) = omega arith
digest-within (suc (suc (suc (suc (suc zero))))) = omega arith
digest-within (suc (suc (suc (suc (suc (suc zero)))))) = omega arith
digest-within (suc (suc (suc (suc (suc (suc (suc e))))))) = omega arith

-- the row of an edition
row_of : (l : List Edition) (e : ℕ) → 0 < e → e < length l → get_or (map (λ x. x.start) (drop 1 l)) (e - 1) [] ≡
    (get_or l e no_edition).start
row_of [] e h k = absurd (not-suc-le-zero k)
row_of (x ∷ l) zero h k = absurd (not-suc-le-zero h)
row_of (x ∷ l) (suc e) h k =
    let f : Edition → List ℕ = λ y. y.start in
    let back : suc e - 1 ≡ e = omega arith in
    rw back
    (get_or-inside (map f l) e [] (f no_edition) (rw (length-map l f) (le_of_suc-le-suc k)) ∙ get_or-map f l e no_edition)

pub start-row : (e : ℕ) → 0 < e → e ≤ 6 → get_or start_rows (e - 1) [] ≡ start e
unfolding start_rows edition editions
start-row e h k = row_of editions e h (omega arith)

-- a number that names no edition has the empty one
pub edition-none : (e : ℕ) → known e ≡ false → edition e ≡ no_edition
unfolding edition editions
edition-none e p = go (dec_le 1 e) (dec_le e 6)
  where
    go : Dec (1 ≤ e) → Dec (e ≤ 6) → edition e ≡ no_edition
    go (yes h) (yes k) = absurd (false≢true (sym p ∙ known-within e h k))
    go (yes h) (no k) = unknown-none e (lt_of_not-le k)
    go (no h) d =
        let z : e ≡ 0 = omega arith in
        rw z

-- no digest has more than 64 bytes
pub digest-short : (e : ℕ) → digest_bytes e ≤ 64
digest-short e =
    ⊎_elim (λ (q : width e ≡ w32). omega (arith, digest-within e, ap (λ (w : Width). w.bytes) q))
    (λ (q : width e ≡ w64). omega (arith, digest-within e, ap (λ (w : Width). w.bytes) q)) (width-cases e)

-- an edition has a digest of some bytes, and no other number has
pub digest-none : (e : ℕ) → known e ≡ false → digest_bytes e ≡ 0
digest-none e p = ap (λ (x : Edition). x.digest_bytes) (edition-none e p)

unfoldable some-digest : (l : List Edition) → Bool
some-digest [] = true
some-digest (x ∷ l) = ltb 0 x.digest_bytes && some-digest l

some_at : (l : List Edition) (i : ℕ) → some-digest l ≡ true → i < length l → 0 < (get_or l i no_edition).digest_bytes
unfolding some-digest
some_at [] i t h = absurd (not-suc-le-zero h)
some_at (x ∷ l) zero t h = ltb-true 0 x.digest_bytes (both (ltb 0 x.digest_bytes) (some-digest l) t).0
some_at (x ∷ l) (suc i) t h = some_at l i (both (ltb 0 x.digest_bytes) (some-digest l) t).1 (le_of_suc-le-suc h)

pub digest-some : (e : ℕ) → known e ≡ true → 0 < digest_bytes e
unfolding edition editions some-digest
digest-some e p =
    let w = within-known e p in
    let back : 1 + (e - 1) ≡ e = omega arith in
    rw (← back) (rw (get_or-drop 1 editions (e - 1) no_edition) at (some_at (drop 1 editions) (e - 1) refl (omega arith)))
