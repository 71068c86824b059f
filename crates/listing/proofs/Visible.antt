-- A name as it is shown: each byte of it is one that prints and no blank, `shown-visible`, and it is at most four times as long as the
-- name, `shown-short`. `shown-more` is the loop that shows byte by byte.
use Prim.Native.Nat.{ℕ, suc, ◌+◌, ◌*◌, ◌/◌, ◌%◌, ◌≤◌, ◌<◌, min}
use Rattle.std.specs.Prelude.{◌&&◌}
use mathlib.Core.Bool.{Bool, true, false, not, cond}
use mathlib.Core.List.{List, [], ◌∷◌, ◌++◌, append_assoc, append-nil}
use mathlib.Core.Path.{◌≡◌, refl, sym, ap, ◌∙◌}
use native.Mathlib.Nat.{mod-lt}
use native.Mathlib.Omega.{arith}
use lib.Dec.{eqb, leb, ltb}
use lib.ListN.{length, get_or, take, drop, length-append, take-append-drop}
use lib.Seq.{take-suc, take-nil}
use borrow.Author.Tests.{le-leb, ltb-true, ltb-false}
use Rattle.std.specs.Char.{is_ascii_graphic}
use Rattle.slices.specs.AtFront.{at_front}
use Rattle.slices.specs.Below.{Bytes}
use Rattle.slices.specs.Tests.{holds, every}
use Rattle.slices.proofs.Tests.{cond_both, holds_at, holds_on, holds-last}
use Rattle.lists.specs.Lists.{in_name}
use Rattle.lines.specs.Code.Putting.{put, Put}
use Rattle.listing.specs.Shown.{plain, hex_digit, shown_byte, shown}

-- ---- one byte

pub plain-graphic : (b : ℕ) → plain b ≡ (is_ascii_graphic b && not (eqb b 0x5c))
unfolding plain holds
plain-graphic b = go (leb 0x21 b) (leb b 0x7e) (not (eqb b 0x5c))
  where
    go : (p q r : Bool) → holds (p ∷ q ∷ r ∷ []) ≡ (p && q && r)
    go true true true = refl
    go true true false = refl
    go true false r = refl
    go false q r = refl

pub itself : (b : ℕ) → plain b ≡ true → b ∷ [] ≡ shown_byte b
unfolding shown_byte
itself b h = rw h

pub by_digits : (b h l : ℕ) → plain b ≡ false → h ≡ hex_digit (b / 16) → l ≡ hex_digit (b % 16) → 0x5c ∷ 0x78 ∷ h ∷ l ∷ [] ≡ shown_byte b
unfolding shown_byte
by_digits b h l p e f = rw (p, e, f)

-- ---- byte by byte

shown-append : (xs ys : List ℕ) → shown (xs ++ ys) ≡ shown xs ++ shown ys
unfolding shown
shown-append [] ys = refl
shown-append (x ∷ xs) ys =
    ap (λ (l : List ℕ). shown_byte x ++ l) (shown-append xs ys) ∙ sym (append_assoc (shown_byte x) (shown xs) (shown ys))

pub shown-more : (name : List ℕ) (i : ℕ) → i < length name → shown (take i name) ++ shown_byte (get_or name i 0) ≡ shown (take (suc i) name)
unfolding shown
shown-more name i h =
    rw (take-suc name i 0 h)
    (sym (shown-append (take i name) (get_or name i 0 ∷ [])
    ∙ ap (λ (l : List ℕ). shown (take i name) ++ l) (append-nil (shown_byte (get_or name i 0)))))

-- no byte shown yet
pub none-shown : (out : List ℕ) (at end : ℕ) → end ≡ min at (length out) → Put at (shown []) out end out
unfolding shown put at_front
none-shown out at end e = (omega arith, sym (rw (take-nil (length (drop at out))) (take-append-drop at out)))

-- ---- what is shown

visible : (b : ℕ) → 0x21 ≤ b → b ≤ 0x7e → in_name b ≡ true
visible b g h = holds_on _ _ (le-leb 0x21 b g) ∙ holds-last _ ∙ le-leb b 0x7e h

plain-visible : (b : ℕ) → plain b ≡ true → in_name b ≡ true
unfolding plain
plain-visible b h = holds_on _ _ (holds_at _ h 0) ∙ holds-last _ ∙ holds_at _ h 1

digit-visible : (n : ℕ) → n < 16 → in_name (hex_digit n) ≡ true
digit-visible n h = go (ltb n 10) refl
  where
    go : (t : Bool) → ltb n 10 ≡ t → in_name (cond t (48 + n) (87 + n)) ≡ true
    go true e = let k = ltb-true n 10 e in visible (48 + n) (omega arith) (omega arith)
    go false e = let k = ltb-false n 10 e in visible (87 + n) (omega arith) (omega arith)

every_append : (xs ys : List ℕ) → every in_name xs ≡ true → every in_name ys ≡ true → every in_name (xs ++ ys) ≡ true
unfolding every
every_append [] ys g h = h
every_append (x ∷ xs) ys g h = let t = cond_both (in_name x) (every in_name xs) g in rw t.0 (every_append xs ys t.1 h)

byte-visible : (b : ℕ) → b < 256 → every in_name (shown_byte b) ≡ true
unfolding shown_byte every holds
byte-visible b h = go (plain b) refl
  where
    go : (t : Bool) → plain b ≡ t →
        every in_name (cond t (b ∷ []) (0x5c ∷ 0x78 ∷ hex_digit (b / 16) ∷ hex_digit (b % 16) ∷ [])) ≡ true
    go true e = rw (plain-visible b e)
    go false e =
        rw (
          visible 0x5c (omega arith) (omega arith),
          visible 0x78 (omega arith) (omega arith),
          digit-visible (b / 16) (omega arith),
          digit-visible (b % 16) (mod-lt b (omega arith)),
        )

pub shown-visible : (name : List ℕ) → Bytes name → every in_name (shown name) ≡ true
unfolding shown every
shown-visible [] h = refl
shown-visible (b ∷ bs) h = every_append (shown_byte b) (shown bs) (byte-visible b (h 0)) (shown-visible bs (λ i. h (suc i)))

byte-short : (b : ℕ) → length (shown_byte b) ≤ 4
unfolding shown_byte
byte-short b = go (plain b)
  where
    go : (t : Bool) → length (cond t (b ∷ []) (0x5c ∷ 0x78 ∷ hex_digit (b / 16) ∷ hex_digit (b % 16) ∷ [])) ≤ 4
    go true = omega arith
    go false = omega arith

pub shown-short : (name : List ℕ) → length (shown name) ≤ 4 * length name
unfolding shown
shown-short [] = omega arith
shown-short (b ∷ bs) = omega (arith, length-append (shown_byte b) (shown bs), byte-short b, shown-short bs)
