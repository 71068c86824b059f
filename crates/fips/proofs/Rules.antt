-- The constants meet their rules: SPEC, "Constants, by rule". `root_table-rule` is the one law, over the exponent, the width and the
-- primes taken; so `round32-rule`, `round64-rule`, `round-halves` and `start-rule`. `round_words-lt` and `start-lt`: each word is below
-- 2^w.
use mathlib.Core.Path.{◌≡◌, refl, sym, ap, ◌∙◌}
use mathlib.Core.List.{List, [], ◌∷◌, map}
use mathlib.Core.Logic.{◌≢◌}
use Prim.Native.Nat.{ℕ, zero, suc, ◌+◌, ◌/◌, ◌%◌, ◌^◌, ◌≤◌, ◌<◌}
use Prim.Native.String.{String}
use native.Mathlib.Nat.{mod-lt, le_of_suc-le-suc, not-suc-le-zero, zero-add}
use native.Mathlib.Omega.{arith}
use lib.Bits.{bit_xor, xor_lt}
use lib.ListN.{length, get_or, take, drop, replicate, length-map, length-drop}
use lib.Seq.{get_or-take, get_or-drop, length-take-le, ext_get_or}
use lib.Pow.{pow_pos}
use lib.Dec.{lit<}
use Rattle.fips.specs.Bits.{bits_of}
use Rattle.fips.specs.Words.{Width, w32, w64, word}
use Rattle.fips.specs.Primes.{primes}
use Rattle.fips.specs.Roots.{root_word}
use Rattle.fips.specs.Constants.{round_words, start224, start256, start384, start512, ascii, generated}
use Rattle.fips.specs.Editions.{Edition, no_edition, editions, edition, width, start}
use Rattle.fips.specs.Rules.{PrimeWord, RootTable, StartRule}
use Rattle.fips.proofs.Primes.{length-primes, prime-at, place-unique}
use Rattle.fips.proofs.Chain.{EightWords, hash_from-eight}
use Rattle.fips.proofs.Roots.{root_word-rule, root_word-unique, root_word-upper, root_word-lt}

-- ---- tables

get_d_map : (f : ℕ → ℕ) (xs : List ℕ) (i : ℕ) → i < length xs → get_or (map f xs) i 0 ≡ f (get_or xs i 0)
get_d_map f [] i h = absurd (not-suc-le-zero h)
get_d_map f (x ∷ xs) zero h = refl
get_d_map f (x ∷ xs) (suc i) h = get_d_map f xs i (le_of_suc-le-suc h)

module _ (f : ℕ → ℕ) (k n : ℕ) (fits : k + n ≤ 80) where
  taken : length (take n (drop k primes)) ≡ n
  taken = length-take-le n (drop k primes) (rw (length-drop, length-primes) (omega arith))

  length-table : length (map f (take n (drop k primes))) ≡ n
  length-table = length-map (take n (drop k primes)) f ∙ taken

  table_at : (i : ℕ) → i < n → get_or (map f (take n (drop k primes))) i 0 ≡ f (get_or primes (k + i) 0)
  table_at i h =
      get_d_map f (take n (drop k primes)) i (rw taken h)
      ∙ ap f (get_or-take n (drop k primes) i 0 h ∙ get_or-drop k primes i 0)

-- the rule, once: the root words of primes in order
pub root_table-rule : (e w k n : ℕ) → e ≢ 0 → k + n ≤ 80 → RootTable e w k n (map (root_word e w) (take n (drop k primes)))
root_table-rule e w k n h fits = record { count = length-table (root_word e w) k n fits; words = words }
  where
    words : (i : ℕ) → i < n → PrimeWord e w (k + i) (get_or (map (root_word e w) (take n (drop k primes))) i 0)
    words i l =
        rw (table_at (root_word e w) k n fits i l)
        (record {
          prime = get_or primes (k + i) 0;
          place = prime-at (k + i) (omega arith);
          root = root_word-rule e w (get_or primes (k + i) 0) h;
        })

-- the rule decides the table
pub prime_word-unique : (e w i x y : ℕ) → PrimeWord e w i x → PrimeWord e w i y → x ≡ y
prime_word-unique e w i x y a b =
    let same : b.prime ≡ a.prime = place-unique i b.prime a.prime b.place a.place in
    root_word-unique e w a.prime x y a.root (rw same at b.root)

pub root_table-unique : (e w k n : ℕ) (xs ys : List ℕ) → RootTable e w k n xs → RootTable e w k n ys → xs ≡ ys
root_table-unique e w k n xs ys a b = ext_get_or 0 xs ys (a.count ∙ sym b.count) same
  where
    same : (i : ℕ) → i < length xs → get_or xs i 0 ≡ get_or ys i 0
    same i h =
        let l : i < n = rw a.count at h in
        prime_word-unique e w (k + i) (get_or xs i 0) (get_or ys i 0) (a.words i l) (b.words i l)

-- ---- round constants

module _ (p : Width) (h : p.rounds ≤ 80) where
  pub round-rule : RootTable 3 (word p) 0 p.rounds (round_words p)
  unfolding round_words
  round-rule = root_table-rule 3 (word p) 0 p.rounds (omega arith) (omega arith)

  pub round_words-at : (i : ℕ) → i < p.rounds → get_or (round_words p) i 0 ≡ root_word 3 (word p) (get_or primes i 0)
  unfolding round_words
  round_words-at i l = rw zero-add at (table_at (root_word 3 (word p)) 0 p.rounds (omega arith) i l)

  pub length-round_words : length (round_words p) ≡ p.rounds
  length-round_words = round-rule.count

pub round32-rule : RootTable 3 32 0 64 (round_words w32)
round32-rule = round-rule w32 (omega arith)

pub round64-rule : RootTable 3 64 0 80 (round_words w64)
round64-rule = round-rule w64 (omega arith)

-- a round constant of 64 bits, cut to its upper half, is that of 32
pub round-halves : (i : ℕ) → i < 64 → get_or (round_words w32) i 0 ≡ get_or (round_words w64) i 0 / 2 ^ 32
round-halves i h =
    round_words-at w32 (omega arith) i h
    ∙ root_word-upper 3 32 32 (get_or primes i 0) (omega arith)
    ∙ ap (λ (x : ℕ). x / 2 ^ 32) (sym (round_words-at w64 (omega arith) i (omega arith)))

-- ---- starting words

pub start-rule : StartRule start
unfolding edition editions start224 start256 start384 start512 generated
start-rule =
    record {
      sha224 = refl;
      sha256 = root_table-rule 2 32 0 8 (omega arith) (omega arith);
      sha384 = root_table-rule 2 64 8 8 (omega arith) (omega arith);
      sha512 = root_table-rule 2 64 0 8 (omega arith) (omega arith);
      sha512-224 = refl;
      sha512-256 = refl;
    }

-- ---- each word is below 2^w

map-lt : (f : ℕ → ℕ) (w : ℕ) → ((x : ℕ) → f x < 2 ^ w) → (xs : List ℕ) (i : ℕ) → get_or (map f xs) i 0 < 2 ^ w
map-lt f w h [] i = pow_pos w
map-lt f w h (x ∷ xs) zero = h x
map-lt f w h (x ∷ xs) (suc i) = map-lt f w h xs i

pub round_words-lt : (p : Width) (i : ℕ) → get_or (round_words p) i 0 < 2 ^ word p
unfolding round_words
round_words-lt p = map-lt (root_word 3 (word p)) (word p) (root_word-lt 3 (word p)) (take p.rounds primes)

root_start-eight : (p : Width) (k : ℕ) → k + 8 ≤ 80 → EightWords p (map (root_word 2 (word p)) (take 8 (drop k primes)))
root_start-eight p k h =
    record {
      count = length-table (root_word 2 (word p)) k 8 h;
      below = map-lt (root_word 2 (word p)) (word p) (root_word-lt 2 (word p)) (take 8 (drop k primes));
    }

lower-eight : (H : List ℕ) → EightWords w64 H → EightWords w32 (map (λ x. x % 2 ^ 32) H)
lower-eight H h =
    record {
      count = length-map H (λ x. x % 2 ^ 32) ∙ h.count;
      below = map-lt (λ x. x % 2 ^ 32) 32 (λ x. mod-lt x (pow_pos 32)) H;
    }

module _ (mask : ℕ) (small : mask < 2 ^ 64) where
  xor_below : (H : List ℕ) → ((i : ℕ) → get_or H i 0 < 2 ^ 64) → (i : ℕ) → get_or (map (bit_xor mask) H) i 0 < 2 ^ 64
  xor_below [] h i = h i
  xor_below (x ∷ H) h zero = xor_lt 64 mask x small (h zero)
  xor_below (x ∷ H) h (suc i) = xor_below H (λ j. h (suc j)) i

  xor-eight : (H : List ℕ) → EightWords w64 H → EightWords w64 (map (bit_xor mask) H)
  xor-eight H h = record { count = length-map H (bit_xor mask) ∙ h.count; below = xor_below H h.below }

-- what holds of each edition, and where there is none, holds at every number
abbrev Each : (Edition → Type 0) → List Edition → Type 0
Each P [] = Unit
Each P (x ∷ xs) = P x × Each P xs

each_at : (P : Edition → Type 0) (xs : List Edition) → Each P xs → P no_edition → (e : ℕ) → P (get_or xs e no_edition)
each_at P [] h d e = d
each_at P (x ∷ xs) h d zero = h.0
each_at P (x ∷ xs) h d (suc e) = each_at P xs h.1 d e

pub start-eight : (e : ℕ) → EightWords (width e) (start e)
unfolding edition editions start224 start256 start384 start512 generated
start-eight = each_at (λ x. EightWords x.width x.start) editions rows empty
  where
    empty : EightWords w64 (replicate 8 0)
    empty = record { count = refl; below = map-lt (λ x. 0) 64 (λ x. pow_pos 64) (replicate 8 0) }

    s256 : EightWords w32 start256
    s256 = root_start-eight w32 0 (omega arith)

    s384 : EightWords w64 start384
    s384 = root_start-eight w64 8 (omega arith)

    s512 : EightWords w64 start512
    s512 = root_start-eight w64 0 (omega arith)

    begun : EightWords w64 (map (bit_xor 0xa5a5a5a5a5a5a5a5) start512)
    begun = xor-eight 0xa5a5a5a5a5a5a5a5 (lit< tt) start512 s512

    made : (text : String) → EightWords w64 (generated text)
    made text = hash_from-eight w64 (map (bit_xor 0xa5a5a5a5a5a5a5a5) start512) (bits_of (ascii text)) begun

    rows : Each (λ x. EightWords x.width x.start) editions
    rows = (empty, (lower-eight start384 s384, (s256, (s384, (s512, (made "SHA-512/224", (made "SHA-512/256", tt)))))))

pub length-start : (e : ℕ) → length (start e) ≡ 8
length-start e = (start-eight e).count

pub start-lt : (e i : ℕ) → get_or (start e) i 0 < 2 ^ word (width e)
start-lt e = (start-eight e).below
