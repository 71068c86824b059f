-- A message is finished from its tail's whole blocks and its rest: laws of `absorbed` and `finished`. Main: `finished-after` and
-- `finished-split`.
use Prim.Native.Nat.{ℕ, ◌+◌, ◌-◌, ◌*◌, ◌/◌, ◌%◌, ◌<◌}
use mathlib.Core.Bool.{Bool}
use mathlib.Core.List.{List, ◌++◌, append_assoc}
use mathlib.Core.Path.{◌≡◌, refl, sym, ap, ap₂, ◌∙◌}
use native.Mathlib.Nat.{div-add-mod', mod-lt, mod-le}
use native.Mathlib.Omega.{arith}
use lib.ListN.{length, take, drop, length-append, length-drop, take-append-drop}
use lib.Seq.{length-take-le, take_all}
use Rattle.fips.specs.Words.{Width, block_bytes}
use Rattle.fips.specs.Padding.{zeros}
use Rattle.fips.specs.Editions.{width}
use Rattle.fips.proofs.Editions.{width_some}
use Rattle.fips.proofs.Padding.{zeros-period}
use Rattle.fips.specs.Sizes.{is_narrow, width_of}
use Rattle.dwsha2.specs.Code.Hashing.{absorbed, last_length, last_bytes, finished}
use Rattle.fips.proofs.Sizes.{width-of}
use Rattle.dwsha2.proofs.Absorbed.{absorbed-append, absorbed-rest}

-- finishing absorbs the last bytes
pub finished-absorbed : (e : ℕ) (H : List ℕ) (c : ℕ) (tail : List ℕ) (x b : ℕ) →
    finished e H c tail x b ≡ absorbed e H (last_bytes (width e) c tail x (b % 8))
unfolding finished absorbed
finished-absorbed e H c tail x b = refl

-- whole blocks before a tail come before its last bytes
last-after : (p : Width) (c k : ℕ) (a t : List ℕ) (x b : ℕ) → length a ≡ k * block_bytes p →
    last_bytes p c (a ++ t) x b ≡ a ++ last_bytes p c t x b
unfolding last_bytes
last-after p c k a t x b e =
    let same : zeros p.bytes (length (a ++ t)) ≡ zeros p.bytes (length t) =
    ap (zeros p.bytes) (length-append a t ∙ ap (λ (n : ℕ). n + length t) e) ∙ zeros-period p.bytes k (length t) in
    rw same (simp append_assoc)

-- whole blocks absorbed before finishing are as many bytes in front of the tail
pub finished-after : (e : ℕ) (H : List ℕ) (c k : ℕ) (a t : List ℕ) (x b : ℕ) → length a ≡ k * block_bytes (width e) →
    finished e (absorbed e H a) c t x b ≡ finished e H c (a ++ t) x b
finished-after e H c k a t x b whole =
    let L = last_bytes (width e) c t x (b % 8) in
    finished-absorbed e (absorbed e H a) c t x b
    ∙ sym (absorbed-append e H k a L (sym whole))
    ∙ ap (absorbed e H) (sym (last-after (width e) c k a t x (b % 8) whole))
    ∙ sym (finished-absorbed e H c (a ++ t) x b)

-- the tail's whole blocks, absorbed, and then the last bytes of its rest
pub finished-split : (e : ℕ) (H : List ℕ) (c k : ℕ) (a t : List ℕ) (x b : ℕ) →
    length a ≡ k * block_bytes (width e) → length t < block_bytes (width e) →
    absorbed e (absorbed e H (a ++ t)) (last_bytes (width e) c t x (b % 8)) ≡ finished e H c (a ++ t) x b
finished-split e H c k a t x b whole rest =
    ap (λ (W : List ℕ). absorbed e W (last_bytes (width e) c t x (b % 8))) (absorbed-rest e H k a t (sym whole) rest)
    ∙ sym (finished-absorbed e (absorbed e H a) c t x b)
    ∙ finished-after e H c k a t x b whole

-- a tail is cut at its last whole block
pub cut : (n : ℕ) (tail : List ℕ) → length (take (length tail - length tail % n) tail) ≡ length tail / n * n
cut n tail =
    length-take-le (length tail - length tail % n) tail (omega arith)
    ∙ omega (arith, div-add-mod' (length tail) n)

pub cut-rest : (n : ℕ) (tail : List ℕ) → length (drop (length tail - length tail % n) tail) ≡ length tail % n
cut-rest n tail = length-drop (length tail - length tail % n) tail ∙ omega (arith, mod-le (length tail) n)

-- the steps that `finish` takes, put together
pub finish-law : (e : ℕ) (H tail : List ℕ) (c x b : ℕ) (last : List ℕ) {t : Bool} {n k end : ℕ} {h out : List ℕ} →
    t ≡ is_narrow e → n ≡ block_bytes (width_of t) → k ≡ length tail - (length tail - length tail % n) →
    take (last_length (width_of t) (length (take k (drop (length tail - length tail % n) tail)))) last
    ≡ last_bytes (width_of t) c (take k (drop (length tail - length tail % n) tail)) x (b % 8) →
    h ≡ absorbed e H tail → end ≡ last_length (width_of t) (length tail % n) → out ≡ absorbed e h (take end last) →
    out ≡ finished e H c tail x b
finish-law e H tail c x b last {t} {n} {k} {end} {h} {out} is_t is_n is_k is_last is_h is_end is_out =
    let w = length tail - length tail % n in
    let a = take w tail in
    let r = drop w tail in
    let thin : width_of t ≡ width e = ap width_of is_t ∙ sym (width-of e) in
    let size : n ≡ block_bytes (width e) = is_n ∙ ap block_bytes thin in
    let some : 0 < n = rw size (omega (arith, width_some e)) in
    let small : length tail % n < n = mod-lt (length tail) some in
    let all : take k r ≡ r = take_all k r (omega (arith, cut-rest n tail, mod-le (length tail) n)) in
    let same : last_length (width_of t) (length (take k r)) ≡ end =
    ap (λ (m : ℕ). last_length (width_of t) m) (ap length all ∙ cut-rest n tail) ∙ sym is_end in
    let L : take end last ≡ last_bytes (width e) c r x (b % 8) =
    ap (λ (m : ℕ). take m last) (sym same) ∙ is_last ∙ ap₂ (λ (p : Width) (q : List ℕ). last_bytes p c q x (b % 8)) thin all in
    let back : tail ≡ a ++ r = sym (take-append-drop w tail) in
    is_out
    ∙ ap₂ (absorbed e) (is_h ∙ ap (absorbed e H) back) L
    ∙ finished-split e H c (length tail / n) a r x b (cut n tail ∙ ap (λ (m : ℕ). length tail / n * m) size)
    (rw (cut-rest n tail, ← size) small)
    ∙ ap (λ (q : List ℕ). finished e H c q x b) (sym back)
