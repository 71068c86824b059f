-- A turn puts one byte behind those that are there. Assumes nothing.
use Rattle.std.proofs.Common.{arith, ◌≡◌, refl, sym, ◌∙◌, ℕ, zero, suc, ◌+◌, ◌*◌, ◌<◌, List, [], ◌∷◌, ◌++◌, length, drop, get_or, set}
use Rattle.std.proofs.Common.{length-append, add-one, drop-cons}
use lib.ListN.{length-set}
use lib.Seq.{set_at, append_snoc}
use Rattle.hexlines.specs.Digits.{byte_of, bytes_of}
use Rattle.hexlines.proofs.unhex.Goals as goal

empty : (s d : List ℕ) → d ≡ bytes_of s 0 ++ drop 0 d
unfolding bytes_of
empty s d = refl

length-bytes_of : (s : List ℕ) (n : ℕ) → length (bytes_of s n) ≡ n
unfolding bytes_of
length-bytes_of s zero = refl
length-bytes_of s (suc n) = length-append (bytes_of s n) (_ ∷ []) ∙ rw (length-bytes_of s n) (omega arith)

one_more : (s d₀ d : List ℕ) (i v : ℕ) → i < length d₀ → v ≡ byte_of (get_or s (2 * i) 0) (get_or s (2 * i + 1) 0)
    → d ≡ bytes_of s i ++ drop i d₀ → set d i v ≡ bytes_of s (i + 1) ++ drop (i + 1) d₀
unfolding bytes_of
one_more s d₀ d i v h e b =
    rw (add-one, b, drop-cons d₀ i 0 h, ← e)
    (set_at (bytes_of s i) (get_or d₀ i 0) (drop (suc i) d₀) v i (length-bytes_of s i)
    ∙ sym (append_snoc (bytes_of s i) v (drop (suc i) d₀)))

pub loop-i-init : goal.loop-i-init
loop-i-init c = (refl, empty _ _)

pub loop-i-preserved : goal.loop-i-preserved
loop-i-preserved c =
    let i = c.loop-i.invariant in
    (length-set _ _ _ ∙ i.0, one_more _ _ _ _ _ (omega arith) c.byte.ensures i.1)
