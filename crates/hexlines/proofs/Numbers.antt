-- A number digit by digit: what is left of the text from i on decides what number the whole text is.
use Rattle.std.proofs.Common.{arith, ◌≡◌, refl, sym, ◌∙◌, ℕ, ◌+◌, ◌*◌, ◌≤◌, ◌<◌, List, [], ◌∷◌, None, Some, length, drop, get_or}
use Rattle.std.proofs.Common.{drop-cons, add-one}
use lib.ListN.{drop_of_length-le}
use borrow.Author.Tests.{lt-ltb, le-ltb}
use Rattle.hexlines.specs.Digits.{digit_of, number_from, decimal_of}

-- x is the number of the first i bytes
pub record Numbered (s : List ℕ) (x i : ℕ) : Type 0 where
  pub small : x ≤ 10000000000009
  pub left : number_from 0 s ≡ number_from x (drop i s)

pub no_number : (s : List ℕ) → Numbered s 0 0
no_number s = record { small = omega arith; left = refl }

pub empty_number : (s : List ℕ) → length s ≡ 0 → None ≡ decimal_of s
unfolding decimal_of
empty_number [] e = refl
empty_number (c ∷ s) e = absurd (omega arith)

some_number : (s : List ℕ) → 0 < length s → decimal_of s ≡ number_from 0 s
unfolding decimal_of
some_number [] h = absurd (omega arith)
some_number (c ∷ s) h = refl

pub one_more : (s : List ℕ) (x i d : ℕ) → i < length s → Some d ≡ digit_of (get_or s i 0) → d ≤ 9 → x ≤ 1000000000000 → Numbered s x i
    → Numbered s (x * 10 + d) (i + 1)
unfolding number_from
one_more s x i d h e l k p =
    record {
      small = omega arith;
      left = p.left ∙ rw (drop-cons s i 0 h, ← e, le-ltb 9 d l, le-ltb 1000000000000 x k, add-one);
    }

module _ (s : List ℕ) (x i : ℕ) (h : i < length s) (p : Numbered s x i) where
  pub no_digit : None ≡ digit_of (get_or s i 0) → None ≡ decimal_of s
  unfolding number_from
  no_digit e = sym (some_number s (omega arith) ∙ p.left ∙ rw (drop-cons s i 0 h, ← e))

  module _ (d : ℕ) (e : Some d ≡ digit_of (get_or s i 0)) where
    pub no_decimal : 9 < d → None ≡ decimal_of s
    unfolding number_from
    no_decimal l = sym (some_number s (omega arith) ∙ p.left ∙ rw (drop-cons s i 0 h, ← e, lt-ltb 9 d l))

    pub too_large : d ≤ 9 → 1000000000000 < x → None ≡ decimal_of s
    unfolding number_from
    too_large l k =
        sym (some_number s (omega arith) ∙ p.left ∙ rw (drop-cons s i 0 h, ← e, le-ltb 9 d l, lt-ltb 1000000000000 x k))

pub whole_number : (s : List ℕ) (x i : ℕ) → 0 < length s → length s ≤ i → Numbered s x i → Some x ≡ decimal_of s
unfolding number_from
whole_number s x i n h p = sym (some_number s n ∙ p.left ∙ rw (drop_of_length-le s h))
