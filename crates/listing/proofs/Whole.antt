-- In `say_room` bytes each line is whole: `refusal-whole` of every name and reason, and `made-whole` of a list's length and count. Up to
-- the
-- place that is answered, the output is the line.
use Prim.Native.Nat.{ℕ, ◌+◌, ◌^◌, ◌≤◌, ◌<◌}
use Prim.Native.String.{String}
use mathlib.Core.Bool.{Bool, true, false, cond}
use mathlib.Core.List.{List}
use mathlib.Core.Path.{◌≡◌}
use native.Mathlib.Omega.{arith}
use lib.Dec.{eqb}
use lib.ListN.{length, take, length-append, length-take}
use Rattle.fips.specs.Constants.{ascii}
use Rattle.lines.specs.Lines.{decimal}
use Rattle.lines.specs.Code.Putting.{put, behind}
use Rattle.lines.proofs.Putting.{put_whole}
use Rattle.lines.proofs.Short.{words-short, digits-short}
use Rattle.listing.specs.declared.Reason.{Reason}
use Rattle.listing.specs.Says.{say_room, most_shown, title, made_line, reason_words, refusal_line}
use Rattle.listing.proofs.Visible.{shown-short}

reason-short : (r : Reason) → length (ascii (reason_words r)) ≤ 64
unfolding ascii
reason-short Reason.Empty = omega arith
reason-short Reason.Long = omega arith
reason-short Reason.Byte = omega arith
reason-short Reason.Twice = omega arith
reason-short Reason.Full = omega arith
reason-short Reason.Unended = omega arith
reason-short Reason.TooLong = omega arith
reason-short (Reason.Unread why) = omega (arith, words-short why)
reason-short Reason.Unfit = omega arith

pub refusal-whole : (r : Reason) (name out : List ℕ) → length out ≡ say_room →
    take (behind 0 (refusal_line r name) out) (put 0 (refusal_line r name) out) ≡ refusal_line r name
unfolding refusal_line
refusal-whole r name out room =
    put_whole (refusal_line r name) out
    (simp length-append (omega (arith, shown-short (take most_shown name), length-take most_shown name, reason-short r)))

either : (t : Bool) (a b : String) → length (ascii a) ≤ 12 → length (ascii b) ≤ 12 → length (ascii (cond t a b)) ≤ 12
either true a b g h = g
either false a b g h = h

title-short : (e : ℕ) → length (ascii (title e)) ≤ 12
unfolding title ascii
title-short e =
    let none = either (eqb e 6) "SHA-512/256\n" "no edition\n" (omega arith) (omega arith) in
    let five = either (eqb e 5) "SHA-512/224\n" _ (omega arith) none in
    let four = either (eqb e 4) "SHA-512\n" _ (omega arith) five in
    let three = either (eqb e 3) "SHA-384\n" _ (omega arith) four in
    let two = either (eqb e 2) "SHA-256\n" _ (omega arith) three in
    either (eqb e 1) "SHA-224\n" _ (omega arith) two

number_short : (n : ℕ) → n < 10 ^ 5 → length (decimal n) ≤ 5
unfolding decimal
number_short n h = digits-short 4 (n + 1) n h

pub made-whole : (bytes listed e : ℕ) → bytes < 10 ^ 5 → listed < 10 ^ 5 → (out : List ℕ) → length out ≡ say_room →
    take (behind 0 (made_line bytes listed e) out) (put 0 (made_line bytes listed e) out) ≡ made_line bytes listed e
unfolding made_line ascii
made-whole bytes listed e g h out room =
    put_whole (made_line bytes listed e) out
    (simp length-append (omega (arith, number_short bytes g, number_short listed h, title-short e)))
