-- In `line_room` bytes each line is whole: `line-whole` and `reason-whole` of every entry of a list, `counts_whole` of the counts of as
-- many
-- files as a list can name, and `not-a-list-whole`. Up to the place that is answered, the output is the line.
use Rattle.std.proofs.Common.{◌≡◌, ℕ, zero, suc, ◌+◌, ◌/◌, ◌^◌, ◌<◌, ◌≤◌, Bool, true, false, cond, ltb, List, [], ◌∷◌, length, take}
use Rattle.std.proofs.Common.{pow-suc, arith, length-append, lt-ltb}
use Rattle.fips.specs.Constants.{ascii}
use Rattle.fips.specs.Editions.{digest_bytes}
use Rattle.lists.specs.Calls.{pair_in}
use Rattle.lists.specs.Layout.{count_in, read_list, accepted}
use Rattle.lists.specs.Lists.{Pair, pair_allowed, most_entries, longest_name}
use Rattle.lists.proofs.ByRules.{length-read_pairs}
use Rattle.slices.proofs.Tests.{every-at}
use Rattle.lists.proofs.Lists.{accepted-valid}
use Rattle.lists.proofs.Written.{ValidList, valid-list, allowed-pair}
use Rattle.lines.specs.declared.Verdict.{Verdict}
use Rattle.lines.specs.declared.Why.{Why}
use Rattle.lines.specs.Lines.{line_room, verdict_word, line_of, why_words, reason_line, digits, decimal, count_line, not_a_list}
use Rattle.lines.specs.Lines.{is_ok, is_bad, is_missing, sum, tally_of}
use Rattle.lines.specs.Code.Putting.{put, behind}
use Rattle.lines.proofs.Putting.{put_whole}
use Rattle.lines.proofs.Counting.{at_most_one}

word-short : (v : Verdict) → length (ascii (verdict_word v)) ≤ 8
unfolding ascii
word-short Verdict.Ok = omega arith
word-short Verdict.Bad = omega arith
word-short (Verdict.Missing why) = omega arith

pub length_pairs : (bs : List ℕ) → length (read_list bs).pairs ≡ count_in bs
unfolding read_list
length_pairs bs = rw length-read_pairs

name-short : (bs : List ℕ) (i : ℕ) → accepted bs ≡ true → i < count_in bs → length (pair_in i bs).name ≤ longest_name
unfolding pair_in
name-short bs i a h =
    let v : ValidList (read_list bs) = valid-list (read_list bs) (accepted-valid bs a) in
    let d : ℕ = digest_bytes (read_list bs).edition in
    let no-pair : Pair = record { name = []; digest = [] } in
    let within = every-at (pair_allowed d) no-pair (read_list bs).pairs v.allowed i (omega (arith, length_pairs bs)) in
    (allowed-pair d (pair_in i bs) within).short

pub line-whole : (bs : List ℕ) (i : ℕ) (v : Verdict) → accepted bs ≡ true → i < count_in bs → (out : List ℕ) → length out ≡ line_room →
    take (behind 0 (line_of v (pair_in i bs).name) out) (put 0 (line_of v (pair_in i bs).name) out) ≡ line_of v (pair_in i bs).name
unfolding line_of ascii
line-whole bs i v a h out long =
    put_whole (line_of v (pair_in i bs).name) out
    (simp length-append (omega (arith, word-short v, name-short bs i a h)))

pub words-short : (why : Why) → length (ascii (why_words why)) ≤ 17
unfolding ascii
words-short Why.NotThere = omega arith
words-short Why.NoPermission = omega arith
words-short Why.Folder = omega arith
words-short Why.Failed = omega arith

pub reason-whole : (bs : List ℕ) (i : ℕ) (why : Why) → accepted bs ≡ true → i < count_in bs → (out : List ℕ) → length out ≡ line_room →
    take (behind 0 (reason_line why (pair_in i bs).name) out) (put 0 (reason_line why (pair_in i bs).name) out)
    ≡ reason_line why (pair_in i bs).name
unfolding reason_line
reason-whole bs i why a h out long =
    put_whole (reason_line why (pair_in i bs).name) out
    (simp length-append (omega (arith, words-short why, name-short bs i a h)))

cond_short : (b : Bool) (xs : List ℕ) (m : ℕ) → length xs ≤ m → length (cond b [] xs) ≤ m
cond_short true xs m h = omega arith
cond_short false xs m h = h

pub digits-short : (k fuel n : ℕ) → n < 10 ^ suc k → length (digits fuel n) ≤ suc k
unfolding digits
digits-short k zero n h = omega arith
digits-short zero (suc fuel) n h = rw (lt-ltb n 10 h) (omega arith)
digits-short (suc k) (suc fuel) n h =
    let rest = digits-short k fuel (n / 10) (omega (arith, h, pow-suc 10 (suc k))) in
    simp length-append (omega (arith, cond_short (ltb n 10) (digits fuel (n / 10)) (suc k) rest))

count-short : (n : ℕ) → n ≤ most_entries → length (decimal n) ≤ 3
unfolding decimal
count-short n h = digits-short 2 (n + 1) n (omega arith)

sum-within : (f : Verdict → ℕ) → ((v : Verdict) → f v ≤ 1) → (vs : List Verdict) → sum f vs ≤ length vs
unfolding sum
sum-within f one [] = omega arith
sum-within f one (v ∷ vs) = omega (arith, one v, sum-within f one vs)

pub counts_whole : (vs : List Verdict) → length vs ≤ most_entries → (out : List ℕ) → length out ≡ line_room →
    take (behind 0 (count_line (tally_of vs)) out) (put 0 (count_line (tally_of vs)) out) ≡ count_line (tally_of vs)
unfolding count_line ascii
counts_whole vs few out long =
    let t = tally_of vs in
    let listed = count-short t.listed few in
    let ok = count-short t.ok (omega (arith, sum-within is_ok (λ v. (at_most_one v).0) vs)) in
    let bad = count-short t.bad (omega (arith, sum-within is_bad (λ v. (at_most_one v).1) vs)) in
    let missing = count-short t.missing (omega (arith, sum-within is_missing (λ v. (at_most_one v).2) vs)) in
    put_whole (count_line t) out (simp length-append (omega (arith, listed, ok, bad, missing)))

pub not-a-list-whole : (out : List ℕ) → length out ≡ line_room → take (behind 0 not_a_list out) (put 0 not_a_list out) ≡ not_a_list
unfolding ascii
not-a-list-whole out long = put_whole not_a_list out (omega arith)
