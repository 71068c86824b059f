-- `writer::moving::raise` meets its contract. It runs from the last entry to the first: before entry i the bytes are as they were, and
-- from there on stand the n - i last entries, raised. An offset has four bytes, so no sum passes a word.
use mathlib.Core.List.{List, ◌++◌, append-nil}
use mathlib.Core.Path.{◌≡◌, sym, ap, ◌∙◌}
use Prim.Native.Nat.{ℕ, suc, ◌+◌, ◌-◌, ◌*◌, ◌^◌, ◌<◌, ◌≤◌}
use native.Mathlib.Nat.{sub_self, add-sub_cancel_left, add-mul, zero-mul, suc-mul}
use native.Mathlib.Omega.{arith}
use lib.ListN.{length, take, drop, length-append, length-drop}
use lib.Seq.{take-length, drop-length, length-take-le}
use Rattle.bigendian.specs.BigEndian.{be, word64}
use Rattle.bigendian.specs.Rows.{field_in}
use Rattle.bigendian.proofs.RowLaws.{field_lt, field-word64}
use Rattle.lists.specs.Layout.{offset_size, name_offset}
use Rattle.slices.specs.Below.{Bytes}
use Rattle.slices.specs.Parts.{part, put_part}
use Rattle.slices.proofs.Parts.{length_part}
use Rattle.writer.specs.Code.Moves.{raised}
use Rattle.writer.proofs.MoveLaws.{length-raised, offset-kept, raised-more}
use Rattle.writer.proofs.moving.raise.Goals as goal
use Rattle.writer.proofs.moving.raise.Invariants.{Raising}

start : (xs : List ℕ) (n size by : ℕ) → offset_size ≤ size → length xs ≡ n * size → Raising xs n size by xs n
unfolding raised
start xs n size by p e = record {
  wide = p;
  long = e;
  within = omega arith;
  bytes = rw (← e, sub_self, take-length, drop-length) (sym (append-nil xs));
}

module _ (xs₀ : List ℕ) (n size by : ℕ) (xs : List ℕ) (i : ℕ) (f : Raising xs₀ n size by xs i) where
  behind : i * size + (n - i) * size ≡ length xs₀
  behind =
      let e : i + (n - i) ≡ n = omega (arith, f.within) in
      rw (← add-mul i (n - i) size, e) (sym f.long)

  size-kept : length xs ≡ length xs₀
  size-kept =
      let rest : (n - i) * size ≤ length (drop (i * size) xs₀) = simp length-drop (omega (arith, behind)) in
      rw (
        f.bytes,
        length-append,
        length-raised (n - i) size by (drop (i * size) xs₀) f.wide rest,
        length-drop (i * size) xs₀,
        length-take-le (i * size) xs₀ (omega (arith, behind)),
      ) (omega (arith, behind))

  whole : i ≡ 0 → xs ≡ raised n size by xs₀
  whole e =
      let none : i * size ≡ 0 = rw e (zero-mul size) in
      let all : n - i ≡ n = omega arith in
      rw (none, all) at f.bytes

  -- one entry more
  module _ (h : 0 < i) where
    abbrev a : ℕ
    a = (i - 1) * size

    one_less : i ≡ suc (i - 1)
    one_less = omega arith

    next : a + size ≡ i * size
    next = omega (arith, ap (λ (k : ℕ). k * size) one_less, suc-mul (i - 1) size)

    done : xs ≡ take (a + size) xs₀ ++ raised (n - i) size by (drop (a + size) xs₀)
    done = rw next f.bytes

    inside : a + size ≤ length xs₀
    inside = omega (arith, next, behind)

    offset-is : (v : ℕ) → Bytes xs₀ → v ≡ word64 (field_in xs a offset_size) → v ≡ name_offset (drop a xs₀)
    offset-is v b e =
        e ∙ ap word64 (offset-kept a (n - i) size by xs₀ xs f.wide inside done) ∙ field-word64 xs₀ a offset_size b (omega arith)

    offset-small : (v : ℕ) → Bytes xs₀ → v ≡ word64 (field_in xs a offset_size) → v < 256 ^ offset_size
    offset-small v b e = rw (offset-is v b e) (field_lt xs₀ a offset_size b)

    turn : (v : ℕ) (new : List ℕ) → Bytes xs₀ → v ≡ word64 (field_in xs a offset_size) →
        new ≡ be (length (part xs a (a + offset_size - a))) (v + by) →
        Raising xs₀ n size by (put_part a (a + offset_size - a) new xs) (i - 1)
    turn v new b e q =
        let k : a + offset_size - a ≡ offset_size = add-sub_cancel_left a offset_size in
        let room : length (part xs a offset_size) ≡ offset_size = length_part a offset_size xs (omega (arith, size-kept, inside, f.wide)) in
        let is : new ≡ be offset_size (name_offset (drop a xs₀) + by) = q ∙ rw (k, room, offset-is v b e) in
        let more : n - (i - 1) ≡ suc (n - i) = omega arith in
        record {
          wide = f.wide;
          long = f.long;
          within = omega arith;
          bytes = rw (k, is, more) (raised-more a (n - i) size by xs₀ xs f.wide inside done);
        }

pub loop-i-init : goal.loop-i-init
loop-i-init c = start _ _ _ _ (omega (arith, c.requires.0)) c.requires.1

pub overflow_add-offset : goal.overflow_add-offset
overflow_add-offset c = omega (
  arith,
  offset-small _ _ _ _ _ _ c.loop-i.invariant c.loop-i-test.true _ (λ k. (c.slice_known-1.given k).fits)
      c.field-offset.ensures,
  c.requires.2,
)

pub loop-i-preserved : goal.loop-i-preserved
loop-i-preserved c = turn _ _ _ _ _ _ c.loop-i.invariant c.loop-i-test.true _ _ (λ k. (c.slice_known-1.given k).fits)
    c.field-offset.ensures c.put.ensures
