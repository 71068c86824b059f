-- Settled: two results that a public function's own contract allows coincide: what is answered, or all that was lent to be written.
-- `Learnt` is that contract, made from src.
use Prim.Native.Nat.{ℕ}
use denote.Param.{number}
use denote.Param.Laws.{Laws, IsCopy, of_field}
use denote.Param.Shared.{copy_shared}
use denote.RattleType.{RattleType}
use denote.Struct.Field.{u8-field, u64-field}
use denote.Struct.Laws.{u8-laws, u64-laws, u8-copy, u64-copy}
use mir.Syntax.{Dict, w64}
use mir.Val.{Fits}
use mathlib.Core.List.{List}
use mathlib.Core.Path.{refl}
use Rattle.std.specs.declared.cmp.PartialEq.{Ghosts}
use Rattle.std.specs.declared.clone.Clone
use Rattle.std.specs.contracts.prelude.U8PartialEq.TheImpl as bytes
use Rattle.std.specs.contracts.prelude.U64PartialEq.TheImpl as words
use Rattle.contracts.specs.Says.{Settles}
use Rattle.contracts.proofs.Values.{value-settled}
use Rattle.slices.proofs.LiesAt.{lies-settled}
use Rattle.slices.specs.contracts.same.same as same
use Rattle.slices.proofs.same.same.Reads as same-reads
use Rattle.slices.specs.contracts.zero.all_are as all-are
use Rattle.slices.proofs.zero.all_are.Reads as all-are-reads
use Rattle.slices.specs.contracts.zero.words_zero as words-zero
use Rattle.slices.proofs.zero.words_zero.Reads as words-zero-reads
use Rattle.slices.specs.contracts.zero.clear as clear
use Rattle.slices.proofs.zero.clear.Reads as clear_reads
use Rattle.slices.specs.contracts.front.put_front as put_front
use Rattle.slices.proofs.front.put_front.Reads as put-front-reads
use Rattle.slices.specs.contracts.front.padded as padded
use Rattle.slices.proofs.front.padded.Reads as padded-reads
use Rattle.slices.specs.contracts.places.least as least
use Rattle.slices.proofs.places.least.Reads as least-reads
use Rattle.slices.specs.contracts.places.part as part
use Rattle.slices.proofs.places.part.Reads as part-reads
use Rattle.slices.specs.contracts.places.rest_at as rest_at
use Rattle.slices.proofs.places.rest_at.Reads as rest-at-reads

-- ---- functions over any type of elements T: its laws, its `==` (E) and its `clone` (K), each with what runs them (D and F), are a
-- caller's. For bytes and for words they stand again, by names of their own; what is written at a front, for words.

-- the laws of bytes and of words
abbrev byte-laws : Laws u8-field.row
byte-laws = of_field u8-field u8-laws refl (copy_shared u8-field u8-copy)

abbrev word-laws : Laws u64-field.row
word-laws = of_field u64-field u64-laws refl (copy_shared u64-field u64-copy)

abbrev byte-copies : IsCopy u8-field.row
byte-copies = u8-copy

abbrev word-copies : IsCopy u64-field.row
word-copies = u64-copy

pub same-settled : (T : RattleType) (L : Laws T) (E : Ghosts T.Denot) (D : Dict) →
    Settles (same.ended T E D) (same-reads.Learnt T L E D) (λ κs r x. r)
same-settled T L E D κs a r s x y = value-settled

pub same-bytes-settled : (D : Dict) →
    Settles (same.ended u8-field.row bytes.ghosts D) (same-reads.Learnt u8-field.row byte-laws bytes.ghosts D) (λ κs r x. r)
same-bytes-settled D = same-settled u8-field.row byte-laws bytes.ghosts D

pub same-words-settled : (D : Dict) →
    Settles (same.ended u64-field.row words.ghosts D) (same-reads.Learnt u64-field.row word-laws words.ghosts D) (λ κs r x. r)
same-words-settled D = same-settled u64-field.row word-laws words.ghosts D

pub all-are-settled : (T : RattleType) (L : Laws T) (C : IsCopy T) (E : Ghosts T.Denot) (D : Dict) (K : Clone.Ghosts T.Denot) (F : Dict) →
    Settles (all-are.ended T E D K F) (all-are-reads.Learnt T L C E D K F) (λ κs r x. r)
all-are-settled T L C E D K F κs a r s x y = value-settled

pub bytes-zero-settled : (D : Dict) (K : Clone.Ghosts ℕ) (F : Dict) →
    Settles (all-are.ended u8-field.row bytes.ghosts D K F)
    (all-are-reads.Learnt u8-field.row byte-laws byte-copies bytes.ghosts D K F) (λ κs r x. r)
bytes-zero-settled D K F = all-are-settled u8-field.row byte-laws byte-copies bytes.ghosts D K F

pub put-front-settled : (T : RattleType) (L : Laws T) (C : IsCopy T) (K : Clone.Ghosts T.Denot) (F : Dict) →
    Settles (put_front.ended T K F) (put-front-reads.Learnt T L C K F) (λ κs r x. x.0.now)
put-front-settled T L C K F κs a r s x y = value-settled

pub put-words-front-settled : (K : Clone.Ghosts ℕ) (F : Dict) →
    Settles (put_front.ended u64-field.row K F) (put-front-reads.Learnt u64-field.row word-laws word-copies K F) (λ κs r x. x.0.now)
put-words-front-settled K F = put-front-settled u64-field.row word-laws word-copies K F

-- ---- the others

pub words-zero-settled : Settles words-zero.ended words-zero-reads.Learnt (λ κs r x. r)
words-zero-settled κs a r s x y = value-settled

pub clear-settled : Settles clear.ended clear_reads.Learnt (λ κs r x. x.0.now)
clear-settled κs a r s x y = value-settled

pub least-settled : Settles least.ended least-reads.Learnt (λ κs r x. r)
least-settled κs a r s x y = value-settled

-- the bytes, and where they lie
pub part-settled : Settles {A = List ℕ × (ℕ × ℕ)} part.ended part-reads.Learnt (λ κs r x. (r.now, r.ref_ptr))
part-settled κs a r s x y = lies-settled

pub rest-at-settled : Settles rest_at.ended rest-at-reads.Learnt (λ κs r x. r)
rest-at-settled κs a r s x y = value-settled

-- over any number N of bytes
pub padded-settled : (N : ℕ) (F : Fits w64 N) → Settles (padded.ended (number N)) (padded-reads.Learnt N F) (λ κs r x. r)
padded-settled N F κs a r s x y = value-settled
