-- `records::fields` meets its contract: each field is read where it stands. Assumes nothing.
use Prim.Native.Nat.{ℕ, ◌/◌}
use mathlib.Core.List.{List, map}
use mathlib.Core.Path.{ap, ◌∙◌}
use native.Mathlib.Omega.{arith}
use mir.Syntax.{w8 as u8}
use mir.Val.{Fits}
use lib.ListN.{get_or}
use Rattle.bigendian.specs.BigEndian.{word64}
use Rattle.bigendian.specs.Words.{to_words}
use Rattle.halfread.specs.State.{padded}
use Rattle.records.specs.Record.{newest, word_count}
use Rattle.records.proofs.ReadFields.{fields-law}
use Rattle.records.proofs.fields.Goals as goal

pub returns : goal.returns
returns c = let byte : (i : ℕ) → Fits u8 (get_or c.args.bytes.now i 0) = λ i. c.shared_slice_known-1.given i in
    fields-law newest (omega arith) c.args.bytes.now (λ i. (byte i).fits) c.field-edition.ensures c.field-count.ensures
    c.block_bytes.ensures
    (c.get_words.ensures ∙ ap (λ (l : List ℕ). map word64 (to_words word_count (c.block_bytes.result / 16) l)) c.part.ensures.result_value)
    c.tail_at.ensures (c.padded-tail.ensures ∙ ap padded c.part-2.ensures.result_value)
