-- Settled: two outcomes that an export's own contract allows coincide: the number, and all that was lent to be written.
-- `Learnt` is that contract, made from src. SPEC, "How much each call says".
use Prim.Native.Nat.{ℕ}
use mathlib.Core.List.{List}
use mathlib.Core.Path.{ap}
use Rattle.contracts.specs.Says.{Settles}
use Rattle.contracts.proofs.Values.{value-settled}
use Rattle.answers.proofs.Outcome.{number-both}
use Rattle.calls.specs.Calls.{Told}
use Rattle.calls.proofs.Settled.{table-shown, output-shown}
use Rattle.capi_c.specs.contracts.dw_hash as dw-hash
use Rattle.capi_c.proofs.dw_hash.Reads as dw-hash-reads
use Rattle.capi_c.specs.contracts.dw_lay_out as dw-lay-out
use Rattle.capi_c.proofs.dw_lay_out.Reads as dw-lay-out-reads
use Rattle.capi_c.specs.contracts.dw_open as dw-open
use Rattle.capi_c.proofs.dw_open.Reads as dw-open-reads
use Rattle.capi_c.specs.contracts.dw_add as dw-add
use Rattle.capi_c.proofs.dw_add.Reads as dw-add-reads
use Rattle.capi_c.specs.contracts.dw_close as dw-close
use Rattle.capi_c.proofs.dw_close.Reads as dw-close-reads
use Rattle.capi_c.specs.contracts.dw_save as dw-save
use Rattle.capi_c.proofs.dw_save.Reads as dw-save-reads
use Rattle.capi_c.specs.contracts.dw_load as dw-load
use Rattle.capi_c.proofs.dw_load.Reads as dw-load-reads
use Rattle.capi_c.specs.contracts.dw_drop as dw-drop
use Rattle.capi_c.proofs.dw_drop.Reads as dw-drop-reads
use Rattle.capi_c.specs.contracts.dw_ask as dw-ask
use Rattle.capi_c.proofs.dw_ask.Reads as dw-ask-reads
use Rattle.capi_c.specs.contracts.dw_tree as dw-tree
use Rattle.capi_c.proofs.dw_tree.Reads as dw-tree-reads
use Rattle.capi_c.specs.contracts.dw_stream_begin as dw-stream-begin
use Rattle.capi_c.proofs.dw_stream_begin.Reads as dw-stream-begin-reads
use Rattle.capi_c.specs.contracts.dw_stream_add as dw-stream-add
use Rattle.capi_c.proofs.dw_stream_add.Reads as dw-stream-add-reads
use Rattle.capi_c.specs.contracts.dw_stream_root as dw-stream-root
use Rattle.capi_c.proofs.dw_stream_root.Reads as dw-stream-root-reads
use Rattle.capi_c.specs.contracts.dw_tag as dw-tag
use Rattle.capi_c.proofs.dw_tag.Reads as dw-tag-reads
use Rattle.capi_c.specs.contracts.dw_check_tag as dw-check-tag
use Rattle.capi_c.proofs.dw_check_tag.Reads as dw-check-tag-reads
use Rattle.capi_c.specs.contracts.dw_keyed_start as dw-keyed-start
use Rattle.capi_c.proofs.dw_keyed_start.Reads as dw-keyed-start-reads
use Rattle.capi_c.specs.contracts.dw_keyed_add as dw-keyed-add
use Rattle.capi_c.proofs.dw_keyed_add.Reads as dw-keyed-add-reads
use Rattle.capi_c.specs.contracts.dw_keyed_tag as dw-keyed-tag
use Rattle.capi_c.proofs.dw_keyed_tag.Reads as dw-keyed-tag-reads
use Rattle.capi_c.specs.contracts.dw_keyed_check as dw-keyed-check
use Rattle.capi_c.proofs.dw_keyed_check.Reads as dw-keyed-check-reads
use Rattle.capi_c.specs.contracts.dw_judge as dw-judge
use Rattle.capi_c.proofs.dw_judge.Reads as dw-judge-reads
use Rattle.capi_c.specs.contracts.dw_lookup as dw-lookup
use Rattle.capi_c.proofs.dw_lookup.Reads as dw-lookup-reads
use Rattle.capi_c.specs.contracts.dw_list_start as dw-list-start
use Rattle.capi_c.proofs.dw_list_start.Reads as dw-list-start-reads
use Rattle.capi_c.specs.contracts.dw_list_put as dw-list-put
use Rattle.capi_c.proofs.dw_list_put.Reads as dw-list-put-reads

pub dw-hash-settled : Settles {A = ℕ × List ℕ} dw-hash.ended dw-hash-reads.Learnt (λ κs r x. (r, x.1.1.1.1.0.now))
dw-hash-settled κs a r s x y = number-both

pub dw-lay-out-settled : Settles {A = ℕ × List ℕ} dw-lay-out.ended dw-lay-out-reads.Learnt (λ κs r x. (r, x.0.now))
dw-lay-out-settled κs a r s x y j k = table-shown (number-both j.0 k.0)

pub dw-open-settled : Settles {A = ℕ × List ℕ} dw-open.ended dw-open-reads.Learnt (λ κs r x. (r, x.0.now))
dw-open-settled κs a r s x y j k = table-shown (number-both j.0 k.0)

pub dw-add-settled : Settles {A = ℕ × List ℕ} dw-add.ended dw-add-reads.Learnt (λ κs r x. (r, x.0.now))
dw-add-settled κs a r s x y j k = table-shown (number-both j.0 k.0)

pub dw-close-settled : Settles {A = ℕ × List ℕ × List ℕ} dw-close.ended dw-close-reads.Learnt
    (λ κs r x. (r, x.0.now, x.1.1.1.1.0.now))
dw-close-settled κs a r s x y j k = output-shown (number-both j.0 k.0)

pub dw-save-settled : Settles {A = ℕ × List ℕ × List ℕ} dw-save.ended dw-save-reads.Learnt (λ κs r x. (r, x.0.now, x.1.1.0.now))
dw-save-settled κs a r s x y j k = output-shown (number-both j.0 k.0)

pub dw-load-settled : Settles {A = ℕ × List ℕ} dw-load.ended dw-load-reads.Learnt (λ κs r x. (r, x.0.now))
dw-load-settled κs a r s x y j k = table-shown (number-both j.0 k.0)

pub dw-drop-settled : Settles {A = ℕ × List ℕ} dw-drop.ended dw-drop-reads.Learnt (λ κs r x. (r, x.0.now))
dw-drop-settled κs a r s x y j k = table-shown (number-both j.0 k.0)

pub dw-ask-settled : Settles {A = ℕ × ℕ × ℕ} dw-ask.ended dw-ask-reads.Learnt (λ κs r x. (r, x.1.1.0.now, x.1.1.1.0.now))
dw-ask-settled κs a r s x y j k = ap (λ (p : ℕ × Told). (p.0, p.1.edition, p.1.count)) (number-both j.0 k.0)

pub dw-tree-settled : Settles {A = ℕ × List ℕ} dw-tree.ended dw-tree-reads.Learnt (λ κs r x. (r, x.1.0.now))
dw-tree-settled κs a r s x y = number-both

pub dw-stream-begin-settled : Settles {A = ℕ × List ℕ} dw-stream-begin.ended dw-stream-begin-reads.Learnt (λ κs r x. (r, x.0.now))
dw-stream-begin-settled κs a r s x y = number-both

pub dw-stream-add-settled : Settles {A = ℕ × List ℕ} dw-stream-add.ended dw-stream-add-reads.Learnt (λ κs r x. (r, x.0.now))
dw-stream-add-settled κs a r s x y j k = number-both j.0 k.0

pub dw-stream-root-settled : Settles {A = ℕ × List ℕ} dw-stream-root.ended dw-stream-root-reads.Learnt (λ κs r x. (r, x.1.0.now))
dw-stream-root-settled κs a r s x y = number-both

pub dw-tag-settled : Settles {A = ℕ × List ℕ} dw-tag.ended dw-tag-reads.Learnt (λ κs r x. (r, x.1.1.1.0.now))
dw-tag-settled κs a r s x y = number-both

pub dw-check-tag-settled : Settles dw-check-tag.ended dw-check-tag-reads.Learnt (λ κs r x. r)
dw-check-tag-settled κs a r s x y = value-settled

pub dw-keyed-start-settled : Settles {A = ℕ × List ℕ} dw-keyed-start.ended dw-keyed-start-reads.Learnt (λ κs r x. (r, x.0.now))
dw-keyed-start-settled κs a r s x y j k = number-both j.0 k.0

pub dw-keyed-add-settled : Settles {A = ℕ × List ℕ} dw-keyed-add.ended dw-keyed-add-reads.Learnt (λ κs r x. (r, x.0.now))
dw-keyed-add-settled κs a r s x y j k = number-both j.0 k.0

pub dw-keyed-tag-settled : Settles {A = ℕ × List ℕ} dw-keyed-tag.ended dw-keyed-tag-reads.Learnt (λ κs r x. (r, x.1.0.now))
dw-keyed-tag-settled κs a r s x y = number-both

pub dw-keyed-check-settled : Settles dw-keyed-check.ended dw-keyed-check-reads.Learnt (λ κs r x. r)
dw-keyed-check-settled κs a r s x y = value-settled

pub dw-judge-settled : Settles dw-judge.ended dw-judge-reads.Learnt (λ κs r x. r)
dw-judge-settled κs a r s x y = value-settled

pub dw-lookup-settled : Settles {A = ℕ × ℕ × ℕ} dw-lookup.ended dw-lookup-reads.Learnt
    (λ κs r x. (r, x.1.1.0.now, x.1.1.1.0.now))
dw-lookup-settled κs a r s x y j k =
    let o = number-both j k in
    λ i. ((o i).0, (o i).1.at, (o i).1.length)

pub dw-list-start-settled : Settles {A = ℕ × List ℕ} dw-list-start.ended dw-list-start-reads.Learnt (λ κs r x. (r, x.1.0.now))
dw-list-start-settled κs a r s x y = number-both

pub dw-list-put-settled : Settles {A = ℕ × List ℕ} dw-list-put.ended dw-list-put-reads.Learnt (λ κs r x. (r, x.0.now))
dw-list-put-settled κs a r s x y j k = number-both j.0 k.0
