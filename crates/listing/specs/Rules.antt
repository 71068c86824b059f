-- Which rule a name breaks: SPEC, "The list maker". `judged` says it before the file is opened, `answered` by what the put of its pair
-- answered. That `judged` agrees with `name_allowed` is `judged-allowed`.
use Rattle.std.specs.Prelude.{ℕ, cond, List, Result, Ok, Err, eqb, leb, ltb, length}
use Rattle.lists.specs.Lists.{most_entries, longest_name, name_allowed}
use Rattle.listing.specs.declared.Reason.{Reason}

-- no bytes; too many; a byte that no name may have; as many names before it as a list may have
unfoldable pub judged : List ℕ → ℕ → Result Unit Reason
judged name before =
    cond (ltb (length name) 1) (Err Reason.Empty)
    (cond (ltb longest_name (length name)) (Err Reason.Long)
    (cond (name_allowed name) (cond (leb most_entries before) (Err Reason.Full) (Ok tt)) (Err Reason.Byte)))

-- 0, 16 and 17; no other number is answered of a name that was judged and of a digest of the list's edition
unfoldable pub answered : ℕ → Result Unit Reason
answered n =
    cond (eqb n 0) (Ok tt)
    (cond (eqb n 16) (Err Reason.Twice) (cond (eqb n 17) (Err Reason.Full) (Err Reason.Unfit)))
