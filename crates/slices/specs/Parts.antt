-- A part of a list, `part`; where a part that is handed back lies in what was lent, `LiesAt`; and a list with other elements in the place
-- of a part, `put_part`: the shape in which a lent part comes back.
use Rattle.std.specs.Prelude.{List, [], ◌∷◌, ◌++◌, ◌≡◌, ℕ, ◌+◌, take, drop}
use Rattle.std.specs.Borrow.{Bor}

-- k elements from a place on, fewer where the list ends before
abbrev pub part : List ℕ → ℕ → ℕ → List ℕ
part xs at k = take k (drop at xs)

-- where a part begins that was to begin at a place: there, and an empty one where the whole begins
abbrev pub begins : List ℕ → ℕ → ℕ
begins [] at = 0
begins (x ∷ xs) at = at

-- r is handed back out of s: a reference points at an offset in a block of memory, and r at one in the block of s, so many bytes behind s
pub record LiesAt (r s : Bor (List ℕ)) (at : ℕ) : Type 0 where
  pub block : r.ref_ptr.0 ≡ s.ref_ptr.0
  pub offset : r.ref_ptr.1 ≡ s.ref_ptr.1 + begins r.now at

-- the list with `new` where its k elements from the place on were
abbrev pub put_part : ℕ → ℕ → List ℕ → List ℕ → List ℕ
put_part at k new xs = take at xs ++ (new ++ drop k (drop at xs))
