-- What is in a list that was written by calls: the pairs that were taken, each once, in the one order that a list has.
-- `Written` says that of a buffer; `Reordered` that two lists of pairs are the same pairs in some order; `Put` is a call that was made, and
-- `InTurn` says of several that each went on with the buffer that the one before it had left.
use Rattle.std.specs.Prelude.{true, cond, List, [], ◌∷◌, ◌++◌, ◌≡◌, ℕ, eqb, length, take, drop}
use Rattle.lists.specs.Lists.{Pair}
use Rattle.lists.specs.Layout.{edition_in, read_list, accepted}
use Rattle.writer.specs.Writing.{pair, front_list}

-- the same pairs, each as often, in some order: the first of ps stands somewhere in qs, and the others are the others
abbrev pub Reordered : List Pair → List Pair → Type 0
Reordered [] qs = qs ≡ []
Reordered (p ∷ ps) qs =
    (front : List Pair) × (back : List Pair) × (qs ≡ front ++ (p ∷ back)) × Reordered ps (front ++ back)

-- the list at the front of the buffer is accepted, is of that edition, and holds exactly those pairs, each once
pub record Written (e : ℕ) (ps : List Pair) (buffer : List ℕ) : Type 0 where
  pub is_list : accepted (front_list buffer) ≡ true
  pub edition : edition_in (front_list buffer) ≡ e
  pub pairs : Reordered ps (read_list (front_list buffer)).pairs

-- a put that was made: the buffer that it was lent, name and digest, the number of its answer, and the buffer that it left
pub record Put : Type 0 where
  pub buffer : List ℕ
  pub name : List ℕ
  pub digest : List ℕ
  pub answer : ℕ
  pub left : List ℕ

abbrev pub pair_of : Put → Pair
pair_of m = pair m.name m.digest

-- one after the other on one buffer, which is `last` after them
abbrev pub InTurn : List ℕ → List Put → List ℕ → Type 0
InTurn buffer [] last = last ≡ buffer
InTurn buffer (m ∷ ms) last = (m.buffer ≡ buffer) × InTurn m.left ms last

-- the pairs of the puts that were done, in their order
unfoldable pub taken : List Put → List Pair
taken [] = []
taken (m ∷ ms) = cond (eqb m.answer 0) (pair_of m ∷ taken ms) (taken ms)

-- all pairs that were to be put, in their order
unfoldable pub offered : List Put → List Pair
offered [] = []
offered (m ∷ ms) = pair_of m ∷ offered ms

-- every one of them was done
abbrev pub AllDone : List Put → Type 0
AllDone [] = Unit {0}
AllDone (m ∷ ms) = (m.answer ≡ 0) × AllDone ms

-- the list bs was written anew into the buffer b: nothing was refused, and its bytes are at the front
pub record Rewritten (bs b : List ℕ) (ms : List Put) (last : List ℕ) : Type 0 where
  pub all_done : AllDone ms
  pub front : front_list last ≡ bs
  pub bytes : take (length bs) last ≡ bs
  pub behind : drop (length bs) last ≡ drop (length bs) b
