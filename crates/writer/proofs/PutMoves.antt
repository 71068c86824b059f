-- The moves of `put` on a buffer. What is known of the numbers that it works with: `Known`; that they lead to what is to be left:
-- `put-moves`.
use mathlib.Core.List.{List, ◌∷◌, ◌++◌}
use mathlib.Core.Path.{◌≡◌, sym, ap, subst, ◌∙◌}
use Prim.Native.Nat.{ℕ, ◌+◌, ◌-◌, ◌*◌, ◌≤◌}
use native.Mathlib.Nat.{add-mul, mul-le-mul}
use native.Mathlib.Omega.{arith}
use lib.ListN.{length, take, drop, take-append-drop}
use lib.Seq.{drop-drop, length-take-le}
use Rattle.bigendian.specs.Rows.{row_bytes}
use Rattle.fips.proofs.Editions.{digest-short}
use Rattle.slices.specs.Below.{Bytes}
use Rattle.slices.specs.Parts.{part, put_part}
use Rattle.lists.specs.Code.Place.{earlier}
use Rattle.lists.specs.Layout.{entries_at, entry_head, entry_size, list_row, entry_row, name_run, names_of, whole_length, list_bytes}
use Rattle.lists.specs.Layout.{edition_in, count_in, digest_size_in, read_list}
use Rattle.lists.specs.Lists.{Pair, DigestList, longest_name}
use Rattle.lists.proofs.Allowed.{name-short}
use Rattle.lists.proofs.ByRules.{length-read_pairs}
use Rattle.lists.proofs.Earlier.{earlier-within}
use Rattle.lists.proofs.Lists.{accepted-valid, accepted-bytes}
use Rattle.lists.proofs.Written.{ValidList, valid-list}
use Rattle.writer.specs.Writing.{pair, front_list, put_in}
use Rattle.writer.specs.Code.Moves.{raised, with_both, name_spot}
use Rattle.writer.proofs.Fronts.{CanPut, list_with, accepted-whole, front_rest, put-left, put_whole}
use Rattle.writer.proofs.Moves.{inserted-at, spot-there, names-all, code-inserts, entry-long}

-- of the list at the front: so many entries, of which so many stand before the new one, the size of an entry, where the new name belongs,
-- and the whole length
pub record Known (b name : List ℕ) (n k size name_at w : ℕ) : Type 0 where
  pub few : n ≤ 255
  pub within : k ≤ n
  pub large : entry_head ≤ size
  pub small : size ≤ 72
  pub short : length name ≤ longest_name
  pub sooner : k * size ≤ n * size
  pub entries : n * size ≤ 256 * 72
  pub behind : (n - k) * size ≡ n * size - k * size
  pub ordered : entries_at + n * size ≤ name_at
  pub inside : name_at ≤ w
  pub room : w + size + length name ≤ length b

module _ (b name digest : List ℕ) (t : CanPut b name digest) (k : ℕ) (ek : k ≡ earlier name (read_list (front_list b)).pairs) where
  abbrev bs : List ℕ
  bs = front_list b

  abbrev ps : List Pair
  ps = (read_list bs).pairs

  abbrev cut : DigestList
  cut = record { edition = edition_in bs; pairs = take k ps ++ drop k ps }

  cut-is : cut ≡ read_list bs
  unfolding read_list
  cut-is = ap (λ (qs : List Pair). record { edition = edition_in bs; pairs = qs }) (take-append-drop k ps)

  cut-valid : ValidList cut
  cut-valid = subst ValidList (sym cut-is) (valid-list (read_list bs) (accepted-valid bs t.is_list))

  cut_list : list_bytes cut ≡ bs
  cut_list = ap list_bytes cut-is ∙ accepted-bytes bs t.is_list

  k-within : k ≤ length ps
  k-within = rw ek (earlier-within name ps)

  k-long : length (take k ps) ≡ k
  k-long = length-take-le k ps k-within

  module _ (n size name_at w : ℕ) (en : n ≡ count_in bs) (es : size ≡ entry_size (length digest))
      (ea : name_at ≡ name_spot bs (entries_at + k * size) (entries_at + n * size)) (ew : w ≡ length bs) where
    n-pairs : n ≡ length ps
    unfolding read_list
    n-pairs = en ∙ sym (length-read_pairs (count_in bs) (digest_size_in bs) (drop entries_at bs) bs)

    n-cut : n ≡ length (take k ps ++ drop k ps)
    n-cut = n-pairs ∙ ap length (sym (take-append-drop k ps))

    size-list : size ≡ entry_size (digest_size_in bs)
    size-list = es ∙ rw t.sized

    w-cut : w ≡ whole_length cut
    w-cut = ew ∙ sym (accepted-whole bs t.is_list) ∙ sym (ap (λ (l : DigestList). whole_length l) cut-is)

    spot-cut : name_at ≡ names_of cut + length (name_run (take k ps))
    spot-cut =
        ea
        ∙ (λ i. name_spot (sym cut_list i) (entries_at + sym k-long i * size-list i) (entries_at + n-cut i * size-list i))
        ∙ spot-there (edition_in bs) (take k ps) (drop k ps) cut-valid

    pub known : Known b name n k size name_at w
    known =
        let few : n ≤ 255 = omega (arith, t.few, n-pairs) in
        let small : size ≤ 72 = omega (arith, size-list, digest-short (edition_in bs)) in
        let within : k ≤ n = omega (arith, k-within, n-pairs) in
        let split : n ≡ k + (n - k) = omega arith in
        let parts : n * size ≡ k * size + (n - k) * size = ap (λ (m : ℕ). m * size) split ∙ add-mul k (n - k) size in
        record {
          few = few;
          within = within;
          large = omega (arith, es);
          small = small;
          short = name-short name t.named;
          sooner = omega (arith, parts);
          entries = mul-le-mul {n₂ = 256} {m₂ = 72} (omega arith) small;
          behind = omega (arith, parts);
          ordered = omega (arith, spot-cut, names-are);
          inside = omega (arith, spot-cut, w-cut, names-all (edition_in bs) (take k ps) (drop k ps) cut-valid);
          room = omega (arith, t.room, es, ew);
        }
      where
        names-are : entries_at + n * size ≡ names_of cut
        names-are = λ i. entries_at + n-cut i * size-list i

    module _ (bytes : Bytes digest) (b1 b2 b3 b4 new1 new2 : List ℕ)
        (is1 : b1 ≡ with_both (entries_at + k * size) (row_bytes (entry_row (name_at + size) (length name)) ++ digest) name_at name w b)
        (raised1 : new1
        ≡ raised (n - k) size (size + length name)
        (part b1 (entries_at + k * size + size) (entries_at + n * size + size - (entries_at + k * size + size))))
        (is2 : b2
        ≡ put_part (entries_at + k * size + size) (entries_at + n * size + size - (entries_at + k * size + size)) new1 b1)
        (raised2 : new2 ≡ raised k size size (part b2 entries_at (entries_at + k * size - entries_at)))
        (is3 : b3 ≡ put_part entries_at (entries_at + k * size - entries_at) new2 b2)
        (e : ℕ) (ee : e ≡ edition_in bs)
        (is4 : b4 ≡ row_bytes (list_row e (n + 1) (entries_at + n * size + size) (w + (size + length name))) ++ drop entries_at b3) where
      abbrev p : Pair
      p = pair name digest

      abbrev r : List ℕ
      r = drop (length bs) b

      buffer-cut : b ≡ list_bytes cut ++ r
      buffer-cut = front_rest b ∙ ap (λ (l : List ℕ). l ++ r) (sym cut_list)

      cut-with : record { edition = edition_in bs; pairs = take k ps ++ (p ∷ drop k ps) } ≡ list_with b name digest
      unfolding read_list
      cut-with =
          ap (λ (qs : List Pair). record { edition = edition_in bs; pairs = qs })
          ((λ i. take (ek i) ps ++ (p ∷ drop (ek i) ps)) ∙ sym (inserted-at p ps))

      new-long : length (list_bytes (list_with b name digest)) ≡ length bs + (size + length name)
      new-long = put_whole b name digest t bytes ∙ omega (arith, es)

      pub put-moves : b4 ≡ put_in b name digest
      put-moves =
          let far : length bs + (entry_size (digest_size_in bs) + length name) ≡ length (list_bytes (list_with b name digest)) =
          omega (arith, new-long, size-list) in
          let entry_bytes = row_bytes (entry_row (name_at + size) (length name)) ++ digest in
          let entry = entry-long (edition_in bs) (take k ps) (drop k ps) cut-valid p t.sized (name-short name t.named) r in
          code-inserts (edition_in bs) (take k ps) (drop k ps) cut-valid p t.sized (name-short name t.named) r
          n k size name_at w n-cut (sym k-long) size-list spot-cut w-cut b1 b2 b3 b4 new1 new2
          (is1 ∙ ap (with_both (entries_at + k * size) entry_bytes name_at name w) buffer-cut)
          raised1 is2 raised2 is3 (rw ee at is4)
          ∙ (λ i. list_bytes (cut-with i) ++ drop (entry i + length name) r)
          ∙ ap (λ (l : List ℕ). list_bytes (list_with b name digest) ++ l)
          (drop-drop (entry_size (digest_size_in bs) + length name) (length bs) b
          ∙ ap (λ (m : ℕ). drop m b) far)
          ∙ sym (put-left b name digest t bytes)
