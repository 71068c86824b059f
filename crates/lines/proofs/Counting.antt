-- Counting verdict by verdict gives each sum: `count-one` counts one, `plus-plus` goes on, and from nothing on it is `tally_of`,
-- `plus-all`.
-- `Room` says that no count leaves its word.
use Rattle.std.proofs.Common.{◌≡◌, ℕ, suc, ◌+◌, ◌^◌, ◌<◌, ◌≤◌, List, [], ◌∷◌, length, mod-eq_of_lt, arith}
use Rattle.lines.specs.declared.Tally.{Tally}
use Rattle.lines.specs.declared.Verdict.{Verdict}
use Rattle.lines.specs.Lines.{is_ok, is_bad, is_missing, sum, tally_of}
use Rattle.lines.specs.Code.Counting.{nothing_counted, one_more, counted}

-- so many more of each kind
abbrev pub plus : Tally → List Verdict → Tally
plus t vs =
    record {
      listed = t.listed + length vs;
      ok = t.ok + sum is_ok vs;
      bad = t.bad + sum is_bad vs;
      missing = t.missing + sum is_missing vs;
    }

tally-eq : {a b : Tally} → a.listed ≡ b.listed → a.ok ≡ b.ok → a.bad ≡ b.bad → a.missing ≡ b.missing → a ≡ b
tally-eq p q r s = λ i. record { listed = p i; ok = q i; bad = r i; missing = s i }

-- the counts are those of the listed, and there is room for n more
pub record Room (t : Tally) (n : ℕ) : Type 0 where
  room : t.listed + n < 2 ^ 64
  oks : t.ok ≤ t.listed
  bads : t.bad ≤ t.listed
  missings : t.missing ≤ t.listed

more-by-one : (n m : ℕ) → n ≤ m → m + 1 < 2 ^ 64 → one_more n ≡ n + 1
more-by-one n m h k = mod-eq_of_lt (omega arith)

listed-more : (t : Tally) (n : ℕ) → Room t (suc n) → one_more t.listed ≡ t.listed + 1
listed-more t n r = more-by-one t.listed t.listed (omega arith) (omega (arith, r.room))

-- one verdict is counted
pub count-one : (t : Tally) (v : Verdict) (n : ℕ) → Room t (suc n) → counted t v ≡ plus t (v ∷ [])
unfolding counted sum
count-one t Verdict.Ok n r =
    tally-eq (listed-more t n r) (more-by-one t.ok t.listed r.oks (omega (arith, r.room))) (omega arith) (omega arith)
count-one t Verdict.Bad n r =
    tally-eq (listed-more t n r) (omega arith) (more-by-one t.bad t.listed r.bads (omega (arith, r.room))) (omega arith)
count-one t (Verdict.Missing why) n r =
    tally-eq (listed-more t n r) (omega arith) (omega arith) (more-by-one t.missing t.listed r.missings (omega (arith, r.room)))

pub at_most_one : (v : Verdict) → (is_ok v ≤ 1) × (is_bad v ≤ 1) × (is_missing v ≤ 1)
at_most_one Verdict.Ok = (omega arith, omega arith, omega arith)
at_most_one Verdict.Bad = (omega arith, omega arith, omega arith)
at_most_one (Verdict.Missing why) = (omega arith, omega arith, omega arith)

pub room-one : (t : Tally) (v : Verdict) (n : ℕ) → Room t (suc n) → Room (plus t (v ∷ [])) n
unfolding sum
room-one t v n r =
    let few = at_most_one v in
    record {
      room = omega (arith, r.room);
      oks = omega (arith, r.oks, few.0);
      bads = omega (arith, r.bads, few.1);
      missings = omega (arith, r.missings, few.2);
    }

pub room-first : (n : ℕ) → n < 2 ^ 64 → Room nothing_counted n
room-first n h = record { room = omega arith; oks = omega arith; bads = omega arith; missings = omega arith }

pub plus_none : (t : Tally) → plus t [] ≡ t
unfolding sum
plus_none t = tally-eq (omega arith) (omega arith) (omega arith) (omega arith)

pub plus-plus : (t : Tally) (v : Verdict) (vs : List Verdict) → plus (plus t (v ∷ [])) vs ≡ plus t (v ∷ vs)
unfolding sum
plus-plus t v vs = tally-eq (omega arith) (omega arith) (omega arith) (omega arith)

pub plus-all : (vs : List Verdict) → plus nothing_counted vs ≡ tally_of vs
plus-all vs = tally-eq (omega arith) (omega arith) (omega arith) (omega arith)
