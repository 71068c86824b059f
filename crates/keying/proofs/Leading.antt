-- What a start with a key and then pieces lead to: `Leads`. It begins so, `leads-start`, and each piece that passes goes on, `leads-add`.
-- Such a keyed hash is sound, `leads-sound` and `leads-shaped`, takes what the limit leaves, `room-left`, and its tag is FIPS 198-1's,
-- `leads-tag`; at once its message is not too long either, `leads-lengths`, and a tag has one outcome in pieces and at once,
-- `leads-tagged` and `once-tagged`.
use Prim.Native.Nat.{ℕ, ◌+◌}
use mathlib.Core.Bool.{true, false, cond}
use mathlib.Core.List.{List, [], ◌∷◌, ◌++◌}
use mathlib.Core.Path.{◌≡◌, refl, sym, ap, ap₂, subst, ◌∙◌}
use native.Mathlib.Omega.{arith}
use lib.Dec.{ltb, lit<}
use lib.ListN.{length, length-append}
use Rattle.answers.specs.Judged.{Test, ◌when◌, first, after, Judged}
use Rattle.slices.specs.AtFront.{at_front}
use Rattle.slices.specs.Below.{Bytes}
use Rattle.slices.proofs.Below.{below-nil, below-append}
use Rattle.fips.specs.Editions.{known, digest_bytes}
use Rattle.dwsha2.specs.Limit.{too_long}
use Rattle.dwsha2.proofs.Limits.{same_sum}
use Rattle.hmac.specs.Hmac.{B, hmac}
use Rattle.keyed.specs.declared.Keyed.{Keyed}
use Rattle.keyed.specs.State.{sound, Shaped}
use Rattle.keyed.specs.Steps.{started, added, tag_of, tag_tests, keyed_of}
use Rattle.keyed.specs.AtOnce.{Tags}
use Rattle.keyed.proofs.Adding.{block-short}
use Rattle.keyed.proofs.Hashing.{tag-hmac}
use Rattle.keyed.proofs.Judging.{LengthsPass, tag-first}
use Rattle.keyed.proofs.Messages.{of-edition, of-count, keyed-none, keyed-more, keyed-sound, keyed-shaped}
use Rattle.keying.proofs.Passing.{StartPasses, passes_limit, tag-answers}

-- an edition, a key and bytes within the limit, and the keyed hash that they lead to
pub record Leads (e : ℕ) (key all : List ℕ) (k : Keyed) : Type 0 where
  pub ok : known e ≡ true
  pub key-short : too_long e 0 (length key) ≡ false
  pub key-bytes : Bytes key
  pub all-bytes : Bytes all
  pub within : too_long e (B e) (length all) ≡ false
  pub is : k ≡ keyed_of e key all

pub leads-start : (e : ℕ) (key : List ℕ) → StartPasses e key → Bytes key → Leads e key [] (started e key)
leads-start e key pass small =
    record {
      ok = pass.ok;
      key-short = pass.within;
      key-bytes = small;
      all-bytes = below-nil 256 (lit< tt);
      within = same_sum e (B e) 0 0 (B e) (omega arith) ∙ block-short e;
      is = sym (keyed-none e key pass.ok small);
    }

module _ {e : ℕ} {key all : List ℕ} {k : Keyed} (l : Leads e key all k) where
  pub leads-same : {h : Keyed} → h ≡ k → Leads e key all h
  leads-same same =
      record {
        ok = l.ok;
        key-short = l.key-short;
        key-bytes = l.key-bytes;
        all-bytes = l.all-bytes;
        within = l.within;
        is = same ∙ l.is;
      }

  -- how many bytes more it takes
  pub room-left : (more : List ℕ) → passes_limit k more ≡ too_long e (B e) (length (all ++ more))
  room-left more =
      ap (λ (h : Keyed). passes_limit h more) l.is
      ∙ ap₂ (λ (n c : ℕ). too_long n c (length more)) (of-edition e key all) (of-count e key all)
      ∙ same_sum e (B e + length all) (length more) (B e) (length (all ++ more)) (omega (arith, length-append all more))

  pub leads-add : (more : List ℕ) → Bytes more → passes_limit k more ≡ false → Leads e key (all ++ more) (added k more)
  leads-add more small within =
      record {
        ok = l.ok;
        key-short = l.key-short;
        key-bytes = l.key-bytes;
        all-bytes = below-append all more l.all-bytes small;
        within = sym (room-left more) ∙ within;
        is = ap (λ (h : Keyed). added h more) l.is ∙ keyed-more e key l.ok l.key-bytes all more;
      }

  pub leads-sound : sound k ≡ true
  leads-sound = ap sound l.is ∙ keyed-sound e key l.ok l.key-bytes all l.all-bytes l.within

  pub leads-shaped : Shaped k
  leads-shaped = subst Shaped (sym l.is) (keyed-shaped e key l.ok l.key-bytes all l.all-bytes l.within)

  pub leads-edition : k.inner.edition ≡ e
  leads-edition = ap (λ (h : Keyed). h.inner.edition) l.is ∙ of-edition e key all

  -- at once neither the edition nor a length of these is refused
  pub leads-lengths : LengthsPass e (length key) (length all)
  leads-lengths = record { ok = l.ok; short = rw l.key-short l.within }

  pub leads-tag : tag_of k ≡ hmac e key all
  leads-tag = ap tag_of l.is ∙ tag-hmac e key l.key-bytes all l.all-bytes

-- ---- one outcome in pieces and at once

-- a tag is refused for a short output alone, with 9, or written: of a call of which that much is known
module _ (e : ℕ) (key all out : List ℕ) where
  abbrev short_output : List Test
  short_output = 9 when ltb (length out) (digest_bytes e) ∷ []

  abbrev pub Tagged : ℕ → List ℕ → Type 0
  Tagged n left = Judged short_output out (at_front (hmac e key all) out) n left

  judged-by : {tests : List Test} {tag left : List ℕ} {n : ℕ} → first tests ≡ cond (ltb (length out) (digest_bytes e)) 9 0 →
      tag ≡ hmac e key all → Judged tests out (at_front tag out) n left → Tagged n left
  unfolding first
  judged-by same is j =
      record {
        answer = j.answer ∙ same;
        leaves = j.leaves ∙ ap₂ (λ (n : ℕ) (tag : List ℕ). after n out (at_front tag out)) same is;
      }

  pub leads-tagged : {k : Keyed} {tests : List Test} {left : List ℕ} {n : ℕ} → Leads e key all k →
      first tests ≡ first (tag_tests k out) → Judged tests out (at_front (tag_of k) out) n left → Tagged n left
  leads-tagged {k} l same j =
      judged-by
      (same
      ∙ tag-answers k out (leads-sound l)
      ∙ ap (λ (n : ℕ). cond (ltb (length out) (digest_bytes n)) 9 0) (leads-edition l)) (leads-tag l) j

  pub once-tagged : {e' n : ℕ} {key' all' out' left : List ℕ} → LengthsPass e (length key) (length all) → e' ≡ e → key' ≡ key → all' ≡ all →
      out' ≡ out → Tags e' key' all' out' n left → Tagged n left
  once-tagged {n = n} {key' = key'} {all' = all'} {out' = out'} {left = left} pass is_e is_key is_all is_out j =
      judged-by (tag-first e key all out pass) refl
      (subst (λ (o : List ℕ). Tags e key all o n left) is_out
      (subst (λ (m : List ℕ). Tags e key m out' n left) is_all
      (subst (λ (k : List ℕ). Tags e k all' out' n left) is_key (subst (λ (x : ℕ). Tags x key' all' out' n left) is_e j))))
