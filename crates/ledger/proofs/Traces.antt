-- Calls that were made show what the plain ledger gives: `from-sound` and `from-layout`, for whatever says what a call did, as long as that
-- is a step of `run` and what was lent is words and bytes (`Faithful`). The contracts of the functions are: `code-faithful` and, at the
-- functions of `calls`, `code-ledger`.
use Prim.Native.Nat.{ℕ, zero, suc}
use mathlib.Core.List.{List, [], ◌∷◌}
use mathlib.Core.Path.{◌≡◌, refl, sym, ap, ap₂, subst, ◌∙◌}
use lib.ListN.{length, replicate}
use Rattle.answers.specs.Judged.{first, after, lent}
use Rattle.bays.proofs.Frames.{below-bay_at}
use Rattle.calls.specs.Calls.{Call, lay_out, asking, Lends, tests, leaves, Told, nothing_told, tells, Outcome, Asks, Seen, Ran, run}
use Rattle.ledger.specs.Ledger.{Slot, nothing, keep}
use Rattle.ledger.specs.Promise.{said_of, slots_after, Undamaged}
use Rattle.ledger.specs.Sound.{SoundTable, ledger_of}
use Rattle.ledger.specs.Traces.{Doing, shows, shows_told, Trace, none, then, FromSound, FromLayout, StaySound, LaySound}
use Rattle.ledger.specs.Code.{Did, lay-out-did, open-did, add-did, close-did, save-did, load-did, ask-did, drop-did}
use Rattle.ledger.proofs.Follows.{Follows, sound-follows, follows-sound}
use Rattle.ledger.proofs.Ledger.{same_seen, still-follows, laid, said-undamaged}

-- ---- what a contract says of a call is a step of `run`

pub record Faith (t : List ℕ) (c : Call) (s : Seen) (u : List ℕ) : Type 0 where
  pub ran : run t c ≡ record { seen = s; table = u }
  pub lends : Lends t c

abbrev pub Faithful : Doing → Type 0
Faithful D = (t : List ℕ) (c : Call) (s : Seen) (u : List ℕ) → D t c s u → Faith t c s u

after_same : {A : Type 0} (n : ℕ) (x : A) → after n x x ≡ x
after_same zero x = refl
after_same (suc n) x = refl

-- a call that tells nothing
pub outcome-faith : {t u o : List ℕ} {c : Call} {n : ℕ} → tells t c ≡ nothing_told → Outcome t c n u o × Lends t c → Faith t c (shows n o) u
unfolding run
outcome-faith {t} {u} {o} {c} {n} silent (j, l) =
    let k : ℕ = first (tests t c) in
    record {
      ran = λ i.
          record {
            seen =
                record {
                  answer = sym j.answer i;
                  says = (ap (after k nothing_told) silent ∙ after_same k nothing_told) i;
                  output = (sym j.leaves i).output;
                };
            table = (sym j.leaves i).table;
          };
      lends = l;
    }

pub ask-faith : {t : List ℕ} {b n : ℕ} {says : Told} → Asks t b n says × Lends t (asking b) → Faith t (asking b) (shows_told n says) t
unfolding run leaves
ask-faith {t} {b} {n} {says} (j, l) =
    let same = after_same (first (tests t (asking b))) (lent t []) in
    record {
      ran = λ i.
          record {
            seen = record { answer = sym j.answer i; says = sym j.leaves i; output = (same i).output };
            table = (same i).table;
          };
      lends = l;
    }

-- ---- traces

module _ (D : Doing) (faithful : Faithful D) where
  -- one call that was made
  pub did-seen : {L : ℕ} {t u : List ℕ} {l : List Slot} {c : Call} {s : Seen} → Follows L t l → D t c s u → s ≡ (keep L l c).seen
  did-seen {c = c} f d =
      let h = faithful _ _ _ _ d in
      ap (λ (x : Ran). x.seen) (sym h.ran) ∙ same_seen f c h.lends.1

  pub did-follows : {L : ℕ} {t u : List ℕ} {l : List Slot} {c : Call} {s : Seen} → Follows L t l → D t c s u →
      Follows L u (keep L l c).slots
  did-follows {L} {l = l} {c = c} f d =
      let h = faithful _ _ _ _ d in
      subst (λ (x : Ran). Follows L x.table (keep L l c).slots) h.ran (still-follows f c h.lends.1)

  pub trace-seen : {L : ℕ} {t v : List ℕ} {l : List Slot} {cs : List Call} {ss : List Seen} → Follows L t l → Trace D t cs ss v →
      ss ≡ said_of L l cs
  unfolding said_of
  trace-seen f (none t) = refl
  trace-seen f (then d more) =
      ap₂ (λ (x : Seen) (xs : List Seen). x ∷ xs) (did-seen f d) (trace-seen (did-follows f d) more)

  pub trace-follows : {L : ℕ} {t v : List ℕ} {l : List Slot} {cs : List Call} {ss : List Seen} → Follows L t l → Trace D t cs ss v →
      Follows L v (slots_after L l cs)
  unfolding slots_after
  trace-follows f (none t) = f
  trace-follows f (then d more) = trace-follows (did-follows f d) more

  shown-follows : {L : ℕ} {t v : List ℕ} {l : List Slot} {cs : List Call} {ss : List Seen} → Follows L t l → Trace D t cs ss v →
      (ss ≡ said_of L l cs) × Undamaged ss
  shown-follows {L} {l = l} {cs = cs} f made =
      let e = trace-seen f made in
      (e, subst Undamaged (sym e) (said-undamaged L l cs))

  -- the first call that is made on a table says that its words are of 64 bits
  pub did-sound : {t u : List ℕ} {c : Call} {s : Seen} → SoundTable t → D t c s u → Follows (length t) t (ledger_of t)
  did-sound {t} sound d = sound-follows t sound (λ i h. below-bay_at t i (faithful _ _ _ _ d).lends.0)

  pub from-sound : FromSound D
  unfolding said_of
  from-sound t sound [] shown left (none u) = (refl, tt)
  from-sound t sound (c ∷ cs) shown left (then d more) = shown-follows (did-sound sound d) (then d more)

  pub stays-sound : StaySound D
  stays-sound t sound [] shown left (none u) = sound
  stays-sound t sound (c ∷ cs) shown left (then d more) = follows-sound (trace-follows (did-sound sound d) (then d more))

  laid-made : (words t : List ℕ) (n : ℕ) (s : Seen) → D words (lay_out n) s t → s.answer ≡ 0 →
      Follows (length words) t (replicate n nothing)
  laid-made words t n s d ok =
      let h = (faithful _ _ _ _ d).ran in
      subst (λ (x : Ran). Follows (length words) x.table (replicate n nothing)) h
      (laid words n (ap (λ (x : Ran). x.seen.answer) h ∙ ok))

  pub lays_sound : LaySound D
  lays_sound words t n s d ok = follows-sound (laid-made words t n s d ok)

  pub from-layout : FromLayout D
  from-layout words t n s d ok calls shown left made = shown-follows (laid-made words t n s d ok) made

-- ---- the functions in src

code-faith : {t u : List ℕ} {c : Call} {s : Seen} → Did t c s u → Faith t c s u
unfolding tells
code-faith (lay-out-did m) = outcome-faith refl m.learnt
code-faith (open-did m) = outcome-faith refl m.learnt
code-faith (add-did m) = outcome-faith refl m.learnt
code-faith (close-did m) = outcome-faith refl m.learnt
code-faith (save-did m) = outcome-faith refl m.learnt
code-faith (load-did m) = outcome-faith refl m.learnt
code-faith (ask-did m) = ask-faith m.learnt
code-faith (drop-did m) = outcome-faith refl m.learnt

pub code-faithful : Faithful Did
code-faithful t c s u d = code-faith d

pub code-ledger : FromLayout Did
code-ledger = from-layout Did code-faithful

pub code-ledger-sound : FromSound Did
code-ledger-sound = from-sound Did code-faithful

pub code-stays-sound : StaySound Did
code-stays-sound = stays-sound Did code-faithful

pub code-lays-sound : LaySound Did
code-lays-sound = lays_sound Did code-faithful
