-- `dwsha2::hashing::absorb` meets its contract: by the edition's width, with words converted where they have 32 bits. Assumes nothing.
use Prim.Native.Nat.{ℕ}
use mathlib.Core.List.{List}
use mathlib.Core.Path.{◌≡◌, sym, ap, ◌∙◌}
use mir.Syntax.{w64 as u64}
use mir.Val.{Fits}
use lib.ListN.{get_or}
use borrow.Author.Rules.{rules}
use Rattle.fips.specs.Constants.{chain}
use Rattle.fips.specs.Code.ByteForm.{parse_bytes}
use Rattle.fips.specs.Editions.{width}
use Rattle.fips.specs.Words.{w32, w64}
use Rattle.fips.specs.Sizes.{width_of}
use Rattle.fips.proofs.Sizes.{width-of}
use Rattle.dwsha2.proofs.Widths.{fit_same}
use Rattle.dwsha2.proofs.Absorbed.{absorbed-at}
use Rattle.dwsha2.proofs.hashing.absorb.Goals as goal

pub returns-then-narrow : goal.returns-then-narrow
returns-then-narrow c = let a = c.args in
    let e = a.edition in
    let thin : width e ≡ w32 =
    width-of e ∙ ap width_of (sym c.narrow.ensures ∙ c.if-narrow.true)
    in
    c.widened.ensures
    ∙ c.absorb32.ensures
    ∙ ap (λ (H : List ℕ). chain w32 H (parse_bytes w32 a.bytes.now)) c.narrowed.ensures
    ∙ sym (absorbed-at e w32 a.words a.bytes.now thin)

pub returns-else-narrow : goal.returns-else-narrow
returns-else-narrow c = let a = c.args in
    let e = a.edition in
    let wide : width e ≡ w64 = width-of e ∙ ap width_of (sym c.narrow.ensures ∙ c.if-narrow.false) in
    let fits : (i : ℕ) → Fits u64 (get_or a.words i 0) = λ i. search rules in
    c.absorb64.ensures
    ∙ ap (λ (H : List ℕ). chain w64 H (parse_bytes w64 a.bytes.now)) (sym (fit_same w64 a.words (λ i. (fits i).fits)))
    ∙ sym (absorbed-at e w64 a.words a.bytes.now wide)
