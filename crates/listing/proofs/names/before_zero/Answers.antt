-- `listing::names::before_zero` meets its contract: the place of the first zero, or the end.
use Rattle.std.proofs.Common.{◌≡◌, nat_eq, rules, tests, ◌∙◌}
use Rattle.std.specs.List.{position}
use Rattle.std.proofs.lemmas.Iterator.{YieldsList-from_slice}
use Rattle.std.proofs.lemmas.Iterator.Search.{position_from_yields_List}
use Rattle.listing.proofs.ByZeros.{before-within, before-found}
use Rattle.listing.proofs.names.before_zero.Goals as goal

pub returns : goal.returns
returns c =
    let found : c.position.result ≡ position (λ b. nat_eq b 0) c.args.bytes.now =
    position_from_yields_List (λ b. nat_eq b 0) _ _ _ c.position.ensures.ran (YieldsList-from_slice _ c.iter.ensures.rest)
    (λ x b q k. search (rules, tests)) in
    let is = c.unwrap_or.ensures ∙ rw found (before-found c.args.bytes.now) in
    (is, rw is (before-within c.args.bytes.now))
