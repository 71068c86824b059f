-- `listing::names::count` meets its contract: the zeros are what passes.
use Rattle.std.proofs.Common.{◌≡◌, nat_eq, rules, sym, ◌∙◌}
use Rattle.std.specs.List.{count_by}
use Rattle.listing.proofs.ByZeros.{zeros-counted}
use Rattle.listing.proofs.names.count.Goals as goal

pub returns : goal.returns
returns c =
    let passed : c.count.result ≡ count_by (λ b. nat_eq b 0) c.args.input.now = search rules in
    passed ∙ sym (zeros-counted _)
