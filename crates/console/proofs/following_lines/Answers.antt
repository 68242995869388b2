use Rattle.std.proofs.Common.{arith, length, ap}
use Rattle.std.proofs.lemmas.Iterator.Consumers.{YieldsList-from_first}
use Rattle.console.proofs.FactLines.{listing_of}
use Rattle.console.proofs.following_lines.Goals as goal

pub listing-requires-clause-few : goal.listing-requires-clause-few
listing-requires-clause-few g c =
    let law = g.met.B.Book.lawful c.args.book.now in
    (tt, omega (arith, ap length c.of.ensures, law.at_most_follow c.args.fact, law.most_is_small))

pub returns : goal.returns
returns g c = listing_of c.listing.result c.listing.ensures (YieldsList-from_first (λ x. x) (λ s. s) _ c.of.ensures)
