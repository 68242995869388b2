use Rattle.std.proofs.Common.{rules}
use Rattle.table.proofs.Tests.{against_is}
use Rattle.table.proofs.lists.Delivery.spares.Goals as goal

pub returns : goal.returns
returns g c =
    let l = c.args.self.now.list in
    let is = against_is (g.B.Book.meaning l.book.now) l.facts.now c.args.fact _ c.is_none.result c.first_against.ensures.first c.is_none.ensures in
    search (rules, is)
