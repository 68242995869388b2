use Rattle.std.proofs.Common.{rules}
use Rattle.std.proofs.lemmas.Iterator.{YieldsList-from_slice}
use Rattle.std.proofs.lemmas.Iterator.Search.{any_from_yields_List}
use Rattle.table.specs.Checks.{leads}
use Rattle.table.proofs.Tests.{leads_is}
use Rattle.table.proofs.lists.KnownList.spares.Goals as goal

pub returns : goal.returns
returns g c =
    let l = c.args.self.now in
    let m = g.B.Book.meaning l.book.now in
    let is = any_from_yields_List (leads m c.args.fact) _ _ _ c.any.ensures.ran (YieldsList-from_slice l.facts.now cc) (λ x b q k. (search rules, leads_is m c.args.fact x.now b (search rules))) in
    search (rules, is)
