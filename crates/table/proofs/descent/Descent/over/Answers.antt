use Rattle.std.proofs.Common.{arith}
use Rattle.std.proofs.lemmas.List.{take_all}
use Rattle.table.proofs.Descents.{all_to_come}
use Rattle.table.proofs.descent.Descent.over.Goals as goal

pub returns : goal.returns
returns g c =
    let whole = take_all c.loop-fact.fact-index c.args.list.now.facts.now (omega arith) in
    all_to_come (g.B.Book.meaning c.args.list.now.book.now) c.args.list.now.facts.now c.loop-fact.cursors.items (rw whole at c.loop-fact.invariant.all)
