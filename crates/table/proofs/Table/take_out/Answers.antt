use Rattle.std.proofs.Common.{arith, rules}
use Rattle.std.proofs.lemmas.Fn.{filter_same}
use Rattle.table.specs.Checks.{untouched}
use Rattle.table.proofs.Withdrawals.{withdrawn, so_many_gone}
use Rattle.table.proofs.Table.take_out.Goals as goal

pub returns-clause-facts : goal.returns-clause-facts
returns-clause-facts g c =
    let l = c.in_ok-named.named in
    let same = c.in_ok-named.ensures.same in
    rw (← same.0, ← same.1)
    (so_many_gone (withdrawn _ _ _ _ _ c.args.self.now.ascends (record { short = l.short; known = l.known }) (filter_same _ (untouched (g.B.Book.meaning l.book.now) l.facts.now) _ (λ x b f' k. search rules) _ _ c.retain-gone.ensures.stay) c.retain-gone.ensures.gone) (omega arith), omega arith)
