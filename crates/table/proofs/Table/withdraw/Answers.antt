use Rattle.table.proofs.Withdrawals.{unknown_stay}
use Rattle.table.proofs.Worlds.{withdrawal_by_worlds, withdrawal_keeps_a_world}
use Rattle.table.proofs.Table.withdraw.Goals as goal

pub returns-clause-unknown_stay : goal.returns-clause-unknown_stay
returns-clause-unknown_stay g c = unknown_stay _ _ (g.met.B.Book.lawful c.args.book.now) _ _ _ _ c.take_out.ensures.facts

pub returns-clause-by_worlds : goal.returns-clause-by_worlds
returns-clause-by_worlds g c = withdrawal_by_worlds _ _ (g.met.B.Book.lawful c.args.book.now) _ _ _ _ c.take_out.ensures.facts

pub returns-clause-some_world : goal.returns-clause-some_world
returns-clause-some_world g c = withdrawal_keeps_a_world _ _ (g.met.B.Book.lawful c.args.book.now) _ _ _ _ c.take_out.ensures.facts
