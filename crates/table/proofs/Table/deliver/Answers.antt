use Rattle.table.proofs.Deliveries.{few_come, unknown_stay}
use Rattle.table.proofs.Worlds.{delivery_by_worlds, delivery_keeps_a_world}
use Rattle.table.proofs.Table.deliver.Goals as goal

pub returns-clause-few : goal.returns-clause-few
returns-clause-few g c = few_come _ _ (g.met.B.Book.lawful c.args.book.now) _ _ _ _ _ c.take_in.ensures.facts

pub returns-clause-unknown_stay : goal.returns-clause-unknown_stay
returns-clause-unknown_stay g c = unknown_stay _ _ (g.met.B.Book.lawful c.args.book.now) _ _ _ _ _ c.take_in.ensures.facts

pub returns-clause-by_worlds : goal.returns-clause-by_worlds
returns-clause-by_worlds g c = delivery_by_worlds _ _ (g.met.B.Book.lawful c.args.book.now) _ _ _ _ _ c.take_in.ensures.facts

pub returns-clause-some_world : goal.returns-clause-some_world
returns-clause-some_world g c = delivery_keeps_a_world _ _ (g.met.B.Book.lawful c.args.book.now) _ _ _ _ _ c.take_in.ensures.facts
