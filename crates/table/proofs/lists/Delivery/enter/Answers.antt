use Rattle.book.specs.Meaning.{FollowsFromOne}
use Rattle.table.proofs.Merging.{merging_start, room_for_next, merging_more, merging_all}
use Rattle.table.proofs.lists.Delivery.enter.Goals as goal

pub loop-code-init : goal.loop-code-init
loop-code-init g c =
    rw c.into_iter-code-iterator.ensures.into_iter_gives (merging_start (FollowsFromOne (g.B.Book.meaning c.args.self.now.list.book.now) c.args.self.now.list.facts.now) _ c.args.cells.now c.args.kept c.over-code-items.ensures c.requires.within c.requires.ascends c.requires.room)

pub place-requires-clause-room : goal.place-requires-clause-room
place-requires-clause-room g c = room_for_next _ _ _ _ _ c.in-Some.code c.in-Some.ensures.steps c.loop-code.invariant

pub loop-code-preserved : goal.loop-code-preserved
loop-code-preserved g c = merging_more _ _ _ _ _ c.in-Some.code c.in-Some.ensures.steps c.loop-code.invariant _ _ _ c.place.auto.cells c.place.ensures

pub returns : goal.returns
returns g c = merging_all (rw c.in-None.ensures.steps.0 at c.loop-code.invariant)
