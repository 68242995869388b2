use Rattle.std.proofs.Common.{take, reverse, ◌⊎◌}
use Rattle.std.specs.List.{Contains}
use Rattle.book.specs.Meaning.{FollowsFromOne}
use Rattle.table.specs.Descent.{codes_left}
use Rattle.table.proofs.Merging.{Merging}
use Rattle.table.proofs.lists.Delivery.enter.Given as goal

abbrev pub invariant-loop-code : goal.invariant-loop-code
invariant-loop-code g l =
    Merging (λ c. FollowsFromOne (g.B.Book.meaning l.self.list.book.now) l.self.list.facts.now c ⊎ Contains (take l.kept l.initial.cells) c)
    (reverse (codes_left (g.B.Book.meaning l.code-iterator.book.now) l.code-iterator.cursors.items)) l.cells l.below l.top
