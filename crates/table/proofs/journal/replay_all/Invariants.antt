use Rattle.std.proofs.Common.{◌≡◌}
use Rattle.table.specs.View.{cells_of, facts_of}
use Rattle.table.proofs.Journals.{Replaying}
use Rattle.table.proofs.journal.replay_all.Given as goal

-- the calls so far are carried out on the table that was made, whose cells keep their name
abbrev pub invariant-loop-i : goal.invariant-loop-i
invariant-loop-i g l =
    Replaying (g.B.Book.meaning l.book) (cells_of l.initial.table) l.calls l.initial.answers (cells_of l.table) (facts_of l.table) l.answers l.i
    × (l.table.cells.ghost_name ≡ l.initial.table.cells.ghost_name)
