use Rattle.std.proofs.Common.{◌≤◌, Bool, List}
use Rattle.std.specs.List.Retain.{ReturnsInTurn}
use Rattle.std.proofs.Retain.{RetainInvariant}
use Rattle.rows.proofs.gather.Given as goal

-- what was kept so far stands in front, and the rest is as it was
abbrev pub invariant-loop-i : goal.invariant-loop-i
invariant-loop-i g l =
    (l.kept ≤ l.i) × goal.F-IsAlwaysCallable g l.test
    × ((bs : List Bool) × RetainInvariant bs l.initial.row l.row l.kept l.i × ReturnsInTurn (λ p x b q. goal.F-step g p x b q) l.initial.test bs l.initial.row l.test)
