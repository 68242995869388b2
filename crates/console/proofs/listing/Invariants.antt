use Rattle.std.proofs.Common.{◌≡◌, ◌+◌, ◌≤◌, ◌^◌, length, string_bytes}
use Rattle.std.specs.Iterator.{size}
use Rattle.console.specs.Lines.{fact_lines}
use Rattle.console.proofs.listing.Given as goal

-- what came so far is written and counted, and few are left
abbrev pub invariant-loop-fact : goal.invariant-loop-fact
invariant-loop-fact g l =
    (goal.iterator-loop-fact g).can_next l.fact-iterator
    × (goal.iterator-loop-fact g).is_finite l.fact-iterator
    × (string_bytes l.out ≡ fact_lines l.yielded)
    × (l.count ≡ length l.yielded)
    × (l.count + size (g.I.Iterator.remaining l.fact-iterator) ≤ 2 ^ 63)
