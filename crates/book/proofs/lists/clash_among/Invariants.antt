use Rattle.std.proofs.Common.{◌≡◌, ℕ, ◌<◌, ◌≤◌, false, get_or}
use Rattle.book.proofs.lists.clash_among.Given as goal

-- no two so far clash
abbrev pub invariant-loop-j : goal.invariant-loop-j
invariant-loop-j g l = (i j : ℕ) → i ≤ j → j < l.j → (g.B.Book.meaning l.book).clash (get_or l.facts i 0) (get_or l.facts j 0) ≡ false
