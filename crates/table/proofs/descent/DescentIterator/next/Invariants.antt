use Rattle.std.proofs.Common.{◌≡◌, ℕ, ◌<◌, ◌≤◌, get_or}
use Rattle.std.specs.List.{All}
use Rattle.table.specs.Descent.{row_left, lows, IsInPlace}
use Rattle.table.proofs.descent.DescentIterator.next.Given as goal

-- the cursors so far have passed the code, and the others stand as they did
abbrev pub invariant-loop-cursor : goal.invariant-loop-cursor
invariant-loop-cursor g l =
    let m = g.B.Book.meaning l.fn.self.book.now in
    record {
      in_place : All (IsInPlace m) l.cursor-items;
      passed : (k : ℕ) (d : _) → k < l.cursor-index → row_left m (get_or l.cursor-items k d) ≡ lows l.code (row_left m (get_or l.fn.self.cursors.items k d));
      others : (k : ℕ) (d : _) → l.cursor-index ≤ k → get_or l.cursor-items k d ≡ get_or l.fn.self.cursors.items k d;
    }
