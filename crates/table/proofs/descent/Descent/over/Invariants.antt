use Rattle.std.proofs.Common.{◌≡◌, length, take}
use Rattle.std.specs.List.{All, flat_map}
use Rattle.table.specs.Descent.{to_come, IsInPlace}
use Rattle.table.proofs.descent.Descent.over.Given as goal

-- a cursor for each fact so far, before all of its consequences
abbrev pub invariant-loop-fact : goal.invariant-loop-fact
invariant-loop-fact g l =
    let m = g.B.Book.meaning l.book in
    record {
      number : length l.cursors.items ≡ l.fact-index;
      in_place : All (IsInPlace m) l.cursors.items;
      all : to_come m l.cursors.items ≡ flat_map m.consequences (take l.fact-index l.list.facts.now);
    }
