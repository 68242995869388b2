use Rattle.std.proofs.Common.{◌<◌, ◌↔◌, length}
use Rattle.place_book.specs.Places.{Within}
use Rattle.place_book.specs.View.{parents_of}
use Rattle.place_book.proofs.answers.PlaceBook.is_within.Given as goal

-- the place reached stands, and lies within the outer one where the place begun at does
abbrev pub invariant-loop-at : goal.invariant-loop-at
invariant-loop-at l =
    (l.at < length (parents_of l.self))
    × (Within (parents_of l.self) l.at l.outer ↔ Within (parents_of l.self) l.place l.outer)

abbrev pub decreases-loop-at : goal.decreases-loop-at
decreases-loop-at l = l.at
