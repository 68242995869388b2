-- The meaning of the book of places ps: its worlds, and the tests by which it answers.
-- The contracts of the book's calls say that the answers by these tests are exactly `FactFollows` and `FactsClash`.
use Rattle.std.specs.Prelude.{ℕ, zero, suc, Bool, if◌then◌else◌, not, ◌&&◌, ◌||◌, List, [], map, length, filter, ◌==◌, nat_lt, slice_index}
use Rattle.std.specs.List.{range_with_len}
use Rattle.book.specs.Meaning.{Meaning}
use Rattle.place_book.specs.Facts.{code_of, thing_of, place_of, known, World, Holds}

-- whether place p lies within place q, tried in n steps; a place has at most as many places above it as its number
abbrev pub within_by : List ℕ → ℕ → ℕ → ℕ → Bool
within_by ps zero p q = p == q
within_by ps (suc n) p q = p == q || (nat_lt 0 p && within_by ps n (slice_index ps p) q)

abbrev pub within : List ℕ → ℕ → ℕ → Bool
within ps p q = within_by ps p p q

-- the places within which p lies, ascending
abbrev pub places_around : List ℕ → ℕ → List ℕ
places_around ps p = filter (within ps p) (range_with_len 0 (length ps))

-- what follows from a fact, ascending
abbrev pub consequences : List ℕ → ℕ → List ℕ
consequences ps c = if known ps c then map (code_of (thing_of c)) (places_around ps (place_of c)) else []

-- whether two facts clash
abbrev pub clash : List ℕ → ℕ → ℕ → Bool
clash ps a b = (known ps a && known ps b) && (thing_of a == thing_of b && (not (within ps (place_of a) (place_of b)) && not (within ps (place_of b) (place_of a))))

abbrev pub place_meaning : List ℕ → Meaning
place_meaning ps = record { World = World ps; Holds = Holds ps; known = known ps; consequences = consequences ps; clash = clash ps }
