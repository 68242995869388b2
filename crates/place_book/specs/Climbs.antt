-- Climbs from a place to the plant.
use Rattle.std.specs.Prelude.{ℕ, List, [], reverse, Some, None, Option}
use Rattle.place_book.specs.Meaning.{places_around}

-- the place and those above it, up to the plant: the places within which it lies, from the largest down
abbrev pub climb_from : List ℕ → Option ℕ → List ℕ
climb_from ps None = []
climb_from ps (Some p) = reverse (places_around ps p)
