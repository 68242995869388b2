-- The places of a draft and of a book, as the list of their parents.
use Rattle.std.specs.Prelude.{ℕ, List}
use Rattle.place_book.specs.declared.places.Places.{Places}

abbrev pub parents_of : {S : Type 0} → Places S → List ℕ
parents_of p = p.parents.items
