-- How a refusal is printed, as `refused 4 9`.
use Rattle.std.specs.Prelude.{ℕ, List, ◌++◌, codes, decimal}
use Rattle.place_book.specs.declared.refusals.Refusal.{Refusal}
use Rattle.place_book.specs.Refusals.{number_of, returned_by}

abbrev pub refusal_text : Refusal → List ℕ
refusal_text e = codes "refused " ++ (decimal (number_of e) ++ (codes " " ++ decimal (returned_by e)))
