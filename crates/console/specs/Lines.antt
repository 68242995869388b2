-- The lines that the program prints.
use Rattle.std.specs.Prelude.{ℕ, Bool, true, false, List, [], ◌∷◌, ◌++◌, length, Ok, Err, codes, decimal, Result}
use Rattle.place_book.specs.Printed.{refusal_text}
use Rattle.place_book.specs.declared.refusals.Refusal.{Refusal}

-- the number of a new place, as `place 1`, or the refusal
abbrev pub added_text : Result ℕ Refusal → List ℕ
added_text (Ok n) = codes "place " ++ decimal n
added_text (Err e) = refusal_text e

-- each fact on a line of its own
abbrev pub fact_lines : List ℕ → List ℕ
fact_lines [] = []
fact_lines (c ∷ cs) = decimal c ++ (codes "\n" ++ fact_lines cs)

-- the facts, and then their number, as `end 3`
abbrev pub listing_text : List ℕ → List ℕ
listing_text cs = fact_lines cs ++ (codes "end " ++ decimal (length cs))

-- whether two facts clash
abbrev pub clash_text : ℕ → ℕ → Bool → List ℕ
clash_text a b true = decimal a ++ (codes " and " ++ (decimal b ++ codes " clash"))
clash_text a b false = decimal a ++ (codes " and " ++ (decimal b ++ codes " do not clash"))
