-- What a draft answers to a new place.
use Rattle.std.specs.Prelude.{◌≡◌, ℕ, ◌<◌, ◌≤◌, ◌⊎◌, List, length}
use Rattle.place_book.specs.declared.refusals.Refusal.{Refusal}
use Rattle.place_book.specs.declared.refusals.Refusal.TheVariants.{NoParent, Full}

-- the number of a refusal
abbrev pub number_of : Refusal → ℕ
number_of (NoParent p) = 4
number_of Full = 5

-- what a refusal returns
abbrev pub returned_by : Refusal → ℕ
returned_by (NoParent p) = p
returned_by Full = 256

-- where the places ps stand, a new place under `parent` gets the next number
abbrev pub Accepted : List ℕ → ℕ → ℕ → Type 0
Accepted ps parent n = (parent < length ps) × (length ps < 256) × (n ≡ length ps)

-- or is refused: with 4 and the parent if that does not stand, else with 5 and 256 if 256 places stand
abbrev pub Refused : List ℕ → ℕ → Refusal → Type 0
Refused ps parent e =
    ((length ps ≤ parent) × (number_of e ≡ 4) × (returned_by e ≡ parent))
    ⊎ ((parent < length ps) × (length ps ≡ 256) × (number_of e ≡ 5) × (returned_by e ≡ 256))
