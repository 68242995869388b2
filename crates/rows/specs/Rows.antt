-- Rows of numbers in ascending order.
use Rattle.std.specs.Prelude.{◌≡◌, ℕ, ◌<◌, ◌≤◌, ◌↔◌, List, length, Ok, Err, Result, slice_index}
use Rattle.std.specs.List.{Contains}

-- each number is below each that stands behind it, so that none stands twice
abbrev pub Ascending : List ℕ → Type 0
Ascending xs = (i j : ℕ) → i < j → j < length xs → slice_index xs i < slice_index xs j

-- the row of exactly those numbers that have the property P; there is at most one
pub record RowOf (P : ℕ → Type 0) (xs : List ℕ) : Type 0 where
  pub ascends : Ascending xs
  pub members : (c : ℕ) → Contains xs c ↔ P c

-- exactly n numbers have the property P
abbrev pub Count : (ℕ → Type 0) → ℕ → Type 0
Count P n = (xs : List ℕ) × RowOf P xs × (n ≡ length xs)

-- the place of c in a row, or the place where it belongs: that is how many of the row are below c
abbrev pub Placed : List ℕ → ℕ → Result ℕ ℕ → Type 0
Placed xs c (Ok i) = (i < length xs) × (slice_index xs i ≡ c)
Placed xs c (Err i) = (i ≤ length xs) × ((k : ℕ) → k < i → slice_index xs k < c) × ((k : ℕ) → i ≤ k → k < length xs → c < slice_index xs k)
