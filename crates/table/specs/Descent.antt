-- Which consequences of a list are still to come, where they are taken from the largest code down.
-- Private functions alone cite this file; no contract of a public call rests on it.
use Rattle.std.specs.Prelude.{◌≡◌, ℕ, ◌-◌, ◌≤◌, List, [], ◌∷◌, ◌++◌, length, take, reverse, Some, None, Option, filter, nat_lt, slice_get}
use Rattle.std.specs.List.{Contains, flat_map}
use Rattle.book.specs.Meaning.{Meaning, FollowsFromOne}
use Rattle.table.specs.declared.descent.Cursor.{Cursor}

-- c follows from one of the list and does not stand in the row
abbrev pub Comes : Meaning → List ℕ → List ℕ → ℕ → Type 0
Comes m list row c = FollowsFromOne m list c × (Contains row c → ⊥)

-- the consequences of the cursor's fact that are still to come
abbrev pub row_left : Meaning → Cursor → List ℕ
row_left m q = take q.left (m.consequences q.fact)

-- as many are still to come as the cursor says, and its head is the largest of them
pub record IsInPlace (m : Meaning) (q : Cursor) : Type 0 where
  pub within : q.left ≤ length (m.consequences q.fact)
  pub head_is : q.head ≡ slice_get (row_left m q) (q.left - 1)

-- the codes that are still to come, of one cursor after another
abbrev pub to_come : Meaning → List Cursor → List ℕ
to_come m = flat_map (row_left m)

-- the largest number of a list; none where it has none
abbrev pub Largest : List ℕ → Option ℕ → Type 0
Largest xs None = xs ≡ []
Largest xs (Some c) = Contains xs c × ((d : ℕ) → Contains xs d → d ≤ c)

-- the numbers of a list that are below c, and those that are above it
abbrev pub lows : ℕ → List ℕ → List ℕ
lows c = filter (λ x. nat_lt x c)

abbrev pub highs : ℕ → List ℕ → List ℕ
highs c = filter (nat_lt c)

-- the numbers of a list, each once, in ascending order
abbrev pub row_of : List ℕ → List ℕ
row_of [] = []
row_of (x ∷ xs) = lows x (row_of xs) ++ x ∷ highs x (row_of xs)

-- the codes that are still to come, each once, from the largest down
abbrev pub codes_left : Meaning → List Cursor → List ℕ
codes_left m cursors = reverse (row_of (to_come m cursors))
