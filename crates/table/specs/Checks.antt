-- Steps of deliveries and withdrawals: tests of a held fact, a table that is too full, and how a code is entered.
-- Private functions alone cite this file; no contract of a public call rests on it.
use Rattle.std.specs.Prelude.{◌≡◌, ℕ, ◌+◌, ◌<◌, ◌≤◌, Bool, not, ◌⊎◌, List, ◌∷◌, ◌++◌, length, take, drop, nat_eq}
use Rattle.std.specs.List.{Contains, list_any}
use Rattle.book.specs.Meaning.{Meaning}
use Rattle.table.specs.Descent.{lows, highs}
use Rattle.table.specs.declared.refusals.Refusal.{Refusal}
use Rattle.table.specs.declared.refusals.Refusal.TheVariants.{Full}

-- whether c clashes with none of the list
abbrev pub stays : Meaning → List ℕ → ℕ → Bool
stays m list c = not (list_any (λ d. m.clash d c) list)

-- whether d follows from c
abbrev pub leads : Meaning → ℕ → ℕ → Bool
leads m c d = list_any (nat_eq d) (m.consequences c)

-- whether none of the list follows from c
abbrev pub untouched : Meaning → List ℕ → ℕ → Bool
untouched m list c = not (list_any (leads m c) list)

-- the refusal of n facts in a table of fewer cells
abbrev pub TooMany : ℕ → ℕ → Refusal → Type 0
TooMany n size e = (size < n) × (e ≡ Full n)

-- of the row, the first `stay` are those below the code, those from `above` on are those above it, and between them stands the code or nothing
pub record Around (row : List ℕ) (code stay above : ℕ) : Type 0 where
  pub within : above ≤ length row
  pub below : take stay row ≡ lows code row
  pub beyond : drop above row ≡ highs code row
  pub between : ((above ≡ stay) × (Contains row code → ⊥)) ⊎ ((above ≡ stay + 1) × Contains row code)

-- A code is entered in a row: those below it stay in the first `stay` cells, and from `at` on stand the code, those above it, and
-- what stood from `top` on. The gap between the two parts is as it was if the code stood in the row, and else one cell less.
pub record Placing (old new : List ℕ) (below top code stay at : ℕ) : Type 0 where
  pub front : take stay new ≡ lows code (take below old)
  pub back : drop at new ≡ code ∷ (highs code (take below old) ++ drop top old)
  pub gap : (Contains (take below old) code × (top + stay ≡ at + below)) ⊎ ((Contains (take below old) code → ⊥) × (top + stay ≡ at + below + 1))
