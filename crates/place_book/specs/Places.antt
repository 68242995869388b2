-- The places of a plant. Place 0 is the plant, and every other place has a parent.
-- The places are given by the list of their parents, in the order of their numbers; that of place 0 is not read.
use Rattle.std.specs.Prelude.{◌≡◌, ℕ, ◌<◌, ◌≤◌, ◌⊎◌, List, length, Some, None, Option, slice_index}

-- every place but 0 has a parent of a smaller number
abbrev pub ParentsAreSmaller : List ℕ → Type 0
ParentsAreSmaller ps = (p : ℕ) → 0 < p → p < length ps → slice_index ps p < p

-- the parent of place p, which has a smaller number; place 0 has none, nor has a place that does not stand
abbrev pub ParentOf : List ℕ → ℕ → Option ℕ → Type 0
ParentOf ps p None = (p ≡ 0) ⊎ (length ps ≤ p)
ParentOf ps p (Some q) = (0 < p) × (p < length ps) × (q ≡ slice_index ps p) × (q < p)

-- Place p lies within place q: q is p or is above p, that is p's parent followed any number of times, none included.
pub data Within (ps : List ℕ) : ℕ → ℕ → Type 0 where
  itself : {p : ℕ} → Within ps p p
  parent : {p q : ℕ} → 0 < p → p < length ps → Within ps (slice_index ps p) q → Within ps p q
