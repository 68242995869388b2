-- Which facts a delivery and a withdrawal leave.
use Rattle.std.specs.Prelude.{◌≡◌, ℕ, ◌≤◌, false, ◌⊎◌, List, length}
use Rattle.std.specs.List.{Contains}
use Rattle.book.specs.Meaning.{Meaning, Follows, FollowsFromOne, AllKnown}

-- c clashes with none of the list
abbrev pub ClashesWithNone : Meaning → List ℕ → ℕ → Type 0
ClashesWithNone m list c = (d : ℕ) → Contains list d → m.clash d c ≡ false

-- none of the list follows from c
abbrev pub NoneFollows : Meaning → List ℕ → ℕ → Type 0
NoneFollows m list c = (d : ℕ) → Contains list d → Follows m c d → ⊥

-- a delivery leaves what follows from a delivered fact, and the earlier facts that clash with no delivered one
abbrev pub AfterDelivery : Meaning → List ℕ → List ℕ → ℕ → Type 0
AfterDelivery m list old c = FollowsFromOne m list c ⊎ (Contains old c × ClashesWithNone m list c)

-- a withdrawal leaves the earlier facts from which no named fact follows
abbrev pub AfterWithdrawal : Meaning → List ℕ → List ℕ → ℕ → Type 0
AfterWithdrawal m list old c = Contains old c × NoneFollows m list c

-- a held code that the book does not know stays
abbrev pub UnknownStay : Meaning → List ℕ → List ℕ → Type 0
UnknownStay m old new = (c : ℕ) → m.known c ≡ false → Contains old c → Contains new c

-- c stands in the first list only
abbrev pub OnlyIn : List ℕ → List ℕ → ℕ → Type 0
OnlyIn these those c = Contains these c × (Contains those c → ⊥)

-- at most 256 codes, all of which the book knows
pub record ShortAndKnown (m : Meaning) (list : List ℕ) : Type 0 where
  pub short : length list ≤ 256
  pub known : AllKnown m list
