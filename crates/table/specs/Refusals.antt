-- Why a list is refused.
use Rattle.std.specs.Prelude.{◌≡◌, ℕ, ◌<◌, ◌≤◌, ◌⊎◌, List, [], ◌∷◌, length, Some}
use Rattle.rows.specs.Rows.{RowOf}
use Rattle.book.specs.Meaning.{Meaning, NothingClashes}
use Rattle.book.specs.Lists.{FirstUnknown, FirstClash}
use Rattle.table.specs.Facts.{AfterDelivery, ShortAndKnown}
use Rattle.table.specs.declared.refusals.Refusal.{Refusal}
use Rattle.table.specs.declared.refusals.Refusal.TheVariants.{TooLong, Unknown, Clash, Full}

-- the number of a refusal
abbrev pub number_of : Refusal → ℕ
number_of (TooLong n) = 6
number_of (Unknown i) = 7
number_of (Clash p) = 8
number_of (Full n) = 9

-- what a refusal returns: one number, or for number 8 two
abbrev pub returned_by : Refusal → List ℕ
returned_by (TooLong n) = n ∷ []
returned_by (Unknown i) = i ∷ []
returned_by (Clash p) = p.0 ∷ (p.1 ∷ [])
returned_by (Full n) = n ∷ []

-- the refusal has this number, and returns this
abbrev pub Says : Refusal → ℕ → List ℕ → Type 0
Says e n returned = (number_of e ≡ n) × (returned_by e ≡ returned)

-- 6: the list has over 256 codes; its length
abbrev pub TooLongRefused : List ℕ → Refusal → Type 0
TooLongRefused list e = (256 < length list) × Says e 6 (length list ∷ [])

-- 7: else the book does not know a code; the place of the first such code
abbrev pub UnknownRefused : Meaning → List ℕ → Refusal → Type 0
UnknownRefused m list e = (length list ≤ 256) × ((i : ℕ) × FirstUnknown m list (Some i) × Says e 7 (i ∷ []))

-- 8: else two facts clash, or one clashes with itself; their places i ≤ j, with the least j, then the least i
abbrev pub ClashRefused : Meaning → List ℕ → Refusal → Type 0
ClashRefused m list e = ShortAndKnown m list × ((p : ℕ × ℕ) × FirstClash m list (Some p) × Says e 8 (p.0 ∷ (p.1 ∷ [])))

-- 9: else there would be more facts than the table uses cells; how many there would be
abbrev pub FullRefused : Meaning → ℕ → List ℕ → List ℕ → Refusal → Type 0
FullRefused m size list old e =
    ShortAndKnown m list × NothingClashes m list
    × ((new : List ℕ) × RowOf (AfterDelivery m list old) new × (size < length new) × Says e 9 (length new ∷ []))

-- deliveries and withdrawals alike are refused for the list itself
abbrev pub ListRefused : Meaning → List ℕ → Refusal → Type 0
ListRefused m list e = TooLongRefused list e ⊎ UnknownRefused m list e

-- a delivery is refused for that, for a clash or for want of cells
abbrev pub DeliveryRefused : Meaning → ℕ → List ℕ → List ℕ → Refusal → Type 0
DeliveryRefused m size list old e = ListRefused m list e ⊎ (ClashRefused m list e ⊎ FullRefused m size list old e)
