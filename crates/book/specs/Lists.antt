-- What is asked of a list of facts under a book, and what the laws give of it.
use Rattle.std.specs.Prelude.{◌≡◌, ℕ, ◌<◌, ◌≤◌, true, false, ◌↔◌, List, length, Some, None, IsSome, Option, slice_index}
use Rattle.std.specs.List.{Contains}
use Rattle.book.specs.Meaning.{Meaning, Follows, FollowsFromOne, AllKnown, NothingClashes, HoldsAll}

-- the place of the first code that the book does not know; none where it knows them all
abbrev pub FirstUnknown : Meaning → List ℕ → Option ℕ → Type 0
FirstUnknown m l None = AllKnown m l
FirstUnknown m l (Some i) = (i < length l) × (m.known (slice_index l i) ≡ false) × ((k : ℕ) → k < i → m.known (slice_index l k) ≡ true)

-- the place of the first fact before place n that clashes with c; none where none does
abbrev pub FirstAgainst : Meaning → List ℕ → ℕ → ℕ → Option ℕ → Type 0
FirstAgainst m l n c None = (k : ℕ) → k < n → m.clash (slice_index l k) c ≡ false
FirstAgainst m l n c (Some i) = (i < n) × (m.clash (slice_index l i) c ≡ true) × ((k : ℕ) → k < i → m.clash (slice_index l k) c ≡ false)

-- the places i ≤ j of two facts that clash, with the least j, and then the least i; none where nothing clashes
abbrev pub FirstClash : Meaning → List ℕ → Option (ℕ × ℕ) → Type 0
FirstClash m l None = NothingClashes m l
FirstClash m l (Some p) =
    (p.0 ≤ p.1) × (p.1 < length l) × (m.clash (slice_index l p.0) (slice_index l p.1) ≡ true)
    × ((i j : ℕ) → i ≤ j → j < p.1 → m.clash (slice_index l i) (slice_index l j) ≡ false)
    × ((i : ℕ) → i < p.0 → m.clash (slice_index l i) (slice_index l p.1) ≡ false)

-- two facts clash whichever is named first
abbrev pub ClashIsSymmetric : Meaning → Type 0
ClashIsSymmetric m = (a b : ℕ) → m.clash a b ≡ m.clash b a

-- what clashes with a consequence clashes with its cause
abbrev pub CausesClash : Meaning → Type 0
CausesClash m = (a b c : ℕ) → Follows m a c → m.clash b c ≡ true → m.clash b a ≡ true

-- what follows from the list does not clash with c
abbrev pub ConsequencesDoNotClashWith : Meaning → List ℕ → ℕ → Type 0
ConsequencesDoNotClashWith m l c = (a : ℕ) → FollowsFromOne m l a → m.clash a c ≡ false

-- what follows from the list does not clash among itself
abbrev pub ConsequencesDoNotClash : Meaning → List ℕ → Type 0
ConsequencesDoNotClash m l = (a b : ℕ) → FollowsFromOne m l a → FollowsFromOne m l b → m.clash a b ≡ false

-- no world holds every fact of the list
abbrev pub NoWorldHoldsAll : Meaning → List ℕ → Type 0
NoWorldHoldsAll m l = (w : m.World) → HoldsAll m w l → ⊥

-- two facts of the list, or one taken twice, clash
abbrev pub SomeClash : Meaning → List ℕ → Type 0
SomeClash m l = (a : ℕ) × (b : ℕ) × Contains l a × Contains l b × (m.clash a b ≡ true)

-- no world holds all of a list of known facts exactly when two of them, or one taken twice, clash
abbrev pub ContradictionIsClash : Meaning → List ℕ → Type 0
ContradictionIsClash m l = AllKnown m l → NoWorldHoldsAll m l ↔ SomeClash m l

-- of known facts, two places are answered exactly when no world holds all of them
abbrev pub TellsContradiction : Meaning → List ℕ → Option (ℕ × ℕ) → Type 0
TellsContradiction m l r = AllKnown m l → IsSome r ↔ NoWorldHoldsAll m l
