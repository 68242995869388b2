-- What a book of rules means, and the laws that every book keeps.
use Rattle.std.specs.Prelude.{◌≡◌, ℕ, ◌^◌, ◌<◌, ◌≤◌, Bool, true, false, ◌↔◌, List, [], length, IsTrue}
use Rattle.std.specs.List.{Contains}
use Rattle.rows.specs.Rows.{Ascending}

-- The meaning of one book of rules. A fact is a code, a whole number of 64 bits.
pub record Meaning : Type 1 where
  -- a world says of each known fact whether it holds; what it says of other codes counts for nothing
  pub World : Type 0
  pub Holds : World → ℕ → Type 0
  -- whether the book knows a code
  pub known : ℕ → Bool
  -- what follows from a fact, in ascending order of codes
  pub consequences : ℕ → List ℕ
  -- whether two facts, or one taken twice, clash
  pub clash : ℕ → ℕ → Bool

-- c follows from a
abbrev pub Follows : Meaning → ℕ → ℕ → Type 0
Follows m a c = Contains (m.consequences a) c

-- c follows from one of the list
abbrev pub FollowsFromOne : Meaning → List ℕ → ℕ → Type 0
FollowsFromOne m l c = (d : ℕ) × Contains l d × Follows m d c

-- the book knows each fact of the list
abbrev pub AllKnown : Meaning → List ℕ → Type 0
AllKnown m l = (c : ℕ) → Contains l c → m.known c ≡ true

-- no two facts of the list clash, and none clashes with itself
abbrev pub NothingClashes : Meaning → List ℕ → Type 0
NothingClashes m l = (a b : ℕ) → Contains l a → Contains l b → m.clash a b ≡ false

-- the world holds each fact of the list
abbrev pub HoldsAll : (m : Meaning) → m.World → List ℕ → Type 0
HoldsAll m w l = (c : ℕ) → Contains l c → m.Holds w c

-- every world that holds the first fact holds the second
abbrev pub HoldsWherever : Meaning → ℕ → ℕ → Type 0
HoldsWherever m a c = (w : m.World) → m.Holds w a → m.Holds w c

-- no world holds both facts
abbrev pub NoWorldHoldsBoth : Meaning → ℕ → ℕ → Type 0
NoWorldHoldsBoth m a b = (w : m.World) → m.Holds w a → m.Holds w b → ⊥

-- The laws of every book. `most` is the kind's own number.
pub record Lawful (m : Meaning) (most : ℕ) : Type 0 where
  -- a code that is known has 64 bits
  pub known_codes_fit : (a : ℕ) → m.known a ≡ true → a < 2 ^ 64
  -- what follows is listed in ascending order, so each fact once
  pub consequences_ascend : (a : ℕ) → Ascending (m.consequences a)
  -- a known fact follows from itself
  pub itself_follows : (a : ℕ) → m.known a ≡ true → Follows m a a
  -- only known facts follow
  pub only_known_follow : (a c : ℕ) → Follows m a c → m.known c ≡ true
  -- nothing follows from an unknown code
  pub unknown_has_no_consequences : (a : ℕ) → m.known a ≡ false → m.consequences a ≡ []
  -- what follows from a following fact follows too
  pub follows_on : (a b c : ℕ) → Follows m a b → Follows m b c → Follows m a c
  -- a world that holds a fact holds everything that follows from it
  pub world_holds_what_follows : (a c : ℕ) → Follows m a c → HoldsWherever m a c
  -- only known facts clash
  pub only_known_clash : (a b : ℕ) → m.clash a b ≡ true → (m.known a ≡ true) × (m.known b ≡ true)
  -- two known facts, or one taken twice, clash exactly when no world holds both
  pub clash_is_no_common_world : (a b : ℕ) → m.known a ≡ true → m.known b ≡ true → (m.clash a b ≡ true) ↔ NoWorldHoldsBoth m a b
  -- of known facts of which nothing clashes, some world holds exactly what follows from one of them
  pub some_world_holds_exactly : (l : List ℕ) → AllKnown m l → NothingClashes m l → (w : m.World) × ((c : ℕ) → m.known c ≡ true → m.Holds w c ↔ FollowsFromOne m l c)
  -- no fact has more consequences than the kind's own number, which is at most 65,536
  pub at_most_follow : (a : ℕ) → length (m.consequences a) ≤ most
  pub most_is_small : most ≤ 65536

-- of known facts, the answer r tells whether every world that holds the first holds the second
abbrev pub TellsFollows : Meaning → ℕ → ℕ → Bool → Type 0
TellsFollows m a c r = m.known a ≡ true → m.known c ≡ true → IsTrue r ↔ HoldsWherever m a c

-- of known facts, the answer r tells whether no world holds both
abbrev pub TellsClash : Meaning → ℕ → ℕ → Bool → Type 0
TellsClash m a b r = m.known a ≡ true → m.known b ≡ true → IsTrue r ↔ NoWorldHoldsBoth m a b
