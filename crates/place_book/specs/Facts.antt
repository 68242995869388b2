-- The facts of a place book, and what they mean.
use Rattle.std.specs.Prelude.{◌≡◌, ℕ, ◌+◌, ◌*◌, ◌/◌, ◌%◌, ◌<◌, ◌≤◌, Bool, true, false, ◌&&◌, ◌⊎◌, ◌↔◌, List, length, Some, None, Option, nat_lt}
use Rattle.std.specs.List.{Contains}
use Rattle.rows.specs.Rows.{Ascending}
use Rattle.place_book.specs.Places.{Within}

-- the code of the fact that thing a is in place p
abbrev pub code_of : ℕ → ℕ → ℕ
code_of a p = a * 256 + p

-- the thing and the place that a code names
abbrev pub thing_of : ℕ → ℕ
thing_of c = c / 256

abbrev pub place_of : ℕ → ℕ
place_of c = c % 256

-- the book knows the facts of things 0 to 65,535 in places that stand, and no others
abbrev pub known : List ℕ → ℕ → Bool
known ps c = nat_lt (thing_of c) 65536 && nat_lt (place_of c) (length ps)

-- the code of a known fact; none where the thing is over 65,535 or the place does not stand
abbrev pub CodeOf : List ℕ → ℕ → ℕ → Option ℕ → Type 0
CodeOf ps a p None = (65536 ≤ a) ⊎ (length ps ≤ p)
CodeOf ps a p (Some c) = (a < 65536) × (p < length ps) × (c ≡ code_of a p)

-- the thing and the place of a known fact; none where the code is not known
abbrev pub PartsOf : List ℕ → ℕ → Option (ℕ × ℕ) → Type 0
PartsOf ps c None = known ps c ≡ false
PartsOf ps c (Some r) = CodeOf ps r.0 r.1 (Some c)

-- A world seats each thing at one place, or nowhere.
pub record World (ps : List ℕ) : Type 0 where
  pub seat : ℕ → Option ℕ
  pub seats_stand : (a s : ℕ) → seat a ≡ Some s → s < length ps

-- a fact holds in a world that seats its thing at its place or below
abbrev pub Holds : (ps : List ℕ) → World ps → ℕ → Type 0
Holds ps w c = (s : ℕ) × (w.seat (thing_of c) ≡ Some s) × Within ps s (place_of c)

-- from a known fact follows that the same thing is in the same place or in one above it
pub record FactFollows (ps : List ℕ) (a c : ℕ) : Type 0 where
  pub known_cause : known ps a ≡ true
  pub same_thing : thing_of c ≡ thing_of a
  pub within : Within ps (place_of a) (place_of c)

-- l lists what follows from a in ascending order
pub record ListsFollowing (ps : List ℕ) (a : ℕ) (l : List ℕ) : Type 0 where
  pub ascends : Ascending l
  pub has : (c : ℕ) → Contains l c ↔ FactFollows ps a c

-- two known facts of one thing clash if neither place is the other or above it
pub record FactsClash (ps : List ℕ) (a b : ℕ) : Type 0 where
  pub first_known : known ps a ≡ true
  pub second_known : known ps b ≡ true
  pub same_thing : thing_of a ≡ thing_of b
  pub not_within : Within ps (place_of a) (place_of b) → ⊥
  pub not_around : Within ps (place_of b) (place_of a) → ⊥
