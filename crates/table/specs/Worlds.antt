-- What deliveries and withdrawals mean by the book's worlds. A set of facts is given as a list of them.
use Rattle.std.specs.Prelude.{◌≡◌, ℕ, true, ◌↔◌, List, is_ok, Ok, Err, Result}
use Rattle.std.specs.List.{Contains}
use Rattle.book.specs.Meaning.{Meaning, AllKnown, HoldsAll}
use Rattle.book.specs.Lists.{NoWorldHoldsAll}
use Rattle.table.specs.Facts.{ShortAndKnown, OnlyIn}
use Rattle.table.specs.Refusals.{number_of}
use Rattle.table.specs.declared.refusals.Refusal.{Refusal}

-- the first set is held by the second: each of its facts is
abbrev pub HeldBy : List ℕ → List ℕ → Type 0
HeldBy these those = (c : ℕ) → Contains these c → Contains those c

-- some world holds exactly these facts, all of them known
pub record SomeWorldHoldsExactly (m : Meaning) (facts : List ℕ) : Type 0 where
  pub known : AllKnown m facts
  pub world : m.World
  pub exactly : (c : ℕ) → m.known c ≡ true → (m.Holds world c ↔ Contains facts c)

-- the answer is a refusal with this number
abbrev pub TurnedAway : ℕ → Result (ℕ × ℕ) Refusal → Type 0
TurnedAway n (Ok counts) = ⊥
TurnedAway n (Err e) = number_of e ≡ n

-- What the worlds ask of a delivery that finds the facts `old` and leaves `new`.
pub record DeliveryByWorlds (m : Meaning) (list old new : List ℕ) (answer : Result (ℕ × ℕ) Refusal) : Type 0 where
  -- at most 256 known codes are turned away as contradictory exactly when no world holds them all
  pub contradictory : ShortAndKnown m list → (TurnedAway 8 answer ↔ NoWorldHoldsAll m list)
  -- after an accepted one the delivered facts are held
  pub delivered_are_held : is_ok answer ≡ true → HeldBy list new
  -- and so is every set of earlier facts that some world holds together with them
  pub compatible_facts_stay : is_ok answer ≡ true → (set : List ℕ) → HeldBy set old → (w : m.World) → HoldsAll m w list → HoldsAll m w set → HeldBy set new
  -- a new fact holds in every world of the delivery
  pub new_facts_hold : is_ok answer ≡ true → (c : ℕ) → OnlyIn new old c → (w : m.World) → HoldsAll m w list → m.Holds w c

-- What the worlds ask of a withdrawal that finds the facts `old` and leaves `new`.
pub record WithdrawalByWorlds (m : Meaning) (list old new : List ℕ) (answer : Result (ℕ × ℕ) Refusal) : Type 0 where
  -- after an accepted one no named fact is held
  pub named_are_gone : is_ok answer ≡ true → (c : ℕ) → Contains list c → Contains new c → ⊥
  -- and no new one
  pub none_is_new : is_ok answer ≡ true → HeldBy new old
  -- and every set of earlier facts is still held if some world holds it and none of the named facts
  pub other_facts_stay : is_ok answer ≡ true → (set : List ℕ) → HeldBy set old → (w : m.World) → HoldsAll m w set → ((d : ℕ) → Contains list d → m.Holds w d → ⊥) → HeldBy set new
