-- What follows, as the calls of a book answer it.
use Rattle.std.specs.Prelude.{map, ◌≡◌, ℕ, ◌+◌, ◌-◌, ◌<◌, ◌≤◌, List, length, reverse, Some, None, Option, MatchOption}
use Rattle.std.proofs.Common.{refl, get_or, sym, ap, ◌∙◌, inl, inr, arith}
use Rattle.std.specs.Option.{option_map}
use Rattle.std.specs.Iterator.{YieldsFirst, SkipsThenYields}
use Rattle.std.proofs.lemmas.Iterator.Adapters.{option_map_id}
use Rattle.std.proofs.lemmas.Iterator.Consumers.{YieldsList-from_first, nth_from_yields_List}
use Rattle.std.specs.List.{slice_get}
use Rattle.std.proofs.lemmas.List.{length-map, length-reverse, get_or-reverse}
use Rattle.std.proofs.lemmas.Option.{slice_get-get_or, slice_get-map, slice_get_within, get_or_from_slice_get}
use Rattle.place_book.specs.Places.{ParentsAreSmaller}
use Rattle.place_book.specs.Meaning.{places_around, consequences}
use Rattle.place_book.specs.Facts.{CodeOf, code_of, thing_of, place_of, ListsFollowing}
use Rattle.place_book.specs.Tree.{within_le}
use Rattle.place_book.specs.Around.{around_has}
use Rattle.place_book.specs.FactsLemmas.{known_from, consequences_known, has_consequence, consequence_has, ascending_consequences}

module _ (ps : List ℕ) (smaller : ParentsAreSmaller ps) where
  pub consequences_list : (a : ℕ) → ListsFollowing ps a (consequences ps a)
  consequences_list a = record { ascends = ascending_consequences ps smaller a; has = λ c. (consequence_has ps smaller a c, has_consequence ps smaller a c) }

-- number n of a climb
pub nth_of_climb : (l : List ℕ) (n : ℕ) (r : Option ℕ) (u : List ℕ) → SkipsThenYields (YieldsFirst (λ s. s)) l n r u → r ≡ slice_get l n
nth_of_climb l n r u ran = sym (option_map_id r) ∙ nth_from_yields_List r u n ran (YieldsList-from_first (λ at. at) (λ s. s) l refl)

-- number k of a list is number `up` from its end
from_the_end : (xs : List ℕ) (k up : ℕ) → up + k + 1 ≡ length xs → slice_get xs k ≡ slice_get (reverse xs) up
from_the_end xs k up ends =
    let turned : length xs - 1 - up ≡ k = omega arith in
    slice_get-get_or xs k 0 (omega arith) ∙ ap Some (ap (λ i. get_or xs i 0) (sym turned) ∙ sym (get_or-reverse xs up 0 (omega arith))) ∙ sym (slice_get-get_or (reverse xs) up 0 (omega (arith, length-reverse xs)))

-- the code of a fact of thing `a` in the place r, if any, that stands
coded : (ps : List ℕ) (a : ℕ) (r o : Option ℕ) → a < 65536 → ((q : ℕ) → r ≡ Some q → q < length ps) → MatchOption r (o ≡ None) (λ q. CodeOf ps a q o) → option_map (code_of a) r ≡ o
coded ps a None o small stands none = sym none
coded ps a (Some q) None small stands missing = absurd (elim missing [ inl big ↦ omega arith | inr past ↦ omega (arith, stands q refl) ])
coded ps a (Some q) (Some d) small stands code = ap Some (sym code.2)

-- what follows from a known fact, by the climb from its place
module _ (ps : List ℕ) (smaller : ParentsAreSmaller ps) (small : length ps ≤ 256) (c a p : ℕ) (parts : CodeOf ps a p (Some c)) where
  by_parts : consequences ps c ≡ map (code_of a) (places_around ps p)
  by_parts =
      let place : place_of c ≡ p = omega (arith, parts.2, parts.1) in
      let thing : thing_of c ≡ a = omega (arith, parts.2, parts.1) in
      consequences_known ps c (known_from ps c (omega arith) (omega arith)) ∙ ap (λ t. map (code_of t) (places_around ps (place_of c))) thing ∙ ap (λ x. map (code_of a) (places_around ps x)) place

  pub count_climbed : length (consequences ps c) ≡ length (reverse (places_around ps p))
  count_climbed = ap length by_parts ∙ length-map (places_around ps p) (code_of a) ∙ sym (length-reverse (places_around ps p))

  -- number k from the plant down is number `up` of the climb, and `o` is its code
  pub nth_climbed : (k up : ℕ) (r o : Option ℕ) → up + k + 1 ≡ length (consequences ps c) → r ≡ slice_get (reverse (places_around ps p)) up → MatchOption r (o ≡ None) (λ q. CodeOf ps a q o) → slice_get (consequences ps c) k ≡ o
  nth_climbed k up r o ends at code =
      let xs = places_around ps p in
      let same = from_the_end xs k up (ends ∙ count_climbed ∙ length-reverse xs) ∙ sym at in
      let stands : (q : ℕ) → r ≡ Some q → q < length ps = λ q some. omega (arith, parts.1, within_le ps smaller (around_has ps smaller p q parts.1 (k, slice_get_within xs k q (same ∙ some), get_or_from_slice_get xs k q q (same ∙ some)))) in
      ap (λ m. slice_get m k) by_parts ∙ slice_get-map (code_of a) xs k ∙ ap (option_map (code_of a)) same ∙ coded ps a r o parts.0 stands code
