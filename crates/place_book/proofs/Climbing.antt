-- What follows of places one step up, of climbs and of what is read of them. The loop of `is_within` asks for
-- `climb_step` and `climb_end`; the others are for whoever proves something about the places of a book by steps.
use Rattle.std.specs.Prelude.{◌≡◌, ℕ, ◌+◌, ◌<◌, ◌≤◌, ◌↔◌, Bool, true, List, [], ◌∷◌, ◌++◌, length, take, Some, IsTrue, ◌==◌, slice_index, refl}
use Rattle.std.proofs.Common.{sym, ap, subst, ◌∙◌, inl, inr, arith}
use Rattle.std.specs.List.{slice_get, Contains}
use Rattle.std.proofs.lemmas.List.{length-take, length-take-le, length_push, get_or-take, get_or_push, get_or_append_left, get_or-map}
use Rattle.std.proofs.lemmas.Option.{slice_get-get_or}
use Rattle.std.proofs.lemmas.Bool.{cases_lt, cases_Bool}
use Rattle.std.proofs.lemmas.Bool.Decides.{Decides-like, Decides-eqb, Decides-at}
use Rattle.book.specs.Meaning.{Meaning, TellsFollows, TellsClash}
use Rattle.book.proofs.Peace.{follows_by_worlds}
use Rattle.place_book.specs.Places.{ParentsAreSmaller, Within}
use Rattle.place_book.specs.Places.Within.{itself, parent}
use Rattle.place_book.specs.Meaning.{places_around, consequences, clash, place_meaning}
use Rattle.place_book.specs.Facts.{code_of, thing_of, place_of, known, FactFollows}
use Rattle.place_book.specs.Tree.{within_le, within_up}
use Rattle.place_book.specs.FactsLemmas.{consequences_known, consequences_unknown, has_consequence, consequence_has, consequences_count}
use Rattle.place_book.specs.Laws.{clash_itself, clash_holds_nowhere, holds_nowhere_clash, place_book_lawful}
use Rattle.place_book.proofs.Around.{around_plant, around_below}

pub few_places : (n : ℕ) (parents : List ℕ) → n ≤ 256 → length (take n parents) ≤ 256
few_places n parents few = omega (arith, length-take n parents)

pub parent_read : (n : ℕ) (parents : List ℕ) (p : ℕ) → ParentsAreSmaller (take n parents) → n ≤ length parents → 0 < p → p < n → (p < length (take n parents)) × (slice_index parents p ≡ slice_index (take n parents) p) × (slice_index parents p < p)
parent_read n parents p smaller within h k =
    let long : length (take n parents) ≡ n = length-take-le n parents within in
    let same : slice_index parents p ≡ slice_index (take n parents) p = sym (get_or-take n parents p 0 k) in
    (omega arith, same, omega (arith, same, smaller p h (omega arith)))

pub smaller_push : (ps : List ℕ) (q : ℕ) → ParentsAreSmaller ps → q < length ps → ParentsAreSmaller (ps ++ (q ∷ []))
smaller_push ps q smaller stands p h k = elim (cases_lt p (length ps)) [
  | inl lt ↦ rw (get_or_append_left ps (q ∷ []) 0 p lt) (smaller p h lt)
  | inr ge ↦ let e : length ps ≡ p = omega (arith, length_push ps q) in rw (get_or_push ps q 0 p e) (omega arith)
]

pub some_follow : (ps : List ℕ) (c : ℕ) → 0 < length (consequences ps c) → known ps c ≡ true
some_follow ps c some = elim (cases_Bool (known ps c)) [
  | inl e ↦ e
  | inr e ↦ absurd (omega (arith, some, ap length (consequences_unknown ps c e)))
]

module _ (ps : List ℕ) (smaller : ParentsAreSmaller ps) where
  abbrev m : Meaning
  m = place_meaning ps

  pub climb_step : (p up q : ℕ) → up ≡ slice_index ps p → q < p → p < length ps → Within ps up q ↔ Within ps p q
  climb_step p up q e lt k = ((λ u. parent (omega arith) k (subst (λ x. Within ps x q) e u)), λ u. subst (λ x. Within ps x q) (sym e) (within_up ps smaller u lt))

  pub climb_end : (p q : ℕ) → p ≤ q → IsTrue (p == q) ↔ Within ps p q
  climb_end p q le = Decides-like (p == q) (λ e. subst (Within ps p) e itself) (λ u. omega (arith, within_le ps smaller u)) (Decides-eqb p q)

  pub around_length : (p : ℕ) → 0 < p → p < length ps → length (places_around ps p) ≡ length (places_around ps (slice_index ps p)) + 1
  around_length p h k = ap length (around_below ps smaller p h k) ∙ length_push (places_around ps (slice_index ps p)) p

  pub around_keeps : (p i : ℕ) → 0 < p → p < length ps → i < length (places_around ps (slice_index ps p)) → slice_index (places_around ps p) i ≡ slice_index (places_around ps (slice_index ps p)) i
  around_keeps p i h k lt = ap (λ l. slice_index l i) (around_below ps smaller p h k) ∙ get_or_append_left (places_around ps (slice_index ps p)) (p ∷ []) 0 i lt

  pub around_last : (p i : ℕ) → p < length ps → length (places_around ps p) ≡ i + 1 → slice_index (places_around ps p) i ≡ p
  around_last p i k e = elim (cases_lt 0 p) [
    | inl h ↦ ap (λ l. slice_index l i) (around_below ps smaller p h k) ∙ get_or_push (places_around ps (slice_index ps p)) p 0 i (omega (arith, around_length p h k))
    | inr z ↦ let zero_p : p ≡ 0 = omega arith in
        let one = around_plant ps smaller (omega arith) in
        let zero_i : i ≡ 0 = omega (arith, e, ap (λ x. length (places_around ps x)) zero_p, ap length one) in
        rw (zero_p, zero_i, one) refl
  ]

  pub around_many : (p : ℕ) → p < length ps → 1 < length (places_around ps p) → 0 < p
  around_many p k many = elim (cases_lt 0 p) [
    | inl h ↦ h
    | inr z ↦ let e : p ≡ 0 = omega arith in absurd (omega (arith, ap (λ x. length (places_around ps x)) e, ap length (around_plant ps smaller (omega arith))))
  ]

  pub around_one : (p : ℕ) → p ≤ 0 → p < length ps → length (places_around ps p) ≡ 1
  around_one p le k = let e : p ≡ 0 = omega arith in ap (λ x. length (places_around ps x)) e ∙ ap length (around_plant ps smaller (omega arith))

  pub listed : (a c : ℕ) (r : Bool) → (IsTrue r ↔ FactFollows ps a c) → IsTrue r ↔ Contains (consequences ps a) c
  listed a c r = Decides-like r (has_consequence ps smaller a c) (consequence_has ps smaller a c)

  pub consequences_nth : (a k : ℕ) → known ps a ≡ true → k < length (places_around ps (place_of a)) → slice_get (consequences ps a) k ≡ Some (code_of (thing_of a) (slice_index (places_around ps (place_of a)) k))
  consequences_nth a k e lt =
      slice_get-get_or (consequences ps a) k 0 (omega (arith, consequences_count ps smaller a e))
      ∙ ap Some (ap (λ l. slice_index l k) (consequences_known ps a e) ∙ get_or-map (code_of (thing_of a)) (places_around ps (place_of a)) k 0 0 lt)

  pub follows_in_worlds : length ps ≤ 256 → (a c : ℕ) (r : Bool) → (IsTrue r ↔ Contains (consequences ps a) c) → TellsFollows m a c r
  follows_in_worlds small a c r tells ka kc =
      let same = follows_by_worlds m 256 (place_book_lawful ps smaller small) a c ka kc (clash_itself ps smaller a) in
      Decides-like r same.0 same.1 tells

  pub clash_in_worlds : (a b : ℕ) (r : Bool) → r ≡ clash ps a b → TellsClash m a b r
  clash_in_worlds a b r e ka kb = Decides-at r (clash ps a b) e (clash_holds_nowhere ps smaller a b, holds_nowhere_clash ps smaller a b ka kb)
