-- The world of a list of facts in which nothing clashes.
use Rattle.std.specs.Prelude.{◌≡◌, ℕ, ◌≤◌, max, true, false, if◌then◌else◌, ◌⊎◌, ◌↔◌, List, [], ◌∷◌, Some, None, Option, ◌==◌, ◌≢◌, refl}
use Rattle.std.proofs.Common.{sym, subst, ap, ◌∙◌, inl, inr, arith}
use Rattle.std.specs.List.{Contains}
use Rattle.std.proofs.lemmas.Bool.{cases_Bool, both_ways, eq-eqb, ne_eqb, cond-true, cond-false, cases_eq}
use Rattle.std.proofs.lemmas.Bool.Decides.{not_from_Decides}
use Rattle.rows.proofs.Members.{has_none, has_head, has_tail, has_cases}
use Rattle.book.specs.Meaning.{Meaning, FollowsFromOne, AllKnown, NothingClashes}
use Rattle.std.proofs.lemmas.Option.{none-some, same_Some}
use Rattle.place_book.specs.Places.{ParentsAreSmaller, Within}
use Rattle.place_book.specs.Places.Within.{itself}
use Rattle.place_book.specs.Meaning.{within, clash, place_meaning}
use Rattle.place_book.specs.Facts.{thing_of, place_of, known, World, Holds}
use Rattle.place_book.specs.Tree.{within_trans, within_le, within_tells}
use Rattle.place_book.specs.FactsLemmas.{known_parts, has_consequence, consequence_has, clash_tells}

-- The seat that a list of facts gives a thing: of its places the one with the largest number, which lies deepest.
abbrev deeper : ℕ → Option ℕ → ℕ
deeper p None = p
deeper p (Some s) = max p s

abbrev seat_of : List ℕ → ℕ → Option ℕ
seat_of [] a = None
seat_of (d ∷ l) a = if thing_of d == a then Some (deeper (place_of d) (seat_of l a)) else seat_of l a

-- the list names place s for thing a
abbrev Named : List ℕ → ℕ → ℕ → Type 0
Named l a s = (d : ℕ) × Contains l d × (thing_of d ≡ a) × (place_of d ≡ s)

cases_max : (x y : ℕ) → (max x y ≡ x) ⊎ (max x y ≡ y)
cases_max x y = elim (cases_eq (max x y) x) [ inl e ↦ inl e | inr n ↦ inr (omega (arith, n)) ]

named_later : (d : ℕ) (l : List ℕ) (a s : ℕ) → Named l a s → Named (d ∷ l) a s
named_later d l a s n = (n.0, has_tail d l n.1, n.2, n.3)

named_here : (d : ℕ) (l : List ℕ) (a : ℕ) (o : Option ℕ) → thing_of d ≡ a → ((s : ℕ) → o ≡ Some s → Named l a s) → Named (d ∷ l) a (deeper (place_of d) o)
named_here d l a None e later = (d, has_head d l, e, refl)
named_here d l a (Some t) e later = elim (cases_max (place_of d) t) [
  | inl m ↦ (d, has_head d l, e, sym m)
  | inr m ↦ subst (Named (d ∷ l) a) (sym m) (named_later d l a t (later t refl))
]

seat_here : (d : ℕ) (l : List ℕ) (a : ℕ) → thing_of d ≡ a → seat_of (d ∷ l) a ≡ Some (deeper (place_of d) (seat_of l a))
seat_here d l a e = cond-true (thing_of d == a) _ _ (eq-eqb (thing_of d) a e)

seat_elsewhere : (d : ℕ) (l : List ℕ) (a : ℕ) → (thing_of d ≢ a) → seat_of (d ∷ l) a ≡ seat_of l a
seat_elsewhere d l a other = cond-false (thing_of d == a) _ _ (ne_eqb (thing_of d) a other)

-- the seat is a place that the list names
seat_named : (l : List ℕ) (a s : ℕ) → seat_of l a ≡ Some s → Named l a s
seat_named [] a s e = absurd (none-some s e)
seat_named (d ∷ l) a s e = elim (cases_eq (thing_of d) a) [
  | inl q ↦ subst (Named (d ∷ l) a) (same_Some _ _ (sym (seat_here d l a q) ∙ e)) (named_here d l a (seat_of l a) q (seat_named l a))
  | inr n ↦ named_later d l a s (seat_named l a s (sym (seat_elsewhere d l a n) ∙ e))
]

-- and no place that it names has a larger number
deeper_here : (p : ℕ) (o : Option ℕ) → p ≤ deeper p o
deeper_here p None = omega arith
deeper_here p (Some t) = omega arith

deeper_later : (p s : ℕ) (o : Option ℕ) → o ≡ Some s → s ≤ deeper p o
deeper_later p s None e = absurd (none-some s e)
deeper_later p s (Some t) e = omega (arith, same_Some t s e)

seat_deepest : (l : List ℕ) (c : ℕ) → Contains l c → (s : ℕ) × (seat_of l (thing_of c) ≡ Some s) × (place_of c ≤ s)
seat_deepest [] c h = absurd (has_none h)
seat_deepest (d ∷ l) c h =
    let a = thing_of c in
    let here = deeper (place_of d) (seat_of l a) in
    elim (cases_eq (thing_of d) a) [
      | inl q ↦ elim (has_cases d l h) [
        | inl e ↦ (here, seat_here d l a q, omega (arith, ap place_of e, deeper_here (place_of d) (seat_of l a)))
        | inr r ↦ let z = seat_deepest l c r in (here, seat_here d l a q, omega (arith, z.2, deeper_later (place_of d) z.0 (seat_of l a) z.1))
      ]
      | inr n ↦ elim (has_cases d l h) [
        | inl e ↦ absurd (n (ap thing_of e))
        | inr r ↦ let z = seat_deepest l c r in (z.0, seat_elsewhere d l a n ∙ z.1, z.2)
      ]
    ]

module _ (ps : List ℕ) (smaller : ParentsAreSmaller ps) where
  abbrev m : Meaning
  m = place_meaning ps

  -- the world that seats each thing by the list
  pub world_of : (l : List ℕ) → AllKnown m l → World ps
  world_of l all_known = record {
    seat = seat_of l;
    seats_stand = λ a s e. let n = seat_named l a s e in omega (arith, (known_parts ps n.0 (all_known n.0 n.1)).1, n.3);
  }

  -- of two places of one thing that do not clash, the larger lies within the other
  within_other : (a b : ℕ) → known ps a ≡ true → known ps b ≡ true → thing_of a ≡ thing_of b → clash ps a b ≡ false → place_of b ≤ place_of a → Within ps (place_of a) (place_of b)
  within_other a b ka kb e none le =
      let tells = within_tells ps smaller (place_of a) (place_of b) (known_parts ps a ka).1 in
      let around = within_tells ps smaller (place_of b) (place_of a) (known_parts ps b kb).1 in
      elim (cases_Bool (within ps (place_of a) (place_of b))) [
        | inl t ↦ tells.0 t
        | inr f ↦ elim (cases_Bool (within ps (place_of b) (place_of a))) [
          | inl t ↦
              let u = around.0 t in
              let same : place_of a ≡ place_of b = omega (arith, within_le ps smaller u) in
              subst (λ x. Within ps (place_of a) x) same itself
          | inr g ↦ absurd (both_ways _ none ((clash_tells ps smaller a b).1 (record {
            first_known = ka;
            second_known = kb;
            same_thing = e;
            not_within = not_from_Decides _ tells f;
            not_around = not_from_Decides _ around g;
          })))
        ]
      ]

  -- it holds exactly what follows from one of the list
  pub world_exact : (l : List ℕ) (k : AllKnown m l) → NothingClashes m l → (c : ℕ) → Holds ps (world_of l k) c ↔ FollowsFromOne m l c
  unfolding world_of
  world_exact l k peace c = (to, from)
    where
      to : Holds ps (world_of l k) c → FollowsFromOne m l c
      to h =
          let n = seat_named l (thing_of c) h.0 h.1 in (
            n.0,
            n.1,
            has_consequence ps smaller n.0 c (record {
              known_cause = k n.0 n.1;
              same_thing = sym n.2;
              within = subst (λ x. Within ps x (place_of c)) (sym n.3) h.2;
            }),
          )

      from : FollowsFromOne m l c → Holds ps (world_of l k) c
      from f =
          let d = f.0 in
          let s = consequence_has ps smaller d c f.2 in
          let z = seat_deepest l d f.1 in
          let n = seat_named l (thing_of d) z.0 z.1 in
          let u = within_other n.0 d (k n.0 n.1) (k d f.1) n.2 (peace n.0 d n.1 f.1) (omega (arith, z.2, n.3)) in
          (z.0, ap (seat_of l) s.same_thing ∙ z.1, within_trans (subst (λ x. Within ps x (place_of d)) n.3 u) s.within)
