-- The tests of the meaning tell exactly what follows and what clashes.
use Rattle.std.specs.Prelude.{◌≡◌, ℕ, ◌<◌, true, false, not, ◌&&◌, List, [], map, length, IsTrue, ◌↔◌, ◌==◌, nat_lt}
use Rattle.std.proofs.Common.{sym, ap, subst, ◌∙◌, inl, inr, arith}
use Rattle.std.specs.List.{Contains}
use Rattle.std.proofs.lemmas.List.{length-map}
use Rattle.std.proofs.lemmas.Bool.{eqb-true, eq-eqb, ltb-true, lt-ltb, and_parts, and_from, cases_Bool, cond-true, cond-false, not-true, not_from_false, false_from_ne_true}
use Rattle.std.proofs.lemmas.Bool.Decides.{not_from_Decides}
use Rattle.rows.specs.Rows.{Ascending}
use Rattle.rows.proofs.Ascents.{ascending_none, ascending_map}
use Rattle.rows.proofs.Members.{has_none, map_has, has_map}
use Rattle.place_book.specs.Places.{ParentsAreSmaller, Within}
use Rattle.place_book.specs.Meaning.{within, places_around, consequences, clash}
use Rattle.place_book.specs.Facts.{code_of, thing_of, place_of, known, FactFollows, FactsClash}
use Rattle.place_book.specs.Tree.{within_le, within_tells}
use Rattle.place_book.specs.Around.{around_ascends, around_has, has_around}

pub known_parts : (ps : List ℕ) (c : ℕ) → known ps c ≡ true → (thing_of c < 65536) × (place_of c < length ps)
known_parts ps c e =
    let both = and_parts (nat_lt (thing_of c) 65536) _ e in
    (ltb-true (thing_of c) 65536 both.0, ltb-true (place_of c) (length ps) both.1)

pub known_from : (ps : List ℕ) (c : ℕ) → thing_of c < 65536 → place_of c < length ps → known ps c ≡ true
known_from ps c h k = and_from (nat_lt (thing_of c) 65536) _ (lt-ltb (thing_of c) 65536 h) (lt-ltb (place_of c) (length ps) k)

pub consequences_known : (ps : List ℕ) (c : ℕ) → known ps c ≡ true → consequences ps c ≡ map (code_of (thing_of c)) (places_around ps (place_of c))
consequences_known ps c e = cond-true (known ps c) _ _ e

pub consequences_unknown : (ps : List ℕ) (c : ℕ) → known ps c ≡ false → consequences ps c ≡ []
consequences_unknown ps c e = cond-false (known ps c) _ _ e

module _ (ps : List ℕ) (smaller : ParentsAreSmaller ps) where
  pub has_consequence : (a c : ℕ) → FactFollows ps a c → Contains (consequences ps a) c
  has_consequence a c f =
      let k = known_parts ps a f.known_cause in
      let e : code_of (thing_of a) (place_of c) ≡ c = omega (arith, f.same_thing) in
      let m = has_map (code_of (thing_of a)) (places_around ps (place_of a)) (place_of c) (has_around ps smaller (place_of a) (place_of c) k.1 f.within) in
      subst (λ l. Contains l c) (sym (consequences_known ps a f.known_cause)) (subst (λ z. Contains (map (code_of (thing_of a)) (places_around ps (place_of a))) z) e m)

  pub consequence_has : (a c : ℕ) → Contains (consequences ps a) c → FactFollows ps a c
  consequence_has a c h = elim (cases_Bool (known ps a)) [
    | inl e ↦
        let k = known_parts ps a e in
        let m = map_has (code_of (thing_of a)) (places_around ps (place_of a)) c (subst (λ l. Contains l c) (consequences_known ps a e) h) in
        let u = around_has ps smaller (place_of a) m.0 k.1 m.1 in
        let small : m.0 < 256 = omega (arith, within_le ps smaller u) in
        let place : m.0 ≡ place_of c = omega (arith, m.2) in
        record { known_cause = e; same_thing = omega (arith, m.2); within = subst (Within ps (place_of a)) place u }
    | inr e ↦ absurd (has_none (subst (λ l. Contains l c) (consequences_unknown ps a e) h))
  ]

  pub follows_known : (a c : ℕ) → FactFollows ps a c → known ps c ≡ true
  follows_known a c f =
      let k = known_parts ps a f.known_cause in
      known_from ps c (omega (arith, k.0, f.same_thing)) (omega (arith, k.1, within_le ps smaller f.within))

  pub clash_tells : (a b : ℕ) → IsTrue (clash ps a b) ↔ FactsClash ps a b
  clash_tells a b = (to, from)
    where
      to : clash ps a b ≡ true → FactsClash ps a b
      to e =
          let outer = and_parts (known ps a && known ps b) _ e in
          let both = and_parts (known ps a) (known ps b) outer.0 in
          let rest = and_parts (thing_of a == thing_of b) _ outer.1 in
          let apart = and_parts (not (within ps (place_of a) (place_of b))) _ rest.1 in
          let ka = known_parts ps a both.0 in
          let kb = known_parts ps b both.1 in
          record {
            first_known = both.0;
            second_known = both.1;
            same_thing = eqb-true (thing_of a) (thing_of b) rest.0;
            not_within = not_from_Decides _ (within_tells ps smaller (place_of a) (place_of b) ka.1) (not-true _ apart.0);
            not_around = not_from_Decides _ (within_tells ps smaller (place_of b) (place_of a) kb.1) (not-true _ apart.1);
          }

      from : FactsClash ps a b → clash ps a b ≡ true
      from s =
          let ka = known_parts ps a s.first_known in
          let kb = known_parts ps b s.second_known in
          and_from (known ps a && known ps b) _ (and_from (known ps a) (known ps b) s.first_known s.second_known)
          (and_from (thing_of a == thing_of b) _ (eq-eqb (thing_of a) (thing_of b) s.same_thing)
          (and_from (not (within ps (place_of a) (place_of b))) _
          (not_from_false _ (false_from_ne_true _ (λ e. s.not_within ((within_tells ps smaller (place_of a) (place_of b) ka.1).0 e))))
          (not_from_false _ (false_from_ne_true _ (λ e. s.not_around ((within_tells ps smaller (place_of b) (place_of a) kb.1).0 e))))))

  pub ascending_consequences : (a : ℕ) → Ascending (consequences ps a)
  ascending_consequences a = elim (cases_Bool (known ps a)) [
    | inl e ↦ subst Ascending (sym (consequences_known ps a e)) (ascending_map (code_of (thing_of a)) (λ x y h. omega arith) (places_around ps (place_of a)) (around_ascends ps (place_of a)))
    | inr e ↦ subst Ascending (sym (consequences_unknown ps a e)) ascending_none
  ]

  -- how many follow
  pub consequences_count : (a : ℕ) → known ps a ≡ true → length (consequences ps a) ≡ length (places_around ps (place_of a))
  consequences_count a e = ap length (consequences_known ps a e) ∙ length-map (places_around ps (place_of a)) (code_of (thing_of a))
