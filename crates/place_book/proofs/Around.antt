-- The places in which a place lies: one more at the end for each step down.
use Rattle.std.specs.Prelude.{◌≡◌, ℕ, ◌<◌, List, [], ◌∷◌, ◌++◌, length, slice_index, Some, None, Option, refl}
use Rattle.std.proofs.Common.{sym, subst, inl, inr, arith}
use Rattle.std.specs.List.{Contains}
use Rattle.std.proofs.lemmas.List.Elements.{Contains-append_left, Contains-push, Contains-push_cases}
use Rattle.std.proofs.lemmas.List.{reverse-append}
use Rattle.std.proofs.lemmas.Bool.{cases_eq}
use Rattle.rows.proofs.Members.{has_head, has_one, has_none}
use Rattle.rows.proofs.Ascents.{ascending_none, ascending_cons, ascending_push, same_rows}
use Rattle.place_book.specs.Places.{ParentsAreSmaller, ParentOf}
use Rattle.place_book.specs.Places.Within.{itself, parent}
use Rattle.place_book.specs.Meaning.{places_around}
use Rattle.place_book.specs.Climbs.{climb_from}
use Rattle.place_book.specs.Tree.{within_le, within_up}
use Rattle.place_book.specs.Around.{around_ascends, around_has, has_around}

module _ (ps : List ℕ) (smaller : ParentsAreSmaller ps) where
  pub around_plant : 0 < length ps → places_around ps 0 ≡ 0 ∷ []
  around_plant k = same_rows (places_around ps 0) (0 ∷ []) (around_ascends ps 0) (ascending_cons 0 [] ascending_none (λ c h. absurd (has_none h)))
      (λ q h. let e : q ≡ 0 = omega (arith, within_le ps smaller (around_has ps smaller 0 q k h)) in subst (λ z. Contains (0 ∷ []) z) (sym e) (has_head 0 []))
      (λ q h. subst (λ z. Contains (places_around ps 0) z) (has_one 0 h) (has_around ps smaller 0 0 k itself))

  pub around_below : (p : ℕ) → 0 < p → p < length ps → places_around ps p ≡ places_around ps (slice_index ps p) ++ (p ∷ [])
  around_below p h k =
      let up = slice_index ps p in
      let ku : up < length ps = omega (arith, smaller p h k) in
      same_rows (places_around ps p) (places_around ps up ++ (p ∷ [])) (around_ascends ps p)
      (ascending_push (places_around ps up) p (around_ascends ps up) (λ c m. omega (arith, smaller p h k, within_le ps smaller (around_has ps smaller up c ku m))))
      (λ q m. let u = around_has ps smaller p q k m in elim (cases_eq q p) [
        | inl e ↦ subst (λ z. Contains (places_around ps up ++ (p ∷ [])) z) (sym e) (Contains-push (places_around ps up) p)
        | inr ne ↦ Contains-append_left (places_around ps up) (p ∷ []) q (has_around ps smaller up q ku (within_up ps smaller u (omega (arith, within_le ps smaller u, ne))))
      ])
      (λ q m. elim (Contains-push_cases (places_around ps up) p q m) [
        | inl r ↦ has_around ps smaller p q k (parent h k (around_has ps smaller up q ku r))
        | inr e ↦ subst (λ z. Contains (places_around ps p) z) e (has_around ps smaller p p k itself)
      ])

  -- a climb: the place itself, and then the climb from its parent
  pub climb_on : (p : ℕ) (q : Option ℕ) → p < length ps → ParentOf ps p q → climb_from ps (Some p) ≡ p ∷ climb_from ps q
  climb_on p None k none = let e : p ≡ 0 = elim none [ inl z ↦ z | inr past ↦ omega arith ] in rw (e, around_plant (omega arith)) refl
  climb_on p (Some q) k up = rw (up.2, around_below p up.0 k) (reverse-append (places_around ps (slice_index ps p)) (p ∷ []))
