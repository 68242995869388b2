-- How many facts follow from a list and come at most.
use Rattle.std.proofs.Common.{ℕ, zero, suc, refl, sym, subst, ◌*◌, ◌≤◌, List, [], ◌∷◌, length, inl, inr, mul-le-mul_right, suc-mul, arith}
use Rattle.std.specs.List.{Contains, flat_map}
use Rattle.std.proofs.lemmas.List.Elements.{Contains-append_left, Contains-append_right, Contains-append_cases}
use Rattle.std.proofs.lemmas.List.{length-append}
use Rattle.rows.specs.Rows.{Ascending}
use Rattle.rows.proofs.Members.{has_none}
use Rattle.rows.proofs.Properties.{row_within}
use Rattle.book.specs.Meaning.{Meaning, Lawful, FollowsFromOne}

-- what stands in one of the parts of a list, and where
module _ {X : Type 0} (f : X → List ℕ) where
  pub has_flat_map : (xs : List X) (x : X) (c : ℕ) → Contains xs x → Contains (f x) c → Contains (flat_map f xs) c
  has_flat_map [] x c h k = absurd (omega (arith, h.1))
  has_flat_map (y ∷ xs) x c (zero, l, e) k = Contains-append_left (f y) _ c (subst (λ z. Contains (f z) c) (sym e) k)
  has_flat_map (y ∷ xs) x c (suc i, l, e) k = Contains-append_right (f y) _ c (has_flat_map xs x c (i, omega arith, e) k)

  pub flat_map_has : (xs : List X) (c : ℕ) → Contains (flat_map f xs) c → (x : X) × Contains xs x × Contains (f x) c
  flat_map_has [] c h = absurd (has_none h)
  flat_map_has (y ∷ xs) c h = elim (Contains-append_cases (f y) (flat_map f xs) c h) [
    | inl k ↦ (y, (0, omega arith, refl), k)
    | inr k ↦ let r = flat_map_has xs c k in (r.0, (suc r.1.0, omega (arith, r.1.1), r.1.2), r.2)
  ]

module _ (m : Meaning) (most : ℕ) (law : Lawful m most) where
  few_consequences : (list : List ℕ) → length (flat_map m.consequences list) ≤ length list * most
  few_consequences [] = omega arith
  few_consequences (x ∷ xs) = omega (arith, few_consequences xs, law.at_most_follow x, length-append (m.consequences x) (flat_map m.consequences xs), suc-mul (length xs) most)

  -- at most `most` follow for each of the list
  pub follow_few : (list xs : List ℕ) → Ascending xs → ((c : ℕ) → Contains xs c → FollowsFromOne m list c) → length xs ≤ length list * most
  follow_few list xs up each = omega (arith, few_consequences list, row_within xs (flat_map m.consequences list) up (λ c h. let f = each c h in has_flat_map m.consequences list f.0 c f.1 f.2))

  -- which is a small number for a list that is short
  pub follow_small : (list xs : List ℕ) → length list ≤ 256 → Ascending xs → ((c : ℕ) → Contains xs c → FollowsFromOne m list c) → length xs ≤ 16777216
  follow_small list xs short up each = omega (arith, follow_few list xs up each, mul-le-mul_right most short, law.most_is_small)
