-- What the tests of a held fact tell.
use Rattle.std.proofs.Common.{◌≡◌, ℕ, Bool, true, false, not, eqb, ◌⊎◌, List, length, is_some, Some, None, Decides, Option, sym, ap, ◌∙◌, subst, inl, inr}
use Rattle.std.specs.List.{Contains, list_any}
use Rattle.std.proofs.lemmas.List.Elements.{Contains-get_or}
use Rattle.std.proofs.lemmas.List.Folds.{Any-from_list_any, list_any_at}
use Rattle.std.proofs.lemmas.Bool.{both_ways, cases_Bool, not-true, not-false, not_from_false, false_from_ne_true}
use Rattle.std.proofs.lemmas.Bool.Decides.{Decides-eqb, same_from_decides}
use Rattle.std.proofs.lemmas.Map.Made.{is_member-Decides}
use Rattle.rows.proofs.Members.{each_member}
use Rattle.book.specs.Meaning.{Meaning, Follows}
use Rattle.book.specs.Lists.{FirstAgainst}
use Rattle.table.specs.Facts.{ClashesWithNone, NoneFollows}
use Rattle.table.specs.Checks.{stays, leads, untouched}

module _ (p : ℕ → Bool) (xs : List ℕ) where
  any_has : (d : ℕ) → Contains xs d → p d ≡ true → list_any p xs ≡ true
  any_has d h e = list_any_at p xs h.0 d h.1 (ap p h.2 ∙ e)

  any_some : list_any p xs ≡ true → (d : ℕ) × Contains xs d × (p d ≡ true)
  any_some e = let a = Any-from_list_any p xs e in (a.1, subst (Contains xs) a.3 (Contains-get_or xs a.0 a.1 a.2), a.4)

  -- no number of the list passes
  none_tells : Decides (not (list_any p xs)) ((d : ℕ) → Contains xs d → p d ≡ true → ⊥)
  none_tells = (
    (λ e d h q. both_ways (list_any p xs) (not-true (list_any p xs) e) (any_has d h q)),
    λ none. not_from_false (list_any p xs) (false_from_ne_true (list_any p xs) (λ e. let r = any_some e in none r.0 r.1 r.2)),
  )

-- whether a number stands in a list
pub has_tells : (d : ℕ) (xs : List ℕ) → Decides (list_any (eqb d) xs) (Contains xs d)
has_tells d xs = is_member-Decides Decides-eqb xs d

-- a list has a number, or does not
pub cases_has : (xs : List ℕ) (c : ℕ) → Contains xs c ⊎ (Contains xs c → ⊥)
cases_has xs c = elim (cases_Bool (list_any (eqb c) xs)) [
  | inl t ↦ inl ((has_tells c xs).0 t)
  | inr f ↦ inr (λ h. both_ways (list_any (eqb c) xs) f ((has_tells c xs).1 h))
]

module _ (m : Meaning) where
  -- a book's answer is the test
  pub leads_is : (c d : ℕ) (b : Bool) → Decides b (Follows m c d) → b ≡ leads m c d
  leads_is c d b h = same_from_decides b (leads m c d) h (has_tells d (m.consequences c))

  module _ (list : List ℕ) (c : ℕ) where
    pub stays_tells : Decides (stays m list c) (ClashesWithNone m list c)
    stays_tells =
        let tells = none_tells (λ d. m.clash d c) list in
        ((λ e d h. false_from_ne_true (m.clash d c) (tells.0 e d h)), λ none. tells.1 (λ d h. both_ways (m.clash d c) (none d h)))

    pub untouched_tells : Decides (untouched m list c) (NoneFollows m list c)
    untouched_tells =
        let tells = none_tells (leads m c) list in
        ((λ e d h f. tells.0 e d h ((has_tells d (m.consequences c)).1 f)), λ none. tells.1 (λ d h q. none d h ((has_tells d (m.consequences c)).0 q)))

    -- none is found against c exactly when c clashes with none
    pub against_is : (r : Option ℕ) (b : Bool) → FirstAgainst m list (length list) c r → is_some r ≡ not b → b ≡ stays m list c
    against_is r b first e = same_from_decides b (stays m list c) (decides r first e) stays_tells where
      decides : (r : Option ℕ) → FirstAgainst m list (length list) c r → is_some r ≡ not b → Decides b (ClashesWithNone m list c)
      decides None first e = ((λ _. each_member (λ d. m.clash d c ≡ false) list first), λ _. not-false b (sym e))
      decides (Some i) first e = ((λ t. absurd (both_ways b (not-true b (sym e)) t)), λ none. absurd (both_ways _ (none _ (Contains-get_or list i 0 first.0)) first.1))
