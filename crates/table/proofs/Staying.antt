-- The facts of a row that stay where a test is called at each.
use Rattle.std.proofs.Common.{◌≡◌, ℕ, ◌+◌, Bool, true, false, not, ◌↔◌, List, [], ◌∷◌, length, Decides, filter, refl, subst, sym, arith}
use Rattle.std.specs.List.{Contains, items_where_true}
use Rattle.std.specs.List.Retain.{IsFiltered}
use Rattle.std.proofs.lemmas.List.Elements.{Contains-get_or}
use Rattle.std.proofs.lemmas.Grind.{get_or_picked}
use Rattle.std.proofs.lemmas.List.Filters.{length-filter_both}
use Rattle.std.proofs.lemmas.Bool.{both_ways, not-true, not_from_false, false_from_ne_true}
use Rattle.rows.specs.Rows.{Ascending, RowOf, Count}
use Rattle.rows.proofs.Ascents.{ascending_none, ascending_cons, ascending_tail, ascending_head, ascending_kept}
use Rattle.rows.proofs.Members.{kept_has, has_kept, each_member}
use Rattle.table.specs.Facts.{OnlyIn}

picked_has : (bs : List Bool) (xs : List ℕ) (c : ℕ) → Contains (items_where_true bs xs) c → Contains xs c
picked_has bs xs = each_member (Contains xs) (items_where_true bs xs) (λ k h. let j = (get_or_picked bs xs k 0 h).1 in subst (Contains xs) (sym j.2) (Contains-get_or xs j.0 0 j.1))

picked_ascends : (bs : List Bool) (xs : List ℕ) → Ascending xs → Ascending (items_where_true bs xs)
picked_ascends [] xs up = ascending_none
picked_ascends (b ∷ bs) [] up = ascending_none
picked_ascends (true ∷ bs) (x ∷ xs) up =
    ascending_cons x (items_where_true bs xs) (picked_ascends bs xs (ascending_tail x xs up)) (λ c h. ascending_head x xs up c (picked_has bs xs c h))
picked_ascends (false ∷ bs) (x ∷ xs) up = picked_ascends bs xs (ascending_tail x xs up)

-- whatever the test answers, what stays ascends
pub filtered_ascends : {F : Type 0} (R : F → ℕ → Bool → F → Type 0) (f : F) (xs ys : List ℕ) → IsFiltered R f xs ys → Ascending xs → Ascending ys
filtered_ascends R f xs ys k up = subst Ascending (sym k.4) (picked_ascends k.0 xs up)

module _ (p : ℕ → Bool) (old : List ℕ) (up : Ascending old) where
  -- those stay that have the property which the test decides
  pub stay_row : (P : ℕ → Type 0) → ((c : ℕ) → Decides (p c) (P c)) → RowOf (λ c. Contains old c × P c) (filter p old)
  stay_row P tells = record {
    ascends = ascending_kept p old up;
    members = λ c. (
      (λ h. let k = kept_has p old c h in (k.0, (tells c).0 k.1)),
      λ q. has_kept p old c q.0 ((tells c).1 q.1),
    );
  }

  abbrev goes : ℕ → Bool
  goes c = not (p c)

  -- how many are gone
  pub gone_count : (new : List ℕ) → ((c : ℕ) → Contains old c → Contains new c ↔ (p c ≡ true)) → (gone : ℕ) → gone + length (filter p old) ≡ length old → Count (OnlyIn old new) gone
  gone_count new stays gone e = (
    filter goes old,
    record {
      ascends = ascending_kept goes old up;
      members = λ c. (
        (λ h. let k = kept_has goes old c h in (k.0, λ n. both_ways (p c) (not-true (p c) k.1) ((stays c k.0).0 n))),
        λ q. has_kept goes old c q.0 (not_from_false (p c) (false_from_ne_true (p c) (λ t. q.1 ((stays c q.0).1 t)))),
      );
    },
    omega (arith, length-filter_both p goes (λ _. refl) old),
  )
