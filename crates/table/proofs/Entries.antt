-- How many codes come.
use Rattle.std.proofs.Common.{◌≡◌, ℕ, ◌≤◌, Bool, cond, not, eqb, List, length, reverse, filter, Decides, is_ok, Result, sym, ap, ◌∙◌, arith}
use Rattle.std.specs.List.{Contains, list_any}
use Rattle.std.proofs.lemmas.List.{length-reverse}
use Rattle.std.proofs.lemmas.List.Sums.{length-filter}
use Rattle.std.proofs.lemmas.List.Sorted.{IsPermutation-reverse, sum_by-IsPermutation}
use Rattle.std.proofs.lemmas.Bool.Decides.{Decides-not, same_from_decides}
use Rattle.rows.specs.Rows.{RowOf, Count, Placed}
use Rattle.rows.proofs.Ascents.{ascending_kept, placed_tells}
use Rattle.rows.proofs.Members.{kept_has, has_kept}
use Rattle.book.specs.Meaning.{Meaning, Lawful, FollowsFromOne}
use Rattle.table.specs.Descent.{Comes}
use Rattle.table.proofs.Few.{follow_small}
use Rattle.table.proofs.Tests.{has_tells}

-- whether a code does not stand in the row
abbrev pub lacks : List ℕ → ℕ → Bool
lacks row c = not (list_any (eqb c) row)

lacks_tells : (row : List ℕ) (c : ℕ) → Decides (lacks row c) (Contains row c → ⊥)
lacks_tells row c = Decides-not (list_any (eqb c) row) (has_tells c row)

-- what a search in the row finds
pub search_tells : (row : List ℕ) (c : ℕ) (r : Result ℕ ℕ) → Placed row c r → not (is_ok r) ≡ lacks row c
search_tells row c r placed = ap not (same_from_decides (is_ok r) (list_any (eqb c) row) (placed_tells row c r placed) (has_tells c row))

-- as many pass a test from the back
length-filter-reverse : (p : ℕ → Bool) (xs : List ℕ) → length (filter p (reverse xs)) ≡ length (filter p xs)
length-filter-reverse p xs = length-filter p (reverse xs) ∙ sum_by-IsPermutation (λ x. cond (p x) 1 0) xs (reverse xs) (IsPermutation-reverse xs) ∙ sym (length-filter p xs)

-- of the codes that follow from a list, the largest first
module _ {m : Meaning} {most : ℕ} (law : Lawful m most) (list codes : List ℕ) (all : RowOf (FollowsFromOne m list) (reverse codes)) where
  pub few_codes : length list ≤ 256 → length codes ≤ 16777216
  few_codes short = omega (arith, length-reverse codes, follow_small m most law list (reverse codes) short all.ascends (λ c h. (all.members c).0 h))

  pub count_coming : (row : List ℕ) → Count (Comes m list row) (length (filter (lacks row) codes))
  count_coming row = (
    filter (lacks row) (reverse codes),
    record {
      ascends = ascending_kept (lacks row) (reverse codes) all.ascends;
      members = λ c. (
        λ h. let k = kept_has (lacks row) (reverse codes) c h in ((all.members c).0 k.0, (lacks_tells row c).0 k.1),
        λ p. has_kept (lacks row) (reverse codes) c ((all.members c).1 p.0) ((lacks_tells row c).1 p.1),
      );
    },
    sym (length-filter-reverse (lacks row) codes),
  )
