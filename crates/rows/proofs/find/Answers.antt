use Rattle.std.proofs.Common.{◌≡◌, ◌∙◌, ℕ, ◌<◌, ◌≤◌, List, length, get_or, IfOk, Ok, Err, Result, MatchResult, subst, arith}
use Rattle.std.specs.List.{HoldsAt}
use Rattle.std.specs.List.Sorted.{IsBinarySearchResult}
use Rattle.std.proofs.lemmas.List.Sorted.{searched}
use Rattle.rows.specs.Rows.{Ascending, Placed}
use Rattle.rows.proofs.Ascents.{ascending_up}
use Rattle.rows.proofs.find.Goals as goal
use Rattle.std.specs.Ordering.{nat_cmp}
use Rattle.std.specs.FinMap.{nat_cmp-IsAntisymmetric}
use Rattle.std.specs.declared.cmp.Ordering.TheVariants.{Equal}

-- b is the number that was looked for
placed : (xs : List ℕ) (c b : ℕ) (r : Result ℕ ℕ) → IsBinarySearchResult (λ y. nat_cmp y b) xs r → b ≡ c → Ascending xs → Placed xs c r
placed xs c b (Ok i) h q up = searched xs c (Ok i) (subst (λ x. IsBinarySearchResult (λ y. nat_cmp y x) xs (Ok i)) q h) (ascending_up xs up)
placed xs c b (Err i) h q up = searched xs c (Err i) (subst (λ x. IsBinarySearchResult (λ y. nat_cmp y x) xs (Err i)) q h) (ascending_up xs up)

within : (xs : List ℕ) (c b : ℕ) (r : Result ℕ ℕ) → MatchResult r (λ i. i < length xs) (λ i. i ≤ length xs) → IfOk r (HoldsAt (λ y. nat_cmp y b ≡ Equal) xs) → b ≡ c → MatchResult r (λ i. (i < length xs) × (get_or xs i 0 ≡ c)) (λ i. i ≤ length xs)
within xs c b (Ok i) bound found q = (bound, nat_cmp-IsAntisymmetric (get_or xs i 0) b (found 0) ∙ q)
within xs c b (Err i) bound found q = bound

pub returns : goal.returns
returns c = record {
  placed = placed c.args.row.now c.args.c _ c.binary_search.result c.binary_search.ensures.position (omega arith);
  within = within c.args.row.now c.args.c _ c.binary_search.result c.binary_search.ensures.bound c.binary_search.ensures.ok (omega arith);
}
