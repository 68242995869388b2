-- Rows of the numbers that have a property: there is one at most, it is no longer than a list that has its numbers, and two make one.
use Rattle.std.proofs.Common.{◌≡◌, ℕ, ◌≤◌, List, length, arith}
use Rattle.std.specs.List.{Contains}
use Rattle.std.proofs.lemmas.List.{get_or_default}
use Rattle.std.proofs.lemmas.Bool.Decides.{Decides-eqb}
use Rattle.std.proofs.lemmas.Cmp.{nat_eq_equiv}
use Rattle.std.proofs.lemmas.Map.Made.{is_member-Decides, length-le_from_is_member, IsDistinct-from_AllPairs}
use Rattle.rows.specs.Rows.{Ascending, RowOf, Count}
use Rattle.rows.proofs.Ascents.{same_rows}

-- a property has one row, and one number of those that have it
pub one_row : {P : ℕ → Type 0} {xs ys : List ℕ} → RowOf P xs → RowOf P ys → xs ≡ ys
one_row {P} {xs} {ys} r s = same_rows xs ys r.ascends s.ascends (λ c h. (s.members c).1 ((r.members c).0 h)) (λ c h. (r.members c).1 ((s.members c).0 h))

pub one_count : (P : ℕ → Type 0) (n k : ℕ) → Count P n → Count P k → n ≡ k
one_count P n k a b = let e = one_row a.1 b.1 in cc

-- a row has no more numbers than a list that has them all
pub row_within : (xs ys : List ℕ) → Ascending xs → ((c : ℕ) → Contains xs c → Contains ys c) → length xs ≤ length ys
row_within xs ys up in' =
    let apart = IsDistinct-from_AllPairs Decides-eqb xs (λ i j d h k same. omega (arith, up i j h k, get_or_default xs i 0 d (omega arith), get_or_default xs j 0 d k, same)) in
    length-le_from_is_member nat_eq_equiv xs ys apart (λ q e. (is_member-Decides Decides-eqb ys q).1 (in' q ((is_member-Decides Decides-eqb xs q).0 e)))
