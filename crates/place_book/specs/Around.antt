-- The places in which a place lies: they ascend, and are those within which it lies.
use Rattle.std.specs.Prelude.{ℕ, ◌<◌, ◌≤◌, List, length}
use Rattle.std.proofs.Common.{arith}
use Rattle.std.specs.List.{range_with_len, Contains}
use Rattle.std.proofs.lemmas.List.FromFn.{length-range_with_len}
use Rattle.std.proofs.lemmas.List.Sums.{length-filter, count_by-le-length}
use Rattle.rows.specs.Rows.{Ascending}
use Rattle.rows.proofs.Members.{kept_has, has_kept, has_counting}
use Rattle.rows.proofs.Ascents.{ascending_counting, ascending_kept}
use Rattle.place_book.specs.Places.{ParentsAreSmaller, Within}
use Rattle.place_book.specs.Meaning.{within, places_around}
use Rattle.place_book.specs.Tree.{within_le, within_tells}

pub around_ascends : (ps : List ℕ) (p : ℕ) → Ascending (places_around ps p)
around_ascends ps p = ascending_kept (within ps p) (range_with_len 0 (length ps)) (ascending_counting 0 (length ps))

pub around_few : (ps : List ℕ) (p : ℕ) → length (places_around ps p) ≤ length ps
around_few ps p = omega (arith, length-filter (within ps p) (range_with_len 0 (length ps)), count_by-le-length (within ps p) (range_with_len 0 (length ps)), length-range_with_len 0 (length ps))

module _ (ps : List ℕ) (smaller : ParentsAreSmaller ps) where
  pub around_has : (p q : ℕ) → p < length ps → Contains (places_around ps p) q → Within ps p q
  around_has p q k h = (within_tells ps smaller p q k).0 (kept_has (within ps p) (range_with_len 0 (length ps)) q h).1

  pub has_around : (p q : ℕ) → p < length ps → Within ps p q → Contains (places_around ps p) q
  has_around p q k u =
      has_kept (within ps p) (range_with_len 0 (length ps)) q
      (has_counting 0 (length ps) q (omega arith) (omega (arith, within_le ps smaller u)))
      ((within_tells ps smaller p q k).1 u)
