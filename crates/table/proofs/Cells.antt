-- Cells in which a table's facts are laid out.
use Rattle.std.proofs.Common.{◌≡◌, ℕ, ◌+◌, ◌-◌, ◌≤◌, min, List, ◌++◌, length, take, drop, replicate, sym, refl, ap, ◌∙◌, arith}
use Rattle.std.proofs.Math.Seq.{drop-append-add}
use Rattle.std.proofs.lemmas.Grind.{common_steps}
use Rattle.std.proofs.lemmas.List.{append_assoc, length-replicate, length-take-le, replicate-append-replicate, take_all, take_at, drop_all, take-append-le, take-append-drop, drop_at, drop-append-le, drop-replicate}
use Rattle.rows.specs.Rows.{Ascending}
use Rattle.table.specs.Cells.{used, laid}
use Rattle.table.specs.View.{cells_of, facts_of, KeepsCells}
use Rattle.table.specs.declared.Table.{Table}

module _ (facts cells : List ℕ) (fits : length facts ≤ used cells) where
  length-laid : length (laid facts cells) ≡ length cells
  length-laid = grind (arith, common_steps)

  pub used-laid : used (laid facts cells) ≡ used cells
  used-laid = ap (λ n. min n 65536) length-laid

  rest-laid : drop (used cells) (laid facts cells) ≡ drop (used cells) cells
  rest-laid =
      let zeros : List ℕ = replicate (used cells - length facts) 0 in
      rw (← append_assoc facts zeros (drop (used cells) cells)) (drop_at (facts ++ zeros) (drop (used cells) cells) (used cells) (grind (arith, common_steps)))

  -- the facts stand in front
  pub take-laid : take (length facts) (laid facts cells) ≡ facts
  take-laid = take_at facts (replicate (used cells - length facts) 0 ++ drop (used cells) cells) (length facts) refl

  -- laid out once more
  pub laid-laid : (others : List ℕ) → laid others (laid facts cells) ≡ laid others cells
  laid-laid others = rw (used-laid, rest-laid) refl

pub facts_long : (t : Table) → length (facts_of t) ≡ t.held
facts_long t = length-take-le t.held (cells_of t) (omega (arith, t.fits))

module _ (facts rest : List ℕ) where
  -- behind the facts, and behind room for j more of them
  behind : (z j : ℕ) → j ≤ z → drop (length facts + j) (facts ++ (replicate z 0 ++ rest)) ≡ replicate (z - j) 0 ++ rest
  behind z j le =
      let zeros : List ℕ = replicate z 0 in
      let within : j ≤ length zeros = omega (arith, length-replicate {A = ℕ} z 0) in
      rw (drop-append-add facts (zeros ++ rest) j, drop-append-le j zeros rest within, drop-replicate {X = ℕ} j z 0) refl

  one_run : (a b c : ℕ) → a + b ≡ c → (facts ++ replicate a 0) ++ (replicate b 0 ++ rest) ≡ facts ++ (replicate c 0 ++ rest)
  one_run a b c e = rw (append_assoc facts (replicate a 0) (replicate b 0 ++ rest), ← append_assoc (replicate a 0) (replicate b 0) rest, replicate-append-replicate {A = ℕ} a b 0, e) refl

-- the first k cells are the facts of a table over cells that were laid out for another
pub record Stands (old after : List ℕ) (k : ℕ) (facts : List ℕ) : Type 0 where
  pub are : take k after ≡ facts
  pub laid_out : after ≡ laid (take k after) old
  pub fits : k ≤ used after
  pub ascends : Ascending (take k after)
  pub layout : after ≡ laid (take k after) after

-- of a table's cells the first n were lent, among them those with its facts; now they are `row`, of which the first k are facts and the others 0
module _ (t : Table) (n : ℕ) (all : t.held ≤ n) (room : n ≤ used (cells_of t)) (row : List ℕ) (long : length row ≡ length (take n (cells_of t)))
    (k : ℕ) (within : k ≤ length row) (zeros : drop k row ≡ replicate (length row - k) 0) (up : Ascending (take k row)) where
  abbrev cells : List ℕ
  cells = cells_of t

  abbrev after : List ℕ
  after = row ++ drop n cells

  abbrev facts : List ℕ
  facts = take k row

  n_long : length row ≡ n
  n_long = long ∙ length-take-le n cells (omega arith)

  k_long : length facts ≡ k
  k_long = length-take-le k row within

  facts_fit : length facts ≤ used cells
  facts_fit = omega (arith, n_long, k_long)

  rest_is : drop n cells ≡ replicate (used cells - n) 0 ++ drop (used cells) cells
  rest_is =
      let place : length (facts_of t) + (n - t.held) ≡ n = omega (arith, facts_long t) in
      let zeros : used cells - length (facts_of t) - (n - t.held) ≡ used cells - n = omega (arith, facts_long t) in
      rw (← t.layout, place, zeros) at (behind (facts_of t) (drop (used cells) cells) (used cells - length (facts_of t)) (n - t.held) (omega (arith, facts_long t)))

  laid_anew : after ≡ laid facts cells
  laid_anew =
      let parts : row ≡ facts ++ replicate (length row - k) 0 = rw (← zeros) (sym (take-append-drop k row)) in
      ap (λ l. l ++ drop n cells) parts ∙ rw rest_is (one_run facts (drop (used cells) cells) (length row - k) (used cells - n) (used cells - length facts) (omega (arith, n_long, k_long)))

  facts_are : take k after ≡ facts
  facts_are = take-append-le k row (drop n cells) within

  stands : Stands cells after k facts
  stands = record {
    are = facts_are;
    laid_out = rw facts_are laid_anew;
    fits = omega (arith, k_long, facts_fit, ap used laid_anew, used-laid facts cells facts_fit);
    ascends = rw facts_are up;
    layout = rw facts_are (rw (← laid_anew) at (sym (laid-laid facts cells facts_fit facts)));
  }

-- some facts stay, in front of those held, and zeros behind them
pub stand_fewer : (t : Table) (row : List ℕ) → length row ≡ length (facts_of t) → (k : ℕ) → k ≤ length (facts_of t) → drop k row ≡ replicate (length (facts_of t) - k) 0 → Ascending (take k row) → Stands (cells_of t) (row ++ drop t.held (cells_of t)) k (take k row)
stand_fewer t row long k within zeros up = stands t t.held (omega arith) t.fits row long k (omega (arith, within, long)) (rw long zeros) up

-- more facts stand in the first cells
pub stand_more : (t : Table) (come : ℕ) → length (facts_of t) + come ≤ used (cells_of t) → (row : List ℕ) → length row ≡ length (take (t.held + come) (cells_of t)) → Ascending row
    → Stands (cells_of t) (row ++ drop (t.held + come) (cells_of t)) (t.held + come) row
stand_more t come room row long up =
    let n = t.held + come in
    let fits : n ≤ used (cells_of t) = omega (arith, facts_long t, room) in
    let n_is : length row ≡ n = long ∙ length-take-le n (cells_of t) (omega arith) in
    let e : take n row ≡ row = take_all n row (omega arith) in
    let none : drop n row ≡ replicate (length row - n) 0 = drop_all n row (omega arith) ∙ ap (λ k. replicate k 0) {x = 0} {y = length row - n} (omega arith) in
    rw e at (stands t n (omega arith) fits row long n (omega arith) none (rw e up))

-- a table that keeps its cells, with no more facts than before
module _ (old new : Table) (keeps : KeepsCells old new) (fewer : length (facts_of new) ≤ length (facts_of old)) where
  fits_in_old : length (facts_of new) ≤ used (cells_of old)
  fits_in_old = omega (arith, fewer, facts_long old, old.fits)

  pub same_used : used (cells_of new) ≡ used (cells_of old)
  same_used = grind (arith, common_steps)

  pub keeps_on : (last : Table) → KeepsCells new last → KeepsCells old last
  keeps_on last on = record {
    laid_out = on.laid_out ∙ ap (laid (facts_of last)) keeps.laid_out ∙ laid-laid (facts_of new) (cells_of old) fits_in_old (facts_of last);
    named = on.named ∙ keeps.named;
  }
