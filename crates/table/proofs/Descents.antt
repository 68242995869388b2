-- How a descent takes the largest code that is still to come.
use Rattle.std.proofs.Common.{◌≡◌, ℕ, suc, ◌+◌, ◌-◌, ◌⊎◌, Bool, not, eqb, filter, ◌<◌, ◌≤◌, ltb, max, List, [], ◌∷◌, ◌++◌, length, take, drop, get_or, reverse, Some, None, Option, fold, sym, refl, ap, ◌∙◌, subst, inl, inr, arith}
use Rattle.std.specs.List.{Contains, All, flat_map, filter_map, cons_option, reduce, slice_get, list_any}
use Rattle.std.proofs.lemmas.List.Elements.{Contains-append_left, Contains-append_right, Contains-append_cases, Contains-get_or, All-head, All-tail, filter-append}
use Rattle.std.proofs.lemmas.List.{append-nil, get_or_default, reverse-append, reverse-reverse, length_push, length-take-le, take-append-drop, take-take, take_at}
use Rattle.std.proofs.lemmas.Option.{slice_get-get_or}
use Rattle.std.proofs.lemmas.Bool.{cases_lt, both_ways, not-true, not_from_false, false_from_ne_true}
use Rattle.std.proofs.lemmas.List.Filters.{length-filter_both}
use Rattle.rows.specs.Rows.{Ascending, RowOf}
use Rattle.rows.proofs.Ascents.{ascending_up, ascending_none, ascending_cons, ascending_append, ascending_front, ascending_kept, same_rows}
use Rattle.rows.proofs.Members.{has_none, has_head, has_tail, has_cases, kept_has, has_kept}
use Rattle.book.specs.Meaning.{Meaning, Lawful, FollowsFromOne}
use Rattle.table.specs.Descent.{row_left, to_come, IsInPlace, Largest, lows, highs, row_of, codes_left}
use Rattle.table.specs.declared.descent.Cursor.{Cursor}
use Rattle.table.proofs.Tests.{has_tells}
use Rattle.table.proofs.Few.{has_flat_map, flat_map_has}
use Rattle.table.proofs.Cuts.{low_is, high_is, is_low, cut_cases, lows_ascend, highs_ascend, all_low, largest_last}

-- the row of a list has its members
row_of_is : (xs : List ℕ) → RowOf (Contains xs) (row_of xs)
row_of_is [] = record { ascends = ascending_none; members = λ c. (λ h. h, λ h. h) }
row_of_is (x ∷ xs) =
    let row = row_of xs in
    let r = row_of_is xs in
    record {
      ascends = ascending_append (lows x row) (x ∷ highs x row) (lows_ascend x row r.ascends) (ascending_cons x (highs x row) (highs_ascend x row r.ascends) (λ c h. (high_is x row c h).1))
          (λ c d h k. elim (has_cases x (highs x row) k) [ inl e ↦ omega (arith, (low_is x row c h).1) | inr l ↦ omega (arith, (low_is x row c h).1, (high_is x row d l).1) ]);
      members = λ c. (
        λ h. elim (Contains-append_cases (lows x row) (x ∷ highs x row) c h) [
          | inl k ↦ has_tail x xs ((r.members c).0 (low_is x row c k).0)
          | inr k ↦ elim (has_cases x (highs x row) k) [ inl e ↦ subst (Contains (x ∷ xs)) e (has_head x xs) | inr l ↦ has_tail x xs ((r.members c).0 (high_is x row c l).0) ]
        ],
        λ h. elim (has_cases x xs h) [
          | inl e ↦ Contains-append_right (lows x row) (x ∷ highs x row) c (subst (Contains (x ∷ highs x row)) e (has_head x (highs x row)))
          | inr k ↦ elim (cut_cases x row c ((r.members c).1 k)) [
            | inl l ↦ Contains-append_left (lows x row) (x ∷ highs x row) c l
            | inr n ↦ Contains-append_right (lows x row) (x ∷ highs x row) c (elim n [ inl e ↦ subst (Contains (x ∷ highs x row)) e (has_head x (highs x row)) | inr g ↦ has_tail x (highs x row) g ])
          ]
        ],
      );
    }

-- two rows that share no number, as one
pub row_of_both : (xs ys : List ℕ) → Ascending xs → Ascending ys → ((c : ℕ) → Contains xs c → Contains ys c → ⊥) → (zs : List ℕ) × RowOf (λ c. Contains xs c ⊎ Contains ys c) zs × (length zs ≡ length xs + length ys)
row_of_both xs ys up vp apart =
    let zs = row_of (xs ++ ys) in
    let r = row_of_is (xs ++ ys) in
    let p : ℕ → Bool = λ c. list_any (eqb c) xs in
    let q : ℕ → Bool = λ c. not (p c) in
    let from : (c : ℕ) → Contains zs c → Contains xs c ⊎ Contains ys c = λ c h. Contains-append_cases xs ys c ((r.members c).0 h) in
    let of_xs : (c : ℕ) → Contains xs c → Contains zs c = λ c h. (r.members c).1 (Contains-append_left xs ys c h) in
    let of_ys : (c : ℕ) → Contains ys c → Contains zs c = λ c h. (r.members c).1 (Contains-append_right xs ys c h) in
    let first : filter p zs ≡ xs = same_rows (filter p zs) xs (ascending_kept p zs r.ascends) up
    (λ c h. (has_tells c xs).0 (kept_has p zs c h).1)
    (λ c h. has_kept p zs c (of_xs c h) ((has_tells c xs).1 h)) in
    let second : filter q zs ≡ ys = same_rows (filter q zs) ys (ascending_kept q zs r.ascends) vp
    (λ c h. let k = kept_has q zs c h in elim (from c k.0) [ inl a ↦ absurd (both_ways (p c) (not-true (p c) k.1) ((has_tells c xs).1 a)) | inr b ↦ b ])
    (λ c h. has_kept q zs c (of_ys c h) (not_from_false (p c) (false_from_ne_true (p c) (λ e. apart c ((has_tells c xs).0 e) h)))) in (
      zs,
      record { ascends = r.ascends; members = λ c. (from c, λ h. elim h [ inl a ↦ of_xs c a | inr b ↦ of_ys c b ]) },
      omega (arith, length-filter_both p q (λ _. refl) zs, ap length first, ap length second),
    )

-- of a row, what is below c is the row of what is below c
lows-row_of : (c : ℕ) (xs : List ℕ) → lows c (row_of xs) ≡ row_of (lows c xs)
lows-row_of c xs =
    let all = row_of_is xs in
    let part = row_of_is (lows c xs) in
    same_rows (lows c (row_of xs)) (row_of (lows c xs)) (lows_ascend c (row_of xs) all.ascends) part.ascends
    (λ x h. let k = low_is c (row_of xs) x h in (part.members x).1 (is_low c xs x ((all.members x).0 k.0) k.1))
    (λ x h. let k = low_is c xs x ((part.members x).0 h) in is_low c (row_of xs) x ((all.members x).1 k.0) k.1)

-- from the largest down, the largest of a list comes first, and then those below it
pub largest_first : (xs : List ℕ) (c : ℕ) → Largest xs (Some c) → reverse (row_of xs) ≡ c ∷ reverse (row_of (lows c xs))
largest_first xs c l =
    let row = row_of_is xs in
    ap reverse (largest_last c (row_of xs) row.ascends ((row.members c).1 l.0) (λ d h. l.1 d ((row.members d).0 h)))
    ∙ reverse-append (lows c (row_of xs)) (c ∷ []) ∙ ap (λ t. c ∷ reverse t) (lows-row_of c xs)

-- the larger of two numbers, where they are there
larger : Option ℕ → Option ℕ → Option ℕ
larger None o = o
larger (Some a) None = Some a
larger (Some a) (Some b) = Some (max a b)

fold-max : (a b : ℕ) (xs : List ℕ) → fold max (max a b) xs ≡ max a (fold max b xs)
fold-max a b [] = refl
fold-max a b (x ∷ xs) = let e : max (max a b) x ≡ max a (max b x) = omega arith in ap (λ y. fold max y xs) e ∙ fold-max a (max b x) xs

reduce-max : (o : Option ℕ) (xs : List ℕ) → reduce max (cons_option o xs) ≡ larger o (reduce max xs)
unfolding larger
reduce-max None xs = refl
reduce-max (Some a) [] = refl
reduce-max (Some a) (b ∷ xs) = ap Some (fold-max a b xs)

-- the largest of two lists
largest-append : (xs ys : List ℕ) (o p : Option ℕ) → Largest xs o → Largest ys p → Largest (xs ++ ys) (larger o p)
unfolding larger
largest-append xs ys None p l k = rw l k
largest-append xs ys (Some a) None l k = rw (k, append-nil) l
largest-append xs ys (Some a) (Some b) l k = (
  elim (cases_lt a b) [
    | inl n ↦ let e : b ≡ max a b = omega arith in subst (Contains (xs ++ ys)) e (Contains-append_right xs ys b k.0)
    | inr n ↦ let e : a ≡ max a b = omega arith in subst (Contains (xs ++ ys)) e (Contains-append_left xs ys a l.0)
  ],
  λ d h. elim (Contains-append_cases xs ys d h) [ inl n ↦ omega (arith, l.1 d n) | inr n ↦ omega (arith, k.1 d n) ],
)

-- the last of a row is its largest
last_largest : (xs : List ℕ) → Ascending xs → Largest xs (slice_get xs (length xs - 1))
last_largest [] up = refl
last_largest (x ∷ xs) up =
    let k = length (x ∷ xs) - 1 in
    let last = slice_get-get_or (x ∷ xs) k 0 (omega arith) in
    rw last (Contains-get_or (x ∷ xs) k 0 (omega arith), λ d h. omega (arith, ascending_up (x ∷ xs) up h.0 k (omega (arith, h.1)) (omega arith), get_or_default (x ∷ xs) h.0 0 d h.1, h.2))

module _ {m : Meaning} {most : ℕ} (law : Lawful m most) where
  module _ (q : Cursor) (at : IsInPlace m q) where
    long : length (row_left m q) ≡ q.left
    long = length-take-le q.left (m.consequences q.fact) at.within

    row_ascends : Ascending (row_left m q)
    row_ascends = ascending_front (row_left m q) (drop q.left (m.consequences q.fact)) (rw take-append-drop (law.consequences_ascend q.fact))

    -- the head is the largest that is left
    head_largest : Largest (row_left m q) q.head
    head_largest = let e = at.head_is ∙ ap (λ n. slice_get (row_left m q) (n - 1)) (sym long) in rw e (last_largest (row_left m q) row_ascends)

    -- the head is the code: one fewer is left
    pub passed : (code : ℕ) → q.head ≡ Some code → take (q.left - 1) (m.consequences q.fact) ≡ lows code (row_left m q)
    passed code e =
        let l : Largest (row_left m q) (Some code) = rw e at head_largest in
        let parts = largest_last code (row_left m q) row_ascends l.0 l.1 in
        sym (take-take (q.left - 1) q.left (m.consequences q.fact) (omega arith)) ∙ ap (take (q.left - 1)) parts
        ∙ take_at (lows code (row_left m q)) (code ∷ []) (q.left - 1) (omega (arith, long, ap length parts, length_push (lows code (row_left m q)) code))

    -- it is not
    pub stays : (code : ℕ) → ((d : ℕ) → Contains (row_left m q) d → d ≤ code) → (q.head ≡ Some code → ⊥) → row_left m q ≡ lows code (row_left m q)
    stays code top other = all_low code (row_left m q) row_ascends (λ d h.
        elim q.head as (λ o. q.head ≡ o → Largest (row_left m q) o → d < code) [
          | None ↦ λ e l. absurd (has_none (rw l at h))
          | Some b ↦ λ e l. elim (cases_lt b code) [
            | inl n ↦ omega (arith, l.1 d h)
            | inr n ↦ let i : b ≡ code = omega (arith, top b l.0) in absurd (other (e ∙ ap Some i))
          ]
        ] refl head_largest)

  -- the largest head is the largest code that is left
  pub largest_left : (qs : List Cursor) → All (IsInPlace m) qs → Largest (to_come m qs) (reduce max (filter_map (λ q. q.head) qs))
  largest_left [] at = refl
  largest_left (q ∷ qs) at =
      rw reduce-max (largest-append (row_left m q) (to_come m qs) q.head _ (head_largest q (All-head (IsInPlace m) q qs at)) (largest_left qs (All-tail (IsInPlace m) q qs at)))

module _ (m : Meaning) where
  -- each cursor has passed the code
  pub all_passed : (code : ℕ) (qs ts : List Cursor) → length ts ≡ length qs → ((k : ℕ) (d : Cursor) → k < length qs → row_left m (get_or ts k d) ≡ lows code (row_left m (get_or qs k d)))
      → to_come m ts ≡ lows code (to_come m qs)
  all_passed code [] [] e each = refl
  all_passed code [] (t ∷ ts) e each = absurd (omega arith)
  all_passed code (q ∷ qs) [] e each = absurd (omega arith)
  all_passed code (q ∷ qs) (t ∷ ts) e each =
      ap (λ r. r ++ to_come m ts) (each 0 q (omega arith)) ∙ ap (λ r. lows code (row_left m q) ++ r) (all_passed code qs ts (omega arith) (λ k d h. each (suc k) d (omega arith)))
      ∙ sym (filter-append (λ x. ltb x code) (row_left m q) (to_come m qs))

  -- of all that follows from a list, nothing has been taken yet
  pub all_to_come : (list : List ℕ) (qs : List Cursor) → to_come m qs ≡ flat_map m.consequences list → RowOf (FollowsFromOne m list) (reverse (codes_left m qs))
  all_to_come list qs all =
      let row = row_of_is (to_come m qs) in
      rw reverse-reverse (record {
        ascends = row.ascends;
        members = λ c. (
          λ h. flat_map_has m.consequences list c (rw all at ((row.members c).0 h)),
          λ f. (row.members c).1 (rw all (has_flat_map m.consequences list f.0 c f.1 f.2)),
        );
      })
