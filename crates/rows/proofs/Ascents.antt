-- Rows that ascend: how they are made, and that their members fix them.
use Rattle.std.proofs.Common.{◌≡◌, ℕ, suc, ◌<◌, ◌≤◌, Bool, false, List, [], ◌∷◌, ◌++◌, map, length, get_or, is_ok, Ok, Err, Decides, filter, Result, sym, refl, ap, ◌∙◌, subst, inl, inr, arith}
use Rattle.std.specs.List.{range_with_len, AllPairs, Contains}
use Rattle.std.proofs.lemmas.List.Kept.{AllPairs-cons, AllPairs-filter}
use Rattle.std.proofs.lemmas.List.Quantifiers.{all_pairs_push}
use Rattle.std.proofs.lemmas.List.FromFn.{length-range_with_len, get_or-range_with_len}
use Rattle.std.proofs.lemmas.List.Elements.{All-from_get_or, Contains-get_or, Contains-append_left, Contains-append_cases}
use Rattle.std.proofs.lemmas.List.{length-map, get_or-map, get_or_default}
use Rattle.std.proofs.lemmas.Bool.{both_ways, cases_lt}
use Rattle.rows.specs.Rows.{Ascending, Placed}
use Rattle.rows.proofs.Members.{has_none, has_head, has_tail, has_cases}

-- what stands no further back is no larger
pub ascending_up : (xs : List ℕ) → Ascending xs → (i j : ℕ) → i ≤ j → j < length xs → get_or xs i 0 ≤ get_or xs j 0
ascending_up xs up i j h k = elim (cases_lt i j) [
  | inl l ↦ omega (arith, up i j l k)
  | inr l ↦ let e : i ≡ j = omega arith in omega (arith, ap (λ n. get_or xs n 0) e)
]

pub ascending_none : Ascending []
ascending_none i j h k = absurd (omega arith)

-- what ascends, said with any default, as the library's lemmas do
pairs : (xs : List ℕ) → Ascending xs → AllPairs (λ x y. x < y) xs
pairs xs up i j d h k = omega (arith, up i j h k, get_or_default xs i 0 d (omega arith), get_or_default xs j 0 d k)

pub ascending_cons : (x : ℕ) (xs : List ℕ) → Ascending xs → ((c : ℕ) → Contains xs c → x < c) → Ascending (x ∷ xs)
ascending_cons x xs up above i j =
    AllPairs-cons (λ a b. a < b) x xs (All-from_get_or (λ c. x < c) xs 0 (λ k lt. above (get_or xs k 0) (Contains-get_or xs k 0 lt))) (pairs xs up) i j 0

pub ascending_tail : (x : ℕ) (xs : List ℕ) → Ascending (x ∷ xs) → Ascending xs
ascending_tail x xs up i j h k = up (suc i) (suc j) (omega arith) (omega arith)

pub ascending_head : (x : ℕ) (xs : List ℕ) → Ascending (x ∷ xs) → (c : ℕ) → Contains xs c → x < c
ascending_head x xs up c h = subst (λ y. x < y) (get_or_default xs h.0 0 c h.1 ∙ h.2) (up 0 (suc h.0) (omega arith) (omega (arith, h.1)))

-- two rows, one above the other
pub ascending_append : (xs ys : List ℕ) → Ascending xs → Ascending ys → ((x y : ℕ) → Contains xs x → Contains ys y → x < y) → Ascending (xs ++ ys)
ascending_append [] ys up vp apart = vp
ascending_append (x ∷ xs) ys up vp apart =
    ascending_cons x (xs ++ ys) (ascending_append xs ys (ascending_tail x xs up) vp (λ a b h k. apart a b (has_tail x xs h) k)) (λ c h. elim (Contains-append_cases xs ys _ h) [
      | inl l ↦ ascending_head x xs up c l
      | inr r ↦ apart x c (has_head x xs) r
    ])

pub ascending_front : (xs ys : List ℕ) → Ascending (xs ++ ys) → Ascending xs
ascending_front [] ys up = ascending_none
ascending_front (x ∷ xs) ys up = ascending_cons x xs (ascending_front xs ys (ascending_tail x (xs ++ ys) up)) (λ c h. ascending_head x (xs ++ ys) up c (Contains-append_left xs ys c h))

pub ascending_back : (xs ys : List ℕ) → Ascending (xs ++ ys) → Ascending ys
ascending_back [] ys up = up
ascending_back (x ∷ xs) ys up = ascending_back xs ys (ascending_tail x (xs ++ ys) up)

pub ascending_kept : (p : ℕ → Bool) (xs : List ℕ) → Ascending xs → Ascending (filter p xs)
ascending_kept p xs up i j = AllPairs-filter (λ a b. a < b) p xs (pairs xs up) i j 0

pub ascending_counting : (a n : ℕ) → Ascending (range_with_len a n)
ascending_counting a n i j h k =
    let m : length (range_with_len a n) ≡ n = length-range_with_len a n in
    omega (arith, get_or-range_with_len a n i 0 (omega arith), get_or-range_with_len a n j 0 (omega arith))

pub ascending_map : (f : ℕ → ℕ) → ((x y : ℕ) → x < y → f x < f y) → (xs : List ℕ) → Ascending xs → Ascending (map f xs)
ascending_map f rises xs up i j h k =
    let m : length (map f xs) ≡ length xs = length-map xs f in
    omega (arith, get_or-map f xs i 0 0 (omega arith), get_or-map f xs j 0 0 (omega arith), rises (get_or xs i 0) (get_or xs j 0) (up i j h (omega arith)))

-- a larger number at the end
pub ascending_push : (xs : List ℕ) (y : ℕ) → Ascending xs → ((c : ℕ) → Contains xs c → c < y) → Ascending (xs ++ (y ∷ []))
ascending_push xs y up below i j = all_pairs_push (λ a b. a < b) xs y (pairs xs up) (λ k d lt. below (get_or xs k d) (Contains-get_or xs k d lt)) i j 0

-- rows that ascend and have the same members are the same
pub same_rows : (xs ys : List ℕ) → Ascending xs → Ascending ys → ((c : ℕ) → Contains xs c → Contains ys c) → ((c : ℕ) → Contains ys c → Contains xs c) → xs ≡ ys
same_rows [] [] up vp to from = refl
same_rows [] (y ∷ ys) up vp to from = absurd (has_none (from y (has_head y ys)))
same_rows (x ∷ xs) [] up vp to from = absurd (has_none (to x (has_head x xs)))
same_rows (x ∷ xs) (y ∷ ys) up vp to from =
    let e : x ≡ y = elim (has_cases y ys (to x (has_head x xs))) [
      | inl q ↦ sym q
      | inr hx ↦ elim (has_cases x xs (from y (has_head y ys))) [
        | inl q ↦ q
        | inr hy ↦ absurd (omega (arith, ascending_head y ys vp x hx, ascending_head x xs up y hy))
      ]
    ] in
    let to' : (c : ℕ) → Contains xs c → Contains ys c = λ c h. elim (has_cases y ys (to c (has_tail x xs h))) [
      | inl q ↦ absurd (omega (arith, ascending_head x xs up c h, e, q))
      | inr r ↦ r
    ] in
    let from' : (c : ℕ) → Contains ys c → Contains xs c = λ c h. elim (has_cases x xs (from c (has_tail y ys h))) [
      | inl q ↦ absurd (omega (arith, ascending_head y ys vp c h, e, q))
      | inr r ↦ r
    ] in
    ap (λ z. z ∷ xs) e ∙ ap (λ zs. y ∷ zs) (same_rows xs ys (ascending_tail x xs up) (ascending_tail y ys vp) to' from')

-- a search tells whether a row has the number
pub placed_tells : (xs : List ℕ) (c : ℕ) (r : Result ℕ ℕ) → Placed xs c r → Decides (is_ok r) (Contains xs c)
placed_tells xs c (Ok i) found = ((λ e. subst (Contains xs) found.1 (Contains-get_or xs i 0 found.0)), λ h. refl)
placed_tells xs c (Err i) missing = (
  (λ e. absurd (both_ways false refl e)),
  λ h. absurd (elim (cases_lt h.0 i) [
    | inl l ↦ omega (arith, missing.1 h.0 l, get_or_default xs h.0 0 c h.1, h.2)
    | inr l ↦ omega (arith, missing.2 h.0 l h.1, get_or_default xs h.0 0 c h.1, h.2)
  ]),
)
