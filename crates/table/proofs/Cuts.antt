-- How a row is cut at a number.
use Rattle.std.proofs.Common.{◌≡◌, ℕ, zero, suc, ◌<◌, ◌≤◌, ltb, ◌⊎◌, List, [], ◌∷◌, ◌++◌, length, take, drop, get_or, refl, ap, subst, inl, inr, arith}
use Rattle.std.specs.List.{Contains}
use Rattle.std.proofs.lemmas.List.Elements.{Contains-append_left, Contains-append_right, Contains-push, Contains-push_cases}
use Rattle.std.proofs.lemmas.Bool.{cases_lt, ltb-true, lt-ltb, le-ltb}
use Rattle.rows.specs.Rows.{Ascending}
use Rattle.rows.proofs.Ascents.{ascending_head, ascending_tail, ascending_kept, ascending_push, same_rows}
use Rattle.rows.proofs.Members.{has_none, has_cases, kept_has, has_kept}
use Rattle.table.specs.Descent.{lows, highs}

module _ (c : ℕ) (xs : List ℕ) where
  pub low_is : (x : ℕ) → Contains (lows c xs) x → Contains xs x × (x < c)
  low_is x h = let k = kept_has (λ y. ltb y c) xs x h in (k.0, ltb-true x c k.1)

  pub high_is : (x : ℕ) → Contains (highs c xs) x → Contains xs x × (c < x)
  high_is x h = let k = kept_has (ltb c) xs x h in (k.0, ltb-true c x k.1)

  pub is_low : (x : ℕ) → Contains xs x → x < c → Contains (lows c xs) x
  is_low x h l = has_kept (λ y. ltb y c) xs x h (lt-ltb x c l)

  -- a number is below c, c itself or above it
  pub cut_cases : (x : ℕ) → Contains xs x → Contains (lows c xs) x ⊎ ((c ≡ x) ⊎ Contains (highs c xs) x)
  cut_cases x h = elim (cases_lt x c) [
    | inl l ↦ inl (is_low x h l)
    | inr l ↦ inr (elim (cases_lt c x) [ inl n ↦ inr (has_kept (ltb c) xs x h (lt-ltb c x n)) | inr n ↦ inl (omega arith) ])
  ]

  module _ (up : Ascending xs) where
    pub lows_ascend : Ascending (lows c xs)
    lows_ascend = ascending_kept (λ y. ltb y c) xs up

    pub highs_ascend : Ascending (highs c xs)
    highs_ascend = ascending_kept (ltb c) xs up

    -- all of the row are below c
    pub all_low : ((x : ℕ) → Contains xs x → x < c) → xs ≡ lows c xs
    all_low low = same_rows xs (lows c xs) up lows_ascend (λ x h. is_low x h (low x h)) (λ x h. (low_is x h).0)

    -- c is the largest
    pub largest_last : Contains xs c → ((x : ℕ) → Contains xs x → x ≤ c) → xs ≡ lows c xs ++ (c ∷ [])
    largest_last has top =
        same_rows xs (lows c xs ++ (c ∷ [])) up (ascending_push (lows c xs) c lows_ascend (λ x h. (low_is x h).1))
        (λ x h. elim (cases_lt x c) [
          | inl l ↦ Contains-append_left (lows c xs) (c ∷ []) x (is_low x h l)
          | inr l ↦ let e : c ≡ x = omega (arith, top x h) in subst (Contains (lows c xs ++ (c ∷ []))) e (Contains-push (lows c xs) c)
        ])
        (λ x h. elim (Contains-push_cases (lows c xs) c x h) [ inl k ↦ (low_is x k).0 | inr e ↦ subst (Contains xs) e has ])

-- what stands further back is larger
pub parts_apart : (xs ys : List ℕ) → Ascending (xs ++ ys) → (x y : ℕ) → Contains xs x → Contains ys y → x < y
parts_apart [] ys up x y h k = absurd (has_none h)
parts_apart (z ∷ xs) ys up x y h k = elim (has_cases z xs h) [
  | inl e ↦ subst (λ w. w < y) e (ascending_head z (xs ++ ys) up y (Contains-append_right xs ys y k))
  | inr l ↦ parts_apart xs ys (ascending_tail z (xs ++ ys) up) x y l k
]

-- where the first n are below c, or the others above it
module _ (c : ℕ) where
  pub take_lows : (n : ℕ) (xs : List ℕ) → ((k : ℕ) → k < n → k < length xs → get_or xs k 0 < c) → ((k : ℕ) → n ≤ k → k < length xs → c ≤ get_or xs k 0) → take n xs ≡ lows c xs
  take_lows zero [] low high = refl
  take_lows (suc n) [] low high = refl
  take_lows zero (x ∷ xs) low high = rw (le-ltb x c (high 0 (omega arith) (omega arith))) (take_lows zero xs (λ k h. absurd (omega arith)) (λ k h l. high (suc k) (omega arith) (omega arith)))
  take_lows (suc n) (x ∷ xs) low high =
      rw (lt-ltb x c (low 0 (omega arith) (omega arith))) (ap (λ t. x ∷ t) (take_lows n xs (λ k h l. low (suc k) (omega arith) (omega arith)) (λ k h l. high (suc k) (omega arith) (omega arith))))

  pub drop_highs : (n : ℕ) (xs : List ℕ) → ((k : ℕ) → k < n → k < length xs → get_or xs k 0 ≤ c) → ((k : ℕ) → n ≤ k → k < length xs → c < get_or xs k 0) → drop n xs ≡ highs c xs
  drop_highs zero [] low high = refl
  drop_highs (suc n) [] low high = refl
  drop_highs zero (x ∷ xs) low high =
      rw (lt-ltb c x (high 0 (omega arith) (omega arith))) (ap (λ t. x ∷ t) (drop_highs zero xs (λ k h. absurd (omega arith)) (λ k h l. high (suc k) (omega arith) (omega arith))))
  drop_highs (suc n) (x ∷ xs) low high = rw (le-ltb c x (low 0 (omega arith) (omega arith))) (drop_highs n xs (λ k h l. low (suc k) (omega arith) (omega arith)) (λ k h l. high (suc k) (omega arith) (omega arith)))
