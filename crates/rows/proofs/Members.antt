-- Members of a list, by its places and by how the list is made.
use Rattle.std.proofs.Common.{◌≡◌, ℕ, zero, suc, ◌+◌, ◌-◌, ◌<◌, ◌≤◌, Bool, true, ◌⊎◌, List, [], ◌∷◌, map, length, get_or, filter, sym, refl, ap, ◌∙◌, subst, inl, inr, arith}
use Rattle.std.specs.List.{range_with_len, Contains}
use Rattle.std.proofs.lemmas.List.FromFn.{length-range_with_len, get_or-range_with_len}
use Rattle.std.proofs.lemmas.List.Elements.{All-contains, All-from_get_or, All-contains_itself, All-filter, filter_passes, Contains-get_or}
use Rattle.std.proofs.lemmas.List.{length-map, get_or-map}
use Rattle.std.proofs.lemmas.Bool.{cases_Bool, both_ways}

-- what holds at each place holds of each member
pub each_member : (P : ℕ → Type 0) (xs : List ℕ) → ((k : ℕ) → k < length xs → P (get_or xs k 0)) → (c : ℕ) → Contains xs c → P c
each_member P xs each c h = All-contains P xs c (All-from_get_or P xs 0 each) h

pub has_none : {c : ℕ} → Contains [] c → ⊥
has_none h = omega (arith, h.1)

pub has_head : (x : ℕ) (xs : List ℕ) → Contains (x ∷ xs) x
has_head x xs = (0, omega arith, refl)

pub has_tail : {c : ℕ} (x : ℕ) (xs : List ℕ) → Contains xs c → Contains (x ∷ xs) c
has_tail x xs h = (suc h.0, omega (arith, h.1), h.2)

has_at : (x c : ℕ) (xs : List ℕ) (k : ℕ) → k < suc (length xs) → get_or (x ∷ xs) k c ≡ c → (x ≡ c) ⊎ Contains xs c
has_at x c xs zero h at = inl at
has_at x c xs (suc k) h at = inr (k, omega arith, at)

pub has_cases : {c : ℕ} (x : ℕ) (xs : List ℕ) → Contains (x ∷ xs) c → (x ≡ c) ⊎ Contains xs c
has_cases {c} x xs h = has_at x c xs h.0 h.1 h.2

pub has_one : {c : ℕ} (x : ℕ) → Contains (x ∷ []) c → x ≡ c
has_one x h = elim (has_cases x [] h) [ inl e ↦ e | inr r ↦ absurd (has_none r) ]

module _ (p : ℕ → Bool) where
  pub kept_has : (xs : List ℕ) (c : ℕ) → Contains (filter p xs) c → Contains xs c × (p c ≡ true)
  kept_has xs c h = (All-contains (Contains xs) (filter p xs) c (All-filter p (Contains xs) xs (All-contains_itself xs)) h, All-contains (λ x. p x ≡ true) (filter p xs) c (filter_passes p xs) h)

  pub has_kept : (xs : List ℕ) (c : ℕ) → Contains xs c → p c ≡ true → Contains (filter p xs) c
  has_kept [] c h e = absurd (has_none h)
  has_kept (x ∷ xs) c h e = elim (cases_Bool (p x)) [
    | inl t ↦ rw t (elim (has_cases x xs h) [ inl q ↦ subst (λ y. Contains (x ∷ filter p xs) y) q (has_head x (filter p xs)) | inr r ↦ has_tail x (filter p xs) (has_kept xs c r e) ])
    | inr f ↦ rw f (elim (has_cases x xs h) [ inl q ↦ absurd (both_ways (p x) f (ap p q ∙ e)) | inr r ↦ has_kept xs c r e ])
  ]

module _ (f : ℕ → ℕ) where
  pub map_has : (xs : List ℕ) (c : ℕ) → Contains (map f xs) c → (x : ℕ) × Contains xs x × (f x ≡ c)
  map_has xs c h =
      let k : h.0 < length xs = omega (arith, h.1, length-map xs f) in
      (get_or xs h.0 0, Contains-get_or xs h.0 0 k, sym (get_or-map f xs h.0 0 c k) ∙ h.2)

  pub has_map : (xs : List ℕ) (x : ℕ) → Contains xs x → Contains (map f xs) (f x)
  has_map xs x h =
      (h.0, omega (arith, h.1, length-map xs f), get_or-map f xs h.0 x (f x) h.1 ∙ ap f h.2)

pub has_counting : (a n c : ℕ) → a ≤ c → c < a + n → Contains (range_with_len a n) c
has_counting a n c low high =
    let k : c - a < n = omega arith in
    (c - a, omega (arith, length-range_with_len a n), get_or-range_with_len a n (c - a) c k ∙ omega arith)
