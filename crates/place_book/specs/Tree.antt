-- Lemmas on places that lie within others, and on the test of it.
use Rattle.std.specs.Prelude.{◌≡◌, ℕ, zero, suc, ◌<◌, ◌≤◌, true, ◌⊎◌, List, length, IsTrue, ◌↔◌, ◌==◌, nat_lt, slice_index, refl}
use Rattle.std.proofs.Common.{subst, inl, inr, arith}
use Rattle.std.proofs.lemmas.Bool.{eqb-true, eq-eqb, ltb-true, lt-ltb, or_cases, or_left, or_right, and_parts, and_from}
use Rattle.place_book.specs.Places.{ParentsAreSmaller, Within}
use Rattle.place_book.specs.Places.Within.{itself, parent}
use Rattle.place_book.specs.Meaning.{within_by, within}

pub within_trans : {ps : List ℕ} {p q r : ℕ} → Within ps p q → Within ps q r → Within ps p r
within_trans itself v = v
within_trans (parent h k u) v = parent h k (within_trans u v)

-- the place itself, or its parent
split : {ps : List ℕ} {s q : ℕ} → Within ps s q → (s ≡ q) ⊎ Within ps (slice_index ps s) q
split itself = inl refl
split (parent h k u) = inr u

-- the places around one place lie in a row
pub within_chain : {ps : List ℕ} {s p q : ℕ} → Within ps s p → Within ps s q → Within ps p q ⊎ Within ps q p
within_chain itself v = inl v
within_chain {ps} {s} {p} {q} (parent h k u) v = elim (split v) [
  | inl e ↦ inr (subst (λ x. Within ps x p) e (parent h k u))
  | inr w ↦ within_chain u w
]

module _ (ps : List ℕ) (smaller : ParentsAreSmaller ps) where
  pub within_le : {p q : ℕ} → Within ps p q → q ≤ p
  within_le itself = omega arith
  within_le {p} (parent h k u) = omega (arith, smaller p h k, within_le u)

  -- above the place itself there are the places around its parent, and no others
  pub within_up : {p q : ℕ} → Within ps p q → q < p → Within ps (slice_index ps p) q
  within_up {p} {q} u lt = elim (split u) [ inl e ↦ absurd (omega arith) | inr w ↦ w ]

  sound : (n p q : ℕ) → p < length ps → within_by ps n p q ≡ true → Within ps p q
  sound zero p q k e = subst (Within ps p) (eqb-true p q e) itself
  sound (suc n) p q k e = elim (or_cases (p == q) _ e) [
    | inl t ↦ subst (Within ps p) (eqb-true p q t) itself
    | inr r ↦
        let both = and_parts (nat_lt 0 p) _ r in
        let h = ltb-true 0 p both.0 in
        parent h k (sound n (slice_index ps p) q (omega (arith, smaller p h k)) both.1)
  ]

  whole : (n : ℕ) {p q : ℕ} → Within ps p q → p ≤ n → within_by ps n p q ≡ true
  whole zero {p} itself le = eq-eqb p p refl
  whole (suc n) {p} itself le = or_left (p == p) _ (eq-eqb p p refl)
  whole zero (parent h k u) le = absurd (omega arith)
  whole (suc n) {p} {q} (parent h k u) le = or_right (p == q) _ (and_from (nat_lt 0 p) _ (lt-ltb 0 p h) (whole n u (omega (arith, smaller p h k))))

  pub within_tells : (p q : ℕ) → p < length ps → IsTrue (within ps p q) ↔ Within ps p q
  within_tells p q k = (sound p p q k, λ u. whole p u (omega arith))
