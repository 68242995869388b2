-- One code finds its place in a row: what the block move and the write leave.
use Rattle.std.proofs.Common.{◌≡◌, ℕ, ◌+◌, ◌-◌, ◌<◌, ◌≤◌, false, List, ◌∷◌, ◌++◌, length, take, drop, set, Ok, Err, sym, refl, ap, ◌∙◌, inl, inr, arith}
use lib.Seq.{paste}
use Rattle.std.specs.List.{Contains}
use Rattle.std.proofs.lemmas.List.{append_assoc, length-take-le, length-append, take-take, take-set-le, take-append-le, drop-set, drop_at}
use Rattle.std.proofs.lemmas.Slice.{between_is}
use Rattle.std.proofs.lemmas.Bool.{both_ways}
use Rattle.rows.specs.Rows.{Ascending, Placed}
use Rattle.rows.proofs.Ascents.{ascending_up, placed_tells}
use Rattle.table.specs.Checks.{Around, Placing}
use Rattle.table.proofs.Cuts.{take_lows, drop_highs}

-- what a search in a row finds
pub around_found : (row : List ℕ) (code at : ℕ) → Ascending row → Placed row code (Ok at) → Around row code at (at + 1)
around_found row code at up found = record {
  within = omega (arith, found.0);
  below = take_lows code at row (λ k h l. omega (arith, up k at h found.0, found.1)) (λ k h l. omega (arith, ascending_up row up at k h l, found.1));
  beyond = drop_highs code (at + 1) row (λ k h l. omega (arith, ascending_up row up k at (omega arith) found.0, found.1)) (λ k h l. omega (arith, up at k (omega arith) l, found.1));
  between = inr (refl, (placed_tells row code (Ok at) found).0 refl);
}

pub around_missing : (row : List ℕ) (code at : ℕ) → Placed row code (Err at) → Around row code at at
around_missing row code at missing = record {
  within = missing.0;
  below = take_lows code at row (λ k h l. missing.1 k h) (λ k h l. omega (arith, missing.2 k h l));
  beyond = drop_highs code at row (λ k h l. omega (arith, missing.1 k h)) missing.2;
  between = inl (refl, λ h. both_ways false refl ((placed_tells row code (Err at) missing).1 h));
}

module _ (old : List ℕ) (below top code stay above : ℕ) (within : top ≤ length old) (behind : below ≤ top) (around : Around (take below old) code stay above) where
  above_within : above ≤ below
  above_within = omega (arith, around.within, length-take-le below old (omega arith))

  stay_within : stay ≤ below
  stay_within = elim around.between [ inl e ↦ omega (arith, above_within, e.0) | inr e ↦ omega (arith, above_within, e.0) ]

  -- where what is above the code moves to
  abbrev free : ℕ
  free = top - (below - above)

  abbrev moved : List ℕ
  moved = paste old free (drop above old) (below - above)

  moved_parts : moved ≡ take free old ++ (drop above (take below old) ++ drop top old)
  moved_parts =
      let e : free + (below - above) ≡ top = omega (arith, above_within) in
      append_assoc (take free old) (take (below - above) (drop above old)) (drop (free + (below - above)) old)
      ∙ ap (λ t. take free old ++ (t ++ drop (free + (below - above)) old)) (between_is old above below)
      ∙ ap (λ n. take free old ++ (drop above (take below old) ++ drop n old)) e

  free_long : length (take free old) ≡ free
  free_long = length-take-le free old (omega arith)

  -- the code has room before what moves up, and is written there
  pub placing : ((Contains (take below old) code → ⊥) → below < top) → Placing old (set moved (free - 1) code) below top code stay (free - 1)
  placing room =
      let some : stay < free = elim around.between [ inl e ↦ omega (arith, above_within, e.0, room e.1) | inr e ↦ omega (arith, above_within, e.0) ] in
      let one : free - 1 + 1 ≡ free = omega arith in
      let whole = ap length moved_parts ∙ length-append (take free old) (drop above (take below old) ++ drop top old) in
      record {
        front =
            take-set-le stay moved (free - 1) code (omega arith) ∙ ap (take stay) moved_parts ∙ take-append-le stay (take free old) _ (omega (arith, free_long)) ∙ take-take stay free old (omega arith)
            ∙ sym (take-take stay below old stay_within) ∙ around.below;
        back =
            drop-set moved (free - 1) code (omega (arith, whole, free_long)) ∙ ap (λ n. code ∷ drop n moved) one ∙ ap (λ t. code ∷ drop free t) moved_parts
            ∙ ap (λ t. code ∷ t) (drop_at (take free old) _ free free_long) ∙ ap (λ t. code ∷ (t ++ drop top old)) around.beyond;
        gap = elim around.between [ inl e ↦ inr (e.1, omega (arith, above_within, e.0)) | inr e ↦ inl (e.1, omega (arith, above_within, e.0)) ];
      }
