-- One number more is moved to the front of those that a test passed.
use Rattle.std.proofs.Common.{ℕ, ◌+◌, ◌<◌, ◌≤◌, Bool, true, List, [], ◌∷◌, ◌++◌, length, get_or, set, sym, ap, ◌∙◌, arith}
use Rattle.std.proofs.lemmas.List.{length-append, take_more_set, drop-set-lt}
use Rattle.std.specs.List.{items_where_true}
use Rattle.std.proofs.Retain.{RetainInvariant, retain_drops, retain_unvisited, picked_push_true}

pub moved_to_front : (bs : List Bool) (xs ys : List ℕ) (k i : ℕ) → k ≤ i → i < length xs → i < length ys → RetainInvariant bs xs ys k i
    → RetainInvariant (bs ++ (true ∷ [])) xs (set ys k (get_or ys i 0)) (k + 1) (i + 1)
moved_to_front bs xs ys k i le in_xs in_ys h =
    let x = get_or ys i 0 in
    let rest = retain_drops bs xs ys k i h in (
      length-append bs (true ∷ []) ∙ ap (λ j. j + 1) h.0,
      (
        take_more_set ys k x (omega arith) ∙ ap (λ t. t ++ (x ∷ [])) h.1.0 ∙ ap (λ z. items_where_true bs xs ++ (z ∷ [])) (retain_unvisited bs xs ys k i 0 h) ∙ sym (picked_push_true bs xs 0 (omega arith)),
        drop-set-lt (i + 1) ys k x (omega arith) ∙ rest.1.1,
      ),
    )
