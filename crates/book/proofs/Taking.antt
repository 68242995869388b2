-- What follows from a fact, taken one after another.
use Rattle.std.proofs.Common.{◌≡◌, ℕ, ◌+◌, ◌<◌, List, ◌∷◌, drop, Some, ap, ◌∙◌, arith}
use Rattle.std.specs.List.{slice_get}
use Rattle.std.proofs.lemmas.List.{drop_more}
use Rattle.std.proofs.lemmas.Option.{slice_get_within, get_or_from_slice_get}
use Rattle.book.specs.Meaning.{Meaning, Lawful}

-- the first of what is left
pub first_left : (xs : List ℕ) (k c : ℕ) → slice_get xs k ≡ Some c → drop k xs ≡ c ∷ drop (k + 1) xs
first_left xs k c e = drop_more xs k 0 (slice_get_within xs k c e) ∙ ap (λ x. x ∷ drop (k + 1) xs) (get_or_from_slice_get xs k c 0 e)

-- so few come that they can be counted in 64 bits
pub countable : (m : Meaning) (most : ℕ) → Lawful m most → (a k c : ℕ) → slice_get (m.consequences a) k ≡ Some c → k < 65536
countable m most law a k c e = omega (arith, slice_get_within (m.consequences a) k c e, law.at_most_follow a, law.most_is_small)
