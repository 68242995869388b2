-- Lines of facts.
use Rattle.std.proofs.Common.{◌≡◌, ℕ, List, [], ◌∷◌, ◌++◌, decimal, string_bytes, String, Result, IfOk, Option, sym, refl, ap, ◌∙◌}
use Rattle.std.specs.Iterator.{Drains}
use Rattle.std.proofs.lemmas.Iterator.{YieldsList, items_from_drains}
use Rattle.std.proofs.lemmas.List.{append_assoc, map-id}
use Rattle.std.proofs.lemmas.Result.{IfOk-weaker}
use Rattle.console.specs.Lines.{fact_lines, listing_text}

fact_lines-push : (cs : List ℕ) (c : ℕ) → fact_lines (cs ++ c ∷ []) ≡ fact_lines cs ++ (decimal c ++ 10 ∷ [])
fact_lines-push [] c = refl
fact_lines-push (b ∷ cs) c = ap (λ (t : List ℕ). decimal b ++ (10 ∷ t)) (fact_lines-push cs c) ∙ sym (append_assoc (decimal b) (10 ∷ fact_lines cs) (decimal c ++ 10 ∷ []))

-- one line more is written
pub line_more : (cs : List ℕ) (c : ℕ) (old new : List ℕ) → old ≡ fact_lines cs → new ≡ old ++ (decimal c ++ 10 ∷ []) → new ≡ fact_lines (cs ++ c ∷ [])
line_more cs c old new was is = is ∙ ap (λ (t : List ℕ). t ++ (decimal c ++ 10 ∷ [])) was ∙ sym (fact_lines-push cs c)

-- an iterator that gives the facts `all` is listed as these
pub listing_of : {S Z E : Type 0} {steps : S → Option ℕ → S → Type 0} {s : S} {all : List ℕ} (r : Result (String Z) E)
    → IfOk r (λ out. (codes : List ℕ) × Drains steps s codes × (string_bytes out ≡ listing_text codes)) → YieldsList steps (λ x. x) s all → IfOk r (λ out. string_bytes out ≡ listing_text all)
listing_of r h gives = IfOk-weaker r _ _ (λ out k. k.2 ∙ ap listing_text (sym (map-id k.0) ∙ items_from_drains k.0 (k.1.1.0, k.1.1.1, λ _. (k.1.0, k.1.1.2)) gives)) h
