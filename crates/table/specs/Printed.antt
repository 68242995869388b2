-- How refusals and answers are printed, as `refused 6 257`, `refused 8 0 1` and `ok 1 2`.
use Rattle.std.specs.Prelude.{ℕ, true, false, List, [], ◌∷◌, ◌++◌, Some, None, Ok, Err, codes, decimal, Result}
use Rattle.table.specs.declared.refusals.Refusal.{Refusal}
use Rattle.table.specs.declared.journal.Answer.{Answer}
use Rattle.table.specs.declared.journal.Answer.TheVariants.{Changed, Number, Held, Fact}
use Rattle.table.specs.Refusals.{number_of, returned_by}

-- each number with a space before it
abbrev pub spaced : List ℕ → List ℕ
spaced [] = []
spaced (n ∷ ns) = codes " " ++ (decimal n ++ spaced ns)

abbrev pub refusal_text : Refusal → List ℕ
refusal_text e = codes "refused" ++ spaced (number_of e ∷ returned_by e)

-- what a delivery or a withdrawal answers: the numbers of facts gone and come, as `ok 1 2`, or the refusal
abbrev pub changed_text : Result (ℕ × ℕ) Refusal → List ℕ
changed_text (Ok counts) = codes "ok " ++ (decimal counts.0 ++ (codes " " ++ decimal counts.1))
changed_text (Err e) = refusal_text e

-- what a call of a journal answers; to a question a number, `yes` or `no`, or a code or `none`
abbrev pub answer_text : Answer → List ℕ
answer_text (Changed r) = changed_text r
answer_text (Number n) = decimal n
answer_text (Held true) = codes "yes"
answer_text (Held false) = codes "no"
answer_text (Fact (Some c)) = decimal c
answer_text (Fact None) = codes "none"
