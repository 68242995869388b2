use Rattle.std.proofs.Common.{◌≡◌, ◌<◌, ◌∷◌, [], ◌++◌, Bool, true, false, length, get_or, ◌∙◌, subst, arith, of_calls, rules}
use Rattle.std.proofs.lemmas.List.{get_or_default}
use Rattle.std.specs.List.Retain.{ReturnsInTurn}
use Rattle.std.proofs.Retain.{retain_drops, retain_unvisited, answers_push}
use Rattle.rows.proofs.Gathering.{moved_to_front}
use Rattle.rows.proofs.gather.Goals.{then-test, else-test}
use Rattle.rows.proofs.gather.Goals as goal

pub loop-i-preserved : goal.loop-i-preserved
loop-i-preserved g c =
    let xs = c.args.row.now in
    let at = c.loop-i in
    let x = get_or at.row at.i 0 in
    let so_far = at.invariant.2 in
    let bs = so_far.0 in
    let within : at.i < length at.row = search rules in
    let read : x ≡ get_or xs (length bs) x = get_or_default at.row at.i 0 x within ∙ retain_unvisited bs xs at.row at.kept at.i x so_far.1 in
    let answered : (b : Bool) → c.test.result ≡ b → ReturnsInTurn (λ p y b q. goal.F-step g p y b q) c.args.test (bs ++ (b ∷ [])) xs c.test.new.self
    = λ b e. answers_push (λ p y b q. goal.F-step g p y b q) c.args.test at.test c.test.new.self bs xs x b
    (omega (arith, so_far.1.0)) read so_far.2 (subst (λ b. goal.F-step g at.test x b c.test.new.self) e c.test.ensures) in
    elim c.if-test.branch [
      | then-test w ↦ rw (w.row-is, w.kept-is) (
        omega arith,
        search of_calls,
        (bs ++ (true ∷ []), moved_to_front bs xs at.row at.kept at.i at.invariant.0 (omega arith) within so_far.1, answered true w.if-test.true),
      )
      | else-test w ↦ rw (w.row-is, w.kept-is) (
        omega arith,
        search of_calls,
        (bs ++ (false ∷ []), retain_drops bs xs at.row at.kept at.i so_far.1, answered false w.if-test.false),
      )
    ]
