use Rattle.std.proofs.Common.{◌≡◌, ◌<◌, ap, ◌∙◌, arith, length}
use Rattle.std.specs.Prelude.{slice_index}
use Rattle.std.proofs.lemmas.Bool.Decides.{Decides-like}
use Rattle.place_book.specs.View.{parents_of}
use Rattle.place_book.proofs.Climbing.{climb_step, climb_end}
use Rattle.place_book.proofs.answers.PlaceBook.is_within.Goals as goal

pub loop-at-preserved : goal.loop-at-preserved
loop-at-preserved c =
    let b = c.args.self.now in
    let ps = parents_of b in
    let at = c.loop-at.at in
    let inv = c.loop-at.invariant in
    let is : c.from-at.result ≡ slice_index ps at = c.from-at.ensures ∙ ap (λ l. slice_index l at) c.as_slice.ensures.value in
    let step = climb_step ps b.smaller at c.from-at.result c.args.outer is (omega (arith, c.loop-at-test.true)) inv.0 in
    (omega (arith, is, inv.0, b.smaller at (omega (arith, c.loop-at-test.true)) inv.0), ((λ u. inv.1.0 (step.0 u)), λ u. step.1 (inv.1.1 u)))

pub returns : goal.returns
returns c =
    let b = c.args.self.now in
    let inv = c.loop-at.invariant in
    let stands : c.args.place < length (parents_of b) = omega (arith, c.if-place-place_count.false, c.place_count.ensures.number) in
    Decides-like _ (λ u. (stands, inv.1.0 u)) (λ w. inv.1.1 w.1) (climb_end (parents_of b) b.smaller c.loop-at.at c.args.outer (omega (arith, c.loop-at-test.false)))
