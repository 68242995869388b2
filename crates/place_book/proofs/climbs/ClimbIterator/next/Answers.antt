use Rattle.std.proofs.Common.{length, sym, ap, ◌∙◌, arith, inl, ◌≡◌, ◌<◌}
use Rattle.std.specs.Prelude.{slice_index}
use Rattle.place_book.specs.View.{parents_of}
use Rattle.place_book.specs.Places.{ParentOf}
use Rattle.place_book.specs.Climbs.{climb_from}
use Rattle.place_book.proofs.Around.{climb_on}
use Rattle.place_book.proofs.climbs.ClimbIterator.next.Goals.{then-place-gt0, else-place-gt0}
use Rattle.place_book.proofs.climbs.ClimbIterator.next.Goals as goal

pub returns-clause-steps : goal.returns-clause-steps
returns-clause-steps c =
    let s = c.self.inside in
    let ps = parents_of s.book.now in
    let here = c.in_ok-place.was in
    let place = c.in_ok-place.place in
    let stands : place < length ps = c.self.invariant place here in
    let up : ParentOf ps place c.if-place-gt0.self = elim c.if-place-gt0.branch [
      | then-place-gt0 w ↦
          let is : w.from.result ≡ slice_index ps place = w.from.ensures ∙ ap (λ l. slice_index l place) w.as_slice.ensures.value in
          rw w.self-is (w.if-place-gt0.true, stands, is, omega (arith, is, s.book.now.smaller place w.if-place-gt0.true stands))
      | else-place-gt0 w ↦ rw w.self-is (inl (omega (arith, w.if-place-gt0.false)))
    ] in
    sym c.self.view_is ∙ ap (climb_from ps) here ∙ climb_on ps s.book.now.smaller place c.if-place-gt0.self stands up

pub returns-clause-goes : goal.returns-clause-goes
returns-clause-goes c = record { on = λ _. (tt, tt, omega (arith, ap length (returns-clause-steps c))); keeps = tt; rests = λ _. tt }
