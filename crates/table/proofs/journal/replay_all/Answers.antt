use Rattle.std.proofs.Common.{refl, ◌∙◌, inl, inr, arith}
use Rattle.std.proofs.lemmas.List.{get_or_default}
use Rattle.table.proofs.Journals.{replaying_start, replaying_more, replayed}
use Rattle.table.proofs.journal.replay_all.Goals as goal
use Rattle.table.proofs.journal.replay_all.Goals.{then-i-answers, else-i-answers}

pub loop-i-init : goal.loop-i-init
loop-i-init g c = (replaying_start _ c.args.cells.now _ _ _ _ c.over-table.ensures.facts c.over-table.ensures.cells, refl)

pub loop-i-preserved : goal.loop-i-preserved
loop-i-preserved g c =
    let h = c.loop-i-test.true in
    let long = c.loop-i.auto.answers in (
      replaying_more _ _ _ _ _ _ _ _ _ _ _ _ _ h (λ d. get_or_default c.args.calls.now c.loop-i.i d _ h)
          (elim c.if-i-answers.branch [
            | then-i-answers w ↦ inl (omega (arith, w.if-i-answers.true), w.answers-is)
            | else-i-answers w ↦ inr (omega (arith, w.if-i-answers.false), w.answers-is)
          ])
          c.loop-i.invariant.0 c.carry_out-answer.ensures.facts c.carry_out-answer.ensures.cells.laid_out,
      c.carry_out-answer.ensures.cells.named ∙ c.loop-i.invariant.1,
    )

pub returns-clause-replayed : goal.returns-clause-replayed
returns-clause-replayed g c = replayed _ _ (g.met.B.Book.lawful c.args.book.now) _ _ _ _ _ _ _ _ (omega arith) c.over-table.ensures.cells c.loop-i.invariant.0
