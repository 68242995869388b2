use Rattle.std.proofs.Common.{sym, ◌∙◌, arith, rules}
use Rattle.book.proofs.Taking.{first_left, countable}
use Rattle.book.proofs.following.ConsequencesIterator.next.Goals as goal

pub overflow_add-self : goal.overflow_add-self
overflow_add-self g c =
    let s = c.self.inside in
    omega (arith, countable (g.B.Book.meaning s.book.now) g.B.Book.MOST_CONSEQUENCES (g.met.B.Book.lawful s.book.now) s.fact s.come c.in_ok-code.code (search rules))

pub returns-clause-steps : goal.returns-clause-steps
returns-clause-steps g c =
    let s = c.self.inside in
    sym c.self.view_is ∙ first_left ((g.B.Book.meaning s.book.now).consequences s.fact) s.come c.in_ok-code.code (search rules)
