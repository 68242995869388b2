use Rattle.std.proofs.Common.{◌≡◌, Some, rules}
use Rattle.table.proofs.Descents.{passed, stays}
use Rattle.table.proofs.descent.Cursor.pass.Goals as goal

pub returns-then-eq-clause-row : goal.returns-then-eq-clause-row
returns-then-eq-clause-row g c =
    let e : c.args.self.now.head ≡ Some c.args.code = search rules in
    rw (c.before-then-eq.ensures.left, c.before-then-eq.ensures.fact) (passed (g.met.B.Book.lawful c.args.book.now) c.args.self.now c.requires.place c.args.code e)

pub returns-else-eq-clause-row : goal.returns-else-eq-clause-row
returns-else-eq-clause-row g c = stays (g.met.B.Book.lawful c.args.book.now) c.args.self.now c.requires.place c.args.code c.requires.largest (λ e. search rules)
