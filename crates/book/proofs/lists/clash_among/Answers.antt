use Rattle.std.proofs.Common.{arith}
use Rattle.book.proofs.Peace.{nothing_by_places}
use Rattle.book.proofs.lists.clash_among.Goals as goal

pub returns : goal.returns
returns g c =
    nothing_by_places (g.B.Book.meaning c.args.book.now) g.B.Book.MOST_CONSEQUENCES (g.met.B.Book.lawful c.args.book.now) c.args.facts.now
    (λ i j h k. c.loop-j.invariant i j h (omega arith))
