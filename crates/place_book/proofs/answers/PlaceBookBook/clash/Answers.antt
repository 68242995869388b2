use Rattle.std.proofs.Common.{rules}
use Rattle.place_book.specs.View.{parents_of}
use Rattle.place_book.proofs.Laws.{clash_told}
use Rattle.place_book.proofs.answers.PlaceBookBook.clash.Goals as goal

pub returns-then-knows : goal.returns-then-knows
returns-then-knows c = let b = c.args.self.now in clash_told (parents_of b) b.smaller c.args.first c.args.second _ (search rules)

pub returns-else-knows : goal.returns-else-knows
returns-else-knows c = let b = c.args.self.now in clash_told (parents_of b) b.smaller c.args.first c.args.second _ (search rules)

pub returns-then-one-other : goal.returns-then-one-other
returns-then-one-other c = let b = c.args.self.now in clash_told (parents_of b) b.smaller c.args.first c.args.second _ (search rules)
