use Rattle.std.proofs.Common.{rules}
use Rattle.place_book.specs.View.{parents_of}
use Rattle.place_book.proofs.Laws.{follows_told}
use Rattle.place_book.proofs.answers.PlaceBookBook.follows.Goals as goal

pub returns-then-is_within : goal.returns-then-is_within
returns-then-is_within c = let b = c.args.self.now in follows_told (parents_of b) b.smaller b.few c.args.cause c.args.fact _ (search rules)

pub returns-else-is_within : goal.returns-else-is_within
returns-else-is_within c = let b = c.args.self.now in follows_told (parents_of b) b.smaller b.few c.args.cause c.args.fact _ (search rules)

pub returns-then-below-above : goal.returns-then-below-above
returns-then-below-above c = let b = c.args.self.now in follows_told (parents_of b) b.smaller b.few c.args.cause c.args.fact _ (search rules)
