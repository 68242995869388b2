use Rattle.std.proofs.Common.{arith}
use Rattle.std.proofs.lemmas.List.{length-reverse}
use Rattle.place_book.specs.View.{parents_of}
use Rattle.place_book.specs.Meaning.{places_around}
use Rattle.place_book.specs.Around.{around_few}
use Rattle.place_book.proofs.climbs.PlaceBook.climb.Goals as goal

pub returns-clause-few : goal.returns-clause-few
returns-clause-few c =
    let b = c.args.self.now in
    let few = around_few (parents_of b) c.args.place in
    let l = length-reverse (places_around (parents_of b) c.args.place) in
    grind (arith, few, l, b.few)
