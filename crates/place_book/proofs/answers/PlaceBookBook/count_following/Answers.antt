use Rattle.std.proofs.Common.{arith, refl, sym, ap, ◌∙◌, length}
use Rattle.std.proofs.lemmas.Iterator.Consumers.{YieldsList-from_first, count_from_yields_List}
use Rattle.place_book.specs.View.{parents_of}
use Rattle.place_book.specs.Meaning.{consequences}
use Rattle.place_book.proofs.Following.{consequences_list, count_climbed}
use Rattle.place_book.proofs.answers.PlaceBookBook.count_following.Goals as goal

pub returns-in-Some : goal.returns-in-Some
returns-in-Some c =
    let b = c.args.self.now in
    let ps = parents_of b in
    let fact = c.args.fact in
    let parts = c.in-Some.ensures in
    let count = count_from_yields_List c.climb.result c.count.result c.count.ensures.ran (YieldsList-from_first (λ at. at) (λ s. s) c.climb.result refl) in
    let long = count ∙ ap length (c.climb.ensures.stands parts.1) ∙ sym (count_climbed ps b.smaller b.few fact c.in-Some.field-0-0 c.in-Some.place parts) in
    record { listed = omega (arith, long); above = (consequences ps fact, consequences_list ps b.smaller fact, omega (arith, long)) }
