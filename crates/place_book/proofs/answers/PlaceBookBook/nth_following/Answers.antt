use Rattle.std.proofs.Common.{◌≡◌, rules, sym, ap, ◌∙◌}
use Rattle.std.specs.List.{slice_get}
use Rattle.place_book.specs.View.{parents_of}
use Rattle.place_book.specs.Meaning.{consequences}
use Rattle.place_book.proofs.Following.{consequences_list, nth_of_climb, nth_climbed}
use Rattle.place_book.proofs.answers.PlaceBookBook.nth_following.Goals as goal

pub returns : goal.returns
returns c =
    let b = c.args.self.now in
    let ps = parents_of b in
    let up = c.in_ok-up.up in
    let parts = c.in_ok-thing.ensures in
    let nth : c.nth.result ≡ slice_get c.climb.result up = search (rules, nth_of_climb) in
    let listed = sym (nth_climbed ps b.smaller b.few c.args.fact c.in_ok-thing.thing c.in_ok-thing.place parts c.args.k up c.nth.result c.and_then.result (search rules) (nth ∙ ap (λ l. slice_get l up) (c.climb.ensures.stands parts.1)) (search rules)) in
    record { listed = listed; above = (consequences ps c.args.fact, consequences_list ps b.smaller c.args.fact, listed) }
