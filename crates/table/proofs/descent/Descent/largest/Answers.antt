use Rattle.std.proofs.Common.{◌≡◌, ◌∙◌, max, sym, rules, tests}
use Rattle.std.specs.List.{filter_map, reduce}
use Rattle.std.proofs.lemmas.Iterator.{YieldsList-from_slice}
use Rattle.std.proofs.lemmas.Iterator.Adapters.{option_map_id}
use Rattle.std.proofs.lemmas.Iterator.Consumers.{YieldsList-from_filter_map, max_from_yields_List}
use Rattle.table.proofs.Descents.{largest_left}
use Rattle.table.proofs.descent.Descent.largest.Goals as goal

pub returns : goal.returns
returns g c =
    let qs = c.args.self.now.cursors.items in
    let is : c.max.result ≡ reduce max (filter_map (λ q. q.head) qs) =
    sym (option_map_id c.max.result)
    ∙ max_from_yields_List c.filter_map.result c.max.result c.max.ensures.ran (YieldsList-from_filter_map _ (λ q. q.head) (YieldsList-from_slice qs (cc)) c.filter_map.ensures.closure (λ x r q k. search (rules, tests))) in
    rw is (largest_left (g.met.B.Book.lawful c.args.self.now.book.now) qs c.args.self.now.in_place)
