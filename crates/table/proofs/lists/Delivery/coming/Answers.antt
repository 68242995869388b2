use Rattle.std.proofs.Common.{◌≡◌, inl, arith, rules, length}
use Rattle.std.specs.List.{filter}
use Rattle.std.proofs.lemmas.Iterator.Consumers.{YieldsList-from_filter, YieldsList-from_first, count_from_yields_List}
use Rattle.table.specs.Descent.{codes_left}
use Rattle.table.proofs.Entries.{lacks, search_tells, few_codes, count_coming}
use Rattle.table.proofs.lists.Delivery.coming.Goals as goal

pub count-requires-clause-fits : goal.count-requires-clause-fits
count-requires-clause-fits g c = rw c.filter.ensures.source (inl (omega (arith, few_codes (g.met.B.Book.lawful c.args.self.now.list.book.now) c.args.self.now.list.facts.now (codes_left (g.B.Book.meaning c.over.result.book.now) c.over.result.cursors.items) c.over.ensures c.args.self.now.list.short)))

pub returns-clause-number : goal.returns-clause-number
returns-clause-number g c =
    let codes = codes_left (g.B.Book.meaning c.over.result.book.now) c.over.result.cursors.items in
    let is : c.count.result ≡ length (filter (lacks c.args.row.now) codes) =
    count_from_yields_List c.filter.result c.count.result c.count.ensures.ran
    (YieldsList-from_filter _ (lacks c.args.row.now) (YieldsList-from_first (λ x. x) (λ d. codes_left (g.B.Book.meaning d.book.now) d.cursors.items) codes (cc)) c.filter.ensures.closure
    (λ x b q k. search (rules, search_tells))) in
    rw is (count_coming (g.met.B.Book.lawful c.args.self.now.list.book.now) c.args.self.now.list.facts.now codes c.over.ensures c.args.row.now)

pub returns-clause-small : goal.returns-clause-small
returns-clause-small g c = omega (arith, few_codes (g.met.B.Book.lawful c.args.self.now.list.book.now) c.args.self.now.list.facts.now (codes_left (g.B.Book.meaning c.over.result.book.now) c.over.result.cursors.items) c.over.ensures c.args.self.now.list.short, rw c.filter.ensures.source at c.count.ensures.bound)
