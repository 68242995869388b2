use Rattle.book.proofs.Peace.{first_clash_tells, no_world_is_a_clash, none_clash}
use Rattle.book.proofs.lists.first_clash.Goals as goal

pub returns : goal.returns
returns g c =
    let m = g.B.Book.meaning c.args.book.now in
    let law = g.met.B.Book.lawful c.args.book.now in
    let l = c.args.facts.now in
    let r = c.clash_among.result in
    let first = c.clash_among.ensures in
    record {
      first = first;
      no_world = first_clash_tells m g.B.Book.MOST_CONSEQUENCES law l r first;
      some_clash = no_world_is_a_clash m g.B.Book.MOST_CONSEQUENCES law l r first;
      consequences = none_clash m g.B.Book.MOST_CONSEQUENCES law l r first;
    }
