use Rattle.book.proofs.Peace.{clash_is_symmetric, causes_clash, none_against}
use Rattle.std.proofs.Common.{rules}
use Rattle.book.proofs.lists.first_against.Goals as goal

pub returns : goal.returns
returns g c =
    let m = g.B.Book.meaning c.args.book.now in
    let law = g.met.B.Book.lawful c.args.book.now in
    record {
      first = search rules;
      symmetric = clash_is_symmetric m g.B.Book.MOST_CONSEQUENCES law;
      causes_clash = causes_clash m g.B.Book.MOST_CONSEQUENCES law;
      consequences = none_against m g.B.Book.MOST_CONSEQUENCES law c.args.facts.now c.args.fact c.position.result (search rules);
    }
