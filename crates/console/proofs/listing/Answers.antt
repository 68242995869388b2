use Rattle.std.proofs.Common.{string_bytes, arith}
use Rattle.std.proofs.lemmas.List.{length_push}
use Rattle.console.proofs.FactLines.{line_more}
use Rattle.console.proofs.listing.Goals as goal

pub loop-fact-preserved : goal.loop-fact-preserved
loop-fact-preserved g c =
    let inv = c.loop-fact.invariant in
    let more = c.in-Some.ensures.goes.on inv.1 in
    let long = length_push c.loop-fact.yielded c.in-Some.fact in (
      more.0,
      more.1,
      line_more c.loop-fact.yielded c.in-Some.fact (string_bytes c.loop-fact.out) (string_bytes c.writeln.new.self) inv.2 c.in_ok-writeln.ensures.bytes,
      omega (arith, long, inv.3),
      omega (arith, more.2, inv.4),
    )
