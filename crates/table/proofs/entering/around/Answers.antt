use Rattle.table.proofs.Placings.{around_found, around_missing}
use Rattle.table.proofs.entering.around.Goals as goal

pub returns-in-Ok : goal.returns-in-Ok
returns-in-Ok c = around_found c.args.row.now c.args.code c.in-Ok.at c.requires (c.in-Ok.ensures.placed c.requires)

pub returns-in-Err : goal.returns-in-Err
returns-in-Err c = around_missing c.args.row.now c.args.code c.in-Err.at (c.in-Err.ensures.placed c.requires)
