use Rattle.table.proofs.Placings.{placing}
use Rattle.table.proofs.entering.place.Goals as goal

pub returns : goal.returns
returns c = rw c.copy_within.ensures.after (placing c.args.cells.now c.args.below c.args.top c.args.code c.around-stay.result.0 c.around-stay.result.1 c.requires.within c.requires.behind c.around-stay.ensures c.requires.room)
