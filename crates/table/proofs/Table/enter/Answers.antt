use Rattle.std.proofs.Common.{◌+◌, refl, arith}
use Rattle.std.proofs.lemmas.List.{length-take-le, take-take}
use Rattle.table.specs.View.{cells_of}
use Rattle.table.proofs.Cells.{facts_long, stand_more}
use Rattle.table.proofs.Table.enter.Goals as goal

pub enter-requires-clause-room : goal.enter-requires-clause-room
enter-requires-clause-room g c =
    let t = c.args.self.now in
    let n = t.held + c.args.come in
    rw (take-take t.held n (cells_of t) (omega arith), length-take-le n (cells_of t) (omega (arith, facts_long t, c.requires.room)))
    (c.requires.come.0, c.requires.come.1, omega (arith, c.requires.come.2))

pub invariant_of-self : goal.invariant_of-self
invariant_of-self g c =
    let s = stand_more c.args.self.now c.args.come c.requires.room _ c.enter.auto.cells c.enter.ensures.ascends in
    record { fits = s.fits; ascends = s.ascends; layout = s.layout }

pub returns-clause-facts : goal.returns-clause-facts
returns-clause-facts g c =
    let t = c.args.self.now in
    rw (stand_more c.args.self.now c.args.come c.requires.room _ c.enter.auto.cells c.enter.ensures.ascends).are (rw (take-take t.held (t.held + c.args.come) (cells_of t) (omega arith)) at c.enter.ensures)

pub returns-clause-cells : goal.returns-clause-cells
returns-clause-cells g c = record { laid_out = (stand_more c.args.self.now c.args.come c.requires.room _ c.enter.auto.cells c.enter.ensures.ascends).laid_out; named = refl }
