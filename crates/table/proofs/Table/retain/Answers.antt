use Rattle.std.proofs.Common.{refl}
use Rattle.table.proofs.Cells.{stand_fewer}
use Rattle.table.proofs.Staying.{filtered_ascends}
use Rattle.table.proofs.Table.retain.Goals as goal

pub invariant_of-self : goal.invariant_of-self
invariant_of-self g c =
    let t = c.args.self.now in
    let k = c.keep-kept in
    let s = stand_fewer t _ k.auto.row _ k.ensures.within k.ensures.cleared (filtered_ascends _ _ _ _ k.ensures.kept t.ascends) in
    record { fits = s.fits; ascends = s.ascends; layout = s.layout }

pub returns-clause-cells : goal.returns-clause-cells
returns-clause-cells g c =
    let t = c.args.self.now in
    let k = c.keep-kept in
    record { laid_out = (stand_fewer t _ k.auto.row _ k.ensures.within k.ensures.cleared (filtered_ascends _ _ _ _ k.ensures.kept t.ascends)).laid_out; named = refl }
