-- What a table holds.
use Rattle.std.specs.Prelude.{◌≡◌, ℕ, List, take}
use Rattle.table.specs.Cells.{laid}
use Rattle.table.specs.declared.Table.{Table}

-- what the cells hold that the table was lent
abbrev pub cells_of : Table → List ℕ
cells_of t = t.cells.now

-- the facts held: those in the first cells
abbrev pub facts_of : Table → List ℕ
facts_of t = take t.held (cells_of t)

-- a table keeps the cells that it was lent, and its facts are laid out in them
pub record KeepsCells (old new : Table) : Type 0 where
  pub laid_out : cells_of new ≡ laid (facts_of new) (cells_of old)
  pub named : new.cells.ghost_name ≡ old.cells.ghost_name
