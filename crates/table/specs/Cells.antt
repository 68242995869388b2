-- How a table lies in the cells that it is lent.
use Rattle.std.specs.Prelude.{ℕ, ◌-◌, min, List, ◌++◌, length, drop, replicate}

-- how many of the cells a table uses: all, up to the first 65,536
abbrev pub used : List ℕ → ℕ
used cells = min (length cells) 65536

-- facts, at most as many as cells are used, in the first cells, zeros in the other cells used, and the rest as it was
abbrev pub laid : List ℕ → List ℕ → List ℕ
laid facts cells = facts ++ (replicate (used cells - length facts) 0 ++ drop (used cells) cells)
