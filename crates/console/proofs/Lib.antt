mod FactLines
