-- The worked cases: columns and what is drawn from them.
use Rattle.std.specs.Prelude.{ℕ, ◌-◌, Bool, true, false, cond, List, [], ◌∷◌, length, ℤ, pos, negsuc, Some, None, Option, ◌==◌, slice_index_or}
use Rattle.std.specs.List.{AllByRecursion}
use Rattle.feeder.specs.declared.line.Line.{Line}
use Rattle.feeder.specs.declared.kind.Kind.{Kind}
use Rattle.feeder.specs.declared.kind.Kind.TheVariants.{Complete, Reduced}
use Rattle.feeder.specs.Table.{Table, Answers}

-- an inverter, and the responses of the buses 1, 2, … to it
pub record Column : Type 0 where
  pub inverter : ℕ
  pub responses : List ℤ

-- a kind of feeder, columns of equal length, and the lines that are drawn, or none
pub record Case : Type 0 where
  pub kind : Kind
  pub columns : List Column
  pub outcome : Option (List Line)

-- the column of an inverter, empty where it has none
abbrev pub column_of : List Column → ℕ → List ℤ
column_of [] m = []
column_of (c ∷ cs) m = cond (c.inverter == m) c.responses (column_of cs m)

abbrev pub has_column : List Column → ℕ → Bool
has_column [] m = false
has_column (c ∷ cs) m = cond (c.inverter == m) true (has_column cs m)

-- as many buses as the first column has responses
abbrev pub buses_of : List Column → ℕ
buses_of [] = 0
buses_of (c ∷ cs) = length c.responses

abbrev pub table_from : List Column → Table
table_from cs = record { metered = buses_of cs; has = has_column cs; entry = λ n m. slice_index_or (column_of cs m) (n - 1) (pos 0) }

-- a column, and a line from a parent with a resistance
abbrev column : ℕ → List ℤ → Column
column m rs = record { inverter = m; responses = rs }

abbrev from : ℕ → ℕ → Line
from p r = record { parent = p; resistance = r }

abbrev pub cases : List Case
cases =
    record { kind = Complete; columns = column 1 (pos 300 ∷ []) ∷ []; outcome = Some (from 0 300 ∷ []) }
    ∷ record { kind = Complete; columns = column 1 (pos 0 ∷ []) ∷ []; outcome = None }
    ∷ record { kind = Complete; columns = column 1 (negsuc 4 ∷ []) ∷ []; outcome = None }
    ∷ record { kind = Complete; columns = column 1 (pos 300 ∷ pos 300 ∷ []) ∷ []; outcome = None }
    ∷ record { kind = Complete; columns = column 2 (pos 300 ∷ pos 500 ∷ []) ∷ []; outcome = Some (from 0 300 ∷ from 1 200 ∷ []) }
    ∷ record { kind = Complete; columns = column 1 (pos 300 ∷ pos 0 ∷ []) ∷ column 2 (pos 0 ∷ pos 400 ∷ []) ∷ []; outcome = Some (from 0 300 ∷ from 0 400 ∷ []) }
    ∷ record { kind = Complete; columns = column 1 (pos 500 ∷ pos 300 ∷ []) ∷ column 2 (pos 200 ∷ pos 800 ∷ []) ∷ []; outcome = None }
    ∷ record { kind = Complete; columns = column 1 (pos 500 ∷ pos 300 ∷ []) ∷ column 2 (pos 300 ∷ pos 800 ∷ []) ∷ []; outcome = None }
    ∷ record { kind = Reduced; columns = column 1 (pos 500 ∷ pos 300 ∷ []) ∷ column 2 (pos 300 ∷ pos 800 ∷ []) ∷ []; outcome = Some (from 3 200 ∷ from 3 500 ∷ from 0 300 ∷ []) }
    ∷ record { kind = Reduced; columns = column 1 (pos 300 ∷ pos 300 ∷ []) ∷ column 2 (pos 300 ∷ pos 500 ∷ []) ∷ []; outcome = Some (from 0 300 ∷ from 1 200 ∷ []) }
    ∷ record { kind = Reduced; columns = column 1 (pos 900 ∷ pos 500 ∷ pos 100 ∷ []) ∷ column 2 (pos 500 ∷ pos 900 ∷ pos 400 ∷ []) ∷ column 3 (pos 100 ∷ pos 400 ∷ pos 900 ∷ []) ∷ []; outcome = None }
    ∷ record { kind = Reduced; columns = column 1 (pos 400 ∷ pos 300 ∷ pos 300 ∷ []) ∷ column 2 (pos 300 ∷ pos 400 ∷ pos 300 ∷ []) ∷ column 3 (pos 300 ∷ pos 300 ∷ pos 400 ∷ []) ∷ []; outcome = Some (from 4 100 ∷ from 4 100 ∷ from 4 100 ∷ from 0 300 ∷ []) }
    ∷ []

-- each outcome is what a drawing of the table answers
abbrev pub CasesStand : Type 0
CasesStand = AllByRecursion (λ c. Answers c.kind (table_from c.columns) c.outcome) cases
