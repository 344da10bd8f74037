-- The log of a source of three buses.
use Rattle.std.specs.Prelude.{cond, List, [], ◌∷◌, ◌++◌, length, Result, nat_lt}
use Rattle.refusals.specs.Checks.{left}
use Rattle.three_buses.specs.declared.log.Entry.{Entry}

-- the log with an entry behind the others, if there is room for it
abbrev pub noted : List Entry → Entry → List Entry
noted log entry = cond (nat_lt (length log) 64) (log ++ entry ∷ []) log

-- the log behind a call: an accepted one is noted
abbrev pub logged : {E : Type 0} → Result (Unit {0}) E → Entry → List Entry → List Entry
logged answer entry log = left answer (noted log entry) log
