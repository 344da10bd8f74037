-- The fields and the records that stand from a place on.
use Rattle.std.specs.Prelude.{List, [], Some, None, Option}
use Rattle.rfc4180.specs.declared.place.Place.{Place}
use Rattle.rfc4180.specs.Places.{Piece}
use Rattle.rfc4180.specs.Reading.{record_at, records_at}

-- the fields of the record that starts at a place
abbrev pub fields_at : Place → List Piece
fields_at place = record_at place.file.now place.at

-- the same of a place where a field starts, none where there is no place
abbrev pub fields_after : Option Place → List Piece
fields_after None = []
fields_after (Some place) = fields_at place

-- the records of a file, the one that starts at a place first; none where there is no place
abbrev pub records_after : Option Place → List (List Piece)
records_after None = []
records_after (Some place) = records_at place.file.now place.at
