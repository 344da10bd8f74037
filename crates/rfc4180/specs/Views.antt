-- What a record and a reader stand for: its fields, and the records that it has still to give.
use Rattle.std.specs.Prelude.{ℕ, List}
use Rattle.rfc4180.specs.declared.reader.Reader.{Reader}
use Rattle.rfc4180.specs.declared.reader.Record.{Record}
use Rattle.rfc4180.specs.Places.{Piece}
use Rattle.rfc4180.specs.After.{fields_at, records_after}
pub use Rattle.rfc4180.specs.Field.{piece, quoteless, text_of}

module _ {kept : ℕ} where
  -- the fields of a record, those that it does not keep among them
  unfoldable pub pieces : Record kept → List Piece
  pieces r = fields_at r.first

  -- the records of a file that are still to be read
  unfoldable pub left : Reader kept → List (List Piece)
  left r = records_after r.next
