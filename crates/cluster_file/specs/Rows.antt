-- The first contents that a file says.
use Rattle.std.specs.Prelude.{ℕ, ◌&&◌, nat_lt, nat_le, if◌then◌else◌, List, [], ◌∷◌, ◌++◌, length, bytes_eq, codes}
use Rattle.std.specs.Prelude.{Option, Some, None, Result, Ok, Err}
use Rattle.hex.specs.Hex.{decode_of, encode_lower}
use Rattle.hex.specs.declared.error.FromHexError.{FromHexError}
use Rattle.xid.specs.Limits.{most_key, most_value}
use Rattle.protocol.specs.declared.rows.Row.{Row}
use Rattle.toml.specs.Data.{Data, Members, no_members, member, string, get_member}
use Rattle.cluster_file.specs.declared.error.Fault.{Fault}
use Rattle.cluster_file.specs.declared.error.Fault.TheVariants.{NoText, NoHex, RowKey, RowValue}
use Rattle.cluster_file.specs.Mistakes.{Mistake, ◌>>=◌, reads_at}
use Rattle.cluster_file.specs.Reads.{table_of}

-- what was decoded, if the text has no capitals
abbrev pub if_small : List ℕ → Result (List ℕ) FromHexError → Option (List ℕ)
if_small text (Ok bytes) = if bytes_eq (encode_lower bytes) text then Some bytes else None
if_small text (Err error) = None

-- the bytes that a text says in small hex digits
unfoldable pub bytes_of : List ℕ → Option (List ℕ)
bytes_of text = if_small text (decode_of text)

-- a row within the limits
abbrev pub row_within : List ℕ → List ℕ → Result Row Fault
row_within key value =
    if nat_lt 0 (length key) && nat_le (length key) most_key
    then (if nat_le (length value) most_value then Ok (record { key = key; value = value }) else Err RowValue)
    else Err RowKey

-- a row, if its key and its value are in hex
abbrev pub row_by : Option (List ℕ) → Option (List ℕ) → Result Row Fault
row_by (Some key) (Some value) = row_within key value
row_by (Some key) None = Err NoHex
row_by None value = Err NoHex

-- the row of a key and its value
abbrev pub row_of : List ℕ → Data → Result Row Fault
row_of key (string text) = row_by (bytes_of key) (bytes_of text)
row_of key other = Err NoText

-- the rows of a table behind a path, in the order of its keys
unfoldable pub rows_from : List ℕ → Members → Result (List Row) Mistake
rows_from path no_members = Ok []
rows_from path (member key value more) = do
  row ← reads_at path key (row_of key value)
  rows ← rows_from path more
  Ok (row ∷ rows)

-- the rows of a table, none where there is no table
abbrev pub rows_in : List ℕ → Option Members → Result (List Row) Mistake
rows_in path None = Ok []
rows_in path (Some rows) = rows_from path rows

-- the first rows of a node
unfoldable pub rows_at : List ℕ → Members → Result (List Row) Mistake
rows_at path members =
    reads_at path (codes "table") (table_of (get_member (codes "table") members)) >>= rows_in (path ++ codes "table.")
