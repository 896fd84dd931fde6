-- What a row is read as.
use Rattle.std.proofs.Common.{◌≡◌, ◌≢◌, ◌∙◌, inl, inr, ℕ, List, [], ◌++◌, codes, Bool, true, false, Option, Some, None, Ok, Err, refl, sym}
use Rattle.std.proofs.Common.{ap}
use Rattle.std.specs.Prelude.{◌⊎◌, bytes_eq}
use Rattle.std.proofs.lemmas.Slice.Eq.{bytes_eq-Decides}
use Rattle.hex.specs.Hex.{decode_of, encode_lower}
use Rattle.hex.specs.declared.error.FromHexError.{FromHexError}
use Rattle.hex.specs.declared.error.FromHexError.TheVariants.{OutOfMemory}
use Rattle.protocol.specs.declared.rows.Row.{Row}
use Rattle.toml.specs.Data.{Data, Members, string, as_str, get_member}
use Rattle.cluster_file.specs.declared.error.ClusterError.{ClusterError}
use Rattle.cluster_file.specs.declared.error.Fault.{Fault}
use Rattle.cluster_file.specs.declared.error.Fault.TheVariants.{NoText, NoHex}
use Rattle.cluster_file.specs.Mistakes.{◌>>=◌, mistake_at, reads_at, Says, IsRefused}
use Rattle.cluster_file.specs.Reads.{table_of}
use Rattle.cluster_file.specs.Rows.{bytes_of, if_small, row_by, row_of, row_within, rows_at, rows_from, rows_in}
use Rattle.cluster_file.proofs.Refusals.{refused_at, refused_bind, refused_memory}

-- ---- bytes

pub bytes_undecoded : (text : List ℕ) (error : FromHexError) → (error ≡ OutOfMemory) ⊎ (decode_of text ≡ Err error) → error ≢ OutOfMemory
    → None ≡ bytes_of text
unfolding bytes_of
bytes_undecoded text error (inl out) other = absurd (other out)
bytes_undecoded text error (inr is) other = sym (ap (if_small text) is)

pub bytes_small : (text bytes : List ℕ) → decode_of text ≡ Ok bytes → encode_lower bytes ≡ text → Some bytes ≡ bytes_of text
unfolding bytes_of
bytes_small text bytes is small = sym (ap (if_small text) is ∙ rw ((bytes_eq-Decides (encode_lower bytes) text).1 small) refl)

pub bytes_capital : (text bytes : List ℕ) → decode_of text ≡ Ok bytes → encode_lower bytes ≢ text → None ≡ bytes_of text
unfolding bytes_of
bytes_capital text bytes is other = sym (ap (if_small text) is ∙ rw (not_small (bytes_eq (encode_lower bytes) text) refl) refl)
  where
    not_small : (b : Bool) → bytes_eq (encode_lower bytes) text ≡ b → bytes_eq (encode_lower bytes) text ≡ false
    not_small true e = absurd (other ((bytes_eq-Decides (encode_lower bytes) text).0 e))
    not_small false e = e

-- ---- rows

row_text : (key text : List ℕ) (value : Data) → Some text ≡ as_str value → row_of key value ≡ row_by (bytes_of key) (bytes_of text)
row_text key text (string s) is = let one : text ≡ s = cc in ap (λ t. row_by (bytes_of key) (bytes_of t)) (sym one)
row_text key text value is = absurd (cc)

row_textless : (key : List ℕ) (value : Data) → None ≡ as_str value → row_of key value ≡ Err NoText
row_textless key (string s) is = absurd (cc)
row_textless key value is = refl

no_row : (name : Option (List ℕ)) → row_by name None ≡ Err NoHex
no_row None = refl
no_row (Some name) = refl

module _ (path key : List ℕ) (value : Data) where
  pub row_no_text : (error : ClusterError) → None ≡ as_str value → Says (mistake_at path key NoText) error
      → IsRefused (reads_at path key (row_of key value)) error
  row_no_text error is says = refused_at path key (row_of key value) NoText error (row_textless key value is) says

  pub row_no_key : (text : List ℕ) (error : ClusterError) → Some text ≡ as_str value → None ≡ bytes_of key
      → Says (mistake_at path key NoHex) error → IsRefused (reads_at path key (row_of key value)) error
  row_no_key text error is none says =
      refused_at path key (row_of key value) NoHex error
      (row_text key text value is ∙ ap (λ name. row_by name (bytes_of text)) (sym none)) says

  pub row_no_value : (text : List ℕ) (error : ClusterError) → Some text ≡ as_str value → None ≡ bytes_of text
      → Says (mistake_at path key NoHex) error → IsRefused (reads_at path key (row_of key value)) error
  row_no_value text error is none says =
      refused_at path key (row_of key value) NoHex error
      (row_text key text value is ∙ (ap (row_by (bytes_of key)) (sym none) ∙ no_row (bytes_of key))) says

  row_is : (text name bytes : List ℕ) → Some text ≡ as_str value → Some name ≡ bytes_of key → Some bytes ≡ bytes_of text
      → row_of key value ≡ row_within name bytes
  row_is text name bytes is named valued =
      row_text key text value is ∙ (ap (λ n. row_by n (bytes_of text)) (sym named) ∙ ap (row_by (Some name)) (sym valued))

  pub row_right : (text name bytes : List ℕ) (row : Row) → Some text ≡ as_str value → Some name ≡ bytes_of key → Some bytes ≡ bytes_of text
      → Ok row ≡ row_within name bytes → row_of key value ≡ Ok row
  row_right text name bytes row is named valued within = row_is text name bytes is named valued ∙ sym within

  pub row_wrong : (text name bytes : List ℕ) (fault : Fault) (error : ClusterError) → Some text ≡ as_str value → Some name ≡ bytes_of key
      → Some bytes ≡ bytes_of text → Err fault ≡ row_within name bytes → Says (mistake_at path key fault) error
      → IsRefused (reads_at path key (row_of key value)) error
  row_wrong text name bytes fault error is named valued within says =
      refused_at path key (row_of key value) fault error (row_is text name bytes is named valued ∙ sym within) says

pub ruleset row_reading = (row_no_text, row_no_key, row_no_value, row_right, row_wrong, refused_memory)

-- ---- the first rows of a node

module _ (path : List ℕ) (members : Members) where
  pub rows_none : table_of (get_member (codes "table") members) ≡ Ok None → rows_at path members ≡ Ok []
  unfolding rows_at
  rows_none is = ap (λ r. reads_at path (codes "table") r >>= rows_in (path ++ codes "table.")) is

  pub rows_there : (rows : Members) → table_of (get_member (codes "table") members) ≡ Ok (Some rows)
      → rows_at path members ≡ rows_from (path ++ codes "table.") rows
  unfolding rows_at
  rows_there rows is = ap (λ r. reads_at path (codes "table") r >>= rows_in (path ++ codes "table.")) is

  pub rows_untabled : (error : ClusterError)
      → IsRefused (reads_at path (codes "table") (table_of (get_member (codes "table") members))) error
      → IsRefused (rows_at path members) error
  unfolding rows_at
  rows_untabled error h = refused_bind _ h
