-- The one text of an XID: its format in decimal, its gtrid and its bqual in hex, with colons between.
use Rattle.std.specs.Prelude.{◌≡◌, ℕ, List, ◌∷◌, ◌++◌, Bool, not, ◌==◌, ◌&&◌, nat_le, decimal}
use Rattle.std.specs.List.{list_all}
use Rattle.hex.specs.Hex.{encode_lower}
use Rattle.xid.specs.Names.{XidParts}

-- the hex text of bytes: each as two digits, in lower case
abbrev pub hex_text : List ℕ → List ℕ
hex_text bytes = encode_lower bytes

-- whether a byte is no capital letter: hex has none
abbrev pub is_no_capital : ℕ → Bool
is_no_capital byte = not (nat_le 65 byte && nat_le byte 90)

-- whether a byte stands nowhere in a text
abbrev pub lacks : ℕ → List ℕ → Bool
lacks mark text = list_all (λ byte. not (byte == mark)) text

-- the one text of an XID, format : gtrid : bqual
abbrev pub xid_text : XidParts → List ℕ
xid_text x = decimal x.format ++ 58 ∷ (hex_text x.gtrid ++ 58 ∷ hex_text x.bqual)

-- a text that begins with another
pub record Extends (old new : List ℕ) : Type 0 where
  pub more : List ℕ
  pub is : new ≡ old ++ more
