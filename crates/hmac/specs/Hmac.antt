-- HMAC-SHA256 (RFC 2104, FIPS 198-1) as functions on lists of bytes.
use Rattle.std.specs.Prelude.{ℕ, ◌-◌, List, ◌++◌, length, map, replicate, bit_xor, nat_le, if◌then◌else◌}
use Rattle.sha2.specs.Sha256.{sha256}

-- the key, or its digest where it is longer than a block
abbrev pub short_key : List ℕ → List ℕ
short_key key = if nat_le (length key) 64 then key else sha256 key

-- a block that begins with bytes, and zeros after them
abbrev pub in_block : List ℕ → List ℕ
in_block bytes = bytes ++ replicate (64 - length bytes) 0

-- a key: its block
pub record KeyParts : Type 0 where
  pub block : List ℕ

-- the key as a block
abbrev pub key_block : List ℕ → List ℕ
key_block key = in_block (short_key key)

-- each byte of a block with a byte's bits turned
abbrev pub masked : ℕ → List ℕ → List ℕ
masked mask block = map (λ byte. bit_xor byte mask) block

-- the tag of a message under a key's block
abbrev pub block_tag : List ℕ → List ℕ → List ℕ
block_tag block message = sha256 (masked 0x5c block ++ sha256 (masked 0x36 block ++ message))

-- the tag of a message under a key
abbrev pub hmac_sha256 : List ℕ → List ℕ → List ℕ
hmac_sha256 key message = block_tag (key_block key) message
