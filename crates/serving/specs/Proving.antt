-- How a client proves that it has the clients' key.
use Rattle.std.specs.Prelude.{◌≡◌, ℕ, ◌++◌, List, Option, Some, None, codes}
use Rattle.hex.specs.Hex.{encode_lower}
use Rattle.hmac.specs.Hmac.{hmac_sha256}
use Rattle.serving.specs.declared.proving.Lock.{Lock}

-- the line that proves it: the tag, under the key, of what the lock says and of the challenge
abbrev pub proof_line : Lock → (challenge : List ℕ) → List ℕ
proof_line lock challenge = codes "proof " ++ encode_lower (hmac_sha256 lock.key (lock.head.items ++ challenge))

-- a line proves it; where there is no lock none does
abbrev pub IsProof : Option Lock → (challenge line : List ℕ) → Type 0
IsProof None challenge line = ⊥
IsProof (Some lock) challenge line = line ≡ proof_line lock challenge
