-- The steps of the loops that make a block.
use Rattle.std.proofs.Common.{◌≡◌, ℕ, ◌+◌, ◌<◌, List, [], ◌∷◌, ◌++◌, length, map, take, drop, replicate, get_or, set, sym, ◌∙◌, ap, arith}
use Rattle.std.proofs.lemmas.List.{take_more, take_more_set, map-append, drop-set-lt, drop-drop, drop-replicate, take-append-drop}
use Rattle.sha2.proofs.Facts256.{length-sha256}
use Rattle.hmac.specs.Hmac.{in_block, block_tag}

-- one item more is mapped
pub map_more : (f : ℕ → ℕ) (block out : List ℕ) (i : ℕ) → i < length block → i < length out
    → take i out ≡ map f (take i block)
    → take (i + 1) (set out i (f (get_or block i 0))) ≡ map f (take (i + 1) block)
map_more f block out i h k e =
    take_more_set out i (f (get_or block i 0)) k
    ∙ ap (λ xs. xs ++ f (get_or block i 0) ∷ []) e
    ∙ sym (map-append f (take i block) (get_or block i 0 ∷ []))
    ∙ sym (ap (map f) (take_more block i 0 h))

-- what stands behind an item that was set is as it was
pub rest_more : (block zeros : List ℕ) (i b : ℕ) → drop i block ≡ drop i zeros → drop (i + 1) (set block i b) ≡ drop (i + 1) zeros
rest_more block zeros i b e =
    drop-set-lt (i + 1) block i b (omega arith)
    ∙ sym (drop-drop 1 i block) ∙ ap (drop 1) e ∙ drop-drop 1 i zeros

-- what was put in front and the zeros behind make the block
pub is_in_block : (bytes block : List ℕ) → take (length bytes) block ≡ bytes
    → drop (length bytes) block ≡ drop (length bytes) (replicate 64 0) → block ≡ in_block bytes
is_in_block bytes block front back =
    sym (take-append-drop (length bytes) block)
    ∙ ap (λ xs. xs ++ drop (length bytes) block) front
    ∙ ap (λ xs. bytes ++ xs) (back ∙ drop-replicate (length bytes) 64 0)

-- a tag has 32 bytes
pub length-block_tag : (block message : List ℕ) → length (block_tag block message) ≡ 32
length-block_tag block message = length-sha256 _
