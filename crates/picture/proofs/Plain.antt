-- Escaped words are harmless, byte by byte: for the law that no words of a picture are read as markup.
use Rattle.std.proofs.Common.{◌≡◌, ℕ, List, [], ◌∷◌, ◌++◌, Bool, true, false, refl, eqb, leb, ◌&&◌}
use Rattle.std.specs.List.{list_all}
use Rattle.xid.proofs.Texts.{list_all_join}
use Rattle.picture.specs.Elements.{escaped, escaped_byte, is_harmless, refers}

-- a byte by its five tests
by_tests : (byte : ℕ) (amp lt gt quote plain : Bool) → eqb byte 38 ≡ amp → eqb byte 60 ≡ lt → eqb byte 62 ≡ gt → eqb byte 39 ≡ quote
    → (leb 32 byte && leb byte 126) ≡ plain → list_all is_harmless (escaped_byte byte) ≡ true
by_tests byte true lt gt quote plain a l g q p = rw a refl
by_tests byte false true gt quote plain a l g q p = rw a (rw l refl)
by_tests byte false false true quote plain a l g q p = rw a (rw l (rw g refl))
by_tests byte false false false true plain a l g q p = rw a (rw l (rw g (rw q refl)))
by_tests byte false false false false true a l g q p = rw a (rw l (rw g (rw q (rw p (rw l (rw g (rw q (rw p refl))))))))
by_tests byte false false false false false a l g q p = rw a (rw l (rw g (rw q (rw p refl))))

pub byte_harmless : (byte : ℕ) → list_all is_harmless (escaped_byte byte) ≡ true
byte_harmless byte = by_tests byte _ _ _ _ _ refl refl refl refl refl

pub harmless : (words : List ℕ) → list_all is_harmless (escaped words) ≡ true
harmless [] = refl
harmless (byte ∷ words) =
    list_all_join is_harmless (escaped_byte byte) (escaped words) (byte_harmless byte) (harmless words)

-- each ampersand of them begins a reference
refers_by : (byte : ℕ) (rest : List ℕ) (amp lt gt quote plain : Bool) → refers rest ≡ true → eqb byte 38 ≡ amp → eqb byte 60 ≡ lt
    → eqb byte 62 ≡ gt → eqb byte 39 ≡ quote → (leb 32 byte && leb byte 126) ≡ plain → refers (escaped_byte byte ++ rest) ≡ true
refers_by byte rest true lt gt quote plain r a l g q p = rw a r
refers_by byte rest false true gt quote plain r a l g q p = rw a (rw l r)
refers_by byte rest false false true quote plain r a l g q p = rw a (rw l (rw g r))
refers_by byte rest false false false true plain r a l g q p = rw a (rw l (rw g (rw q r)))
refers_by byte rest false false false false true r a l g q p = rw a (rw l (rw g (rw q (rw p (rw a r)))))
refers_by byte rest false false false false false r a l g q p = rw a (rw l (rw g (rw q (rw p r))))

pub referring : (words : List ℕ) → refers (escaped words) ≡ true
referring [] = refl
referring (byte ∷ words) = refers_by byte (escaped words) _ _ _ _ _ (referring words) refl refl refl refl refl
