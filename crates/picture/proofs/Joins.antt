-- Parts that were put one after another: for what puts the beginning of a picture, whose parts are long.
use Rattle.std.proofs.Common.{◌≡◌, List, ◌++◌, ap, ◌∙◌, append_assoc}

two : {X : Type 0} (old a b x y : List X) → x ≡ old ++ a → y ≡ x ++ b → y ≡ old ++ (a ++ b)
two old a b x y first second = second ∙ ap (λ l. l ++ b) first ∙ append_assoc old a b

pub four : {X : Type 0} (old a b c d x y z w : List X) → x ≡ old ++ a → y ≡ x ++ b → z ≡ y ++ c → w ≡ z ++ d
    → w ≡ old ++ (a ++ b ++ c ++ d)
four old a b c d x y z w first second third fourth =
    two old (a ++ b ++ c) d z w (two old (a ++ b) c y z (two old a b x y first second) third) fourth
