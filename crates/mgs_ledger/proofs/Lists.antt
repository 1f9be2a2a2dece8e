-- Lists that grow at their end.
use Rattle.std.proofs.Common.{◌≡◌, ◌∙◌, ◌++◌, List, ap, append_assoc}

-- what three steps put behind a list
pub three_then : {A : Type 0} (o a b c x y z : List A) → a ≡ o ++ x → b ≡ a ++ y → c ≡ b ++ z → c ≡ o ++ (x ++ (y ++ z))
three_then o a b c x y z e f g =
    g ∙ (ap (λ l. l ++ z) f ∙ (append_assoc a y z ∙ (ap (λ l. l ++ (y ++ z)) e ∙ append_assoc o x (y ++ z))))
