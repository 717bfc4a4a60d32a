-- Texts without a zero byte are held as they are.
use Rattle.std.proofs.Common.{◌≡◌, ◌∷◌, ℕ, zero, suc, List, [], map, refl, ap, arith}
use Rattle.libyaml_grammar.specs.grammar.Tokens.{Content, Token}
use Rattle.rust_original.specs.parser.Texts.{ContentHoldsNoZero, HoldsNoZero, NoneHoldsZero, as_held, c_string, held_content}

text : (bytes : List ℕ) → HoldsNoZero bytes → c_string bytes ≡ bytes
text [] h = refl
text (zero ∷ bytes) h = absurd h
text (suc byte ∷ bytes) h = ap (λ (l : List ℕ). suc byte ∷ l) (text bytes h)

content : (k : Content) → ContentHoldsNoZero k → held_content k ≡ k
content k h = grind (arith, text)

pub all_held : (l : List Token) → NoneHoldsZero l → map as_held l ≡ l
all_held [] h = refl
all_held (t ∷ l) h = grind (arith, content, all_held l h.1)
