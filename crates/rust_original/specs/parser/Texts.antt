-- How the Rust crate holds texts: they end at a zero byte, but those of scalars, which have a length.
use Rattle.std.specs.Prelude.{◌∷◌, ℕ, zero, suc, List, []}
use Rattle.libyaml_types.specs.declared.token.unnamed_yaml_token_t_data.TheVariants as tok
use Rattle.libyaml_grammar.specs.grammar.Tokens.{Content, Token}

-- A text up to its first zero byte.
abbrev pub c_string : List ℕ → List ℕ
c_string [] = []
c_string (zero ∷ bytes) = []
c_string (suc byte ∷ bytes) = suc byte ∷ c_string bytes

-- A token whose texts are held so.
abbrev pub held_content : Content → Content
held_content (tok.TagDirective d)
    = tok.TagDirective (record { handle = c_string d.handle; prefix = c_string d.prefix })
held_content (tok.Alias a) = tok.Alias (record { value = c_string a.value })
held_content (tok.Anchor a) = tok.Anchor (record { value = c_string a.value })
held_content (tok.Tag g) = tok.Tag (record { handle = c_string g.handle; suffix = c_string g.suffix })
held_content k = k

abbrev pub as_held : Token → Token
as_held t = record t { content = held_content t.content }

-- No text that ends at a zero byte holds one.
abbrev pub HoldsNoZero : List ℕ → Type 0
HoldsNoZero [] = Unit {0}
HoldsNoZero (zero ∷ bytes) = ⊥
HoldsNoZero (suc byte ∷ bytes) = HoldsNoZero bytes

abbrev pub ContentHoldsNoZero : Content → Type 0
ContentHoldsNoZero (tok.TagDirective d) = HoldsNoZero d.handle × HoldsNoZero d.prefix
ContentHoldsNoZero (tok.Alias a) = HoldsNoZero a.value
ContentHoldsNoZero (tok.Anchor a) = HoldsNoZero a.value
ContentHoldsNoZero (tok.Tag g) = HoldsNoZero g.handle × HoldsNoZero g.suffix
ContentHoldsNoZero k = Unit {0}

abbrev pub NoneHoldsZero : List Token → Type 0
NoneHoldsZero [] = Unit {0}
NoneHoldsZero (t ∷ l) = ContentHoldsNoZero t.content × NoneHoldsZero l
