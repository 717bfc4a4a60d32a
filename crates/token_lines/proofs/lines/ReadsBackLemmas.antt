-- That reading a field of a line undoes writing it.
use Rattle.std.proofs.Common.{◌≡◌, ◌<◌, ◌&&◌, ℕ, List, [], ◌∷◌, All, get_or, Bool, true, Some, ltb, refl, ap, ◌∙◌, arith}
use Rattle.std.specs.List.{flat_map, list_all}
use Rattle.std.specs.Str.{is_utf8}
use Rattle.std.proofs.lemmas.Bool.{agree_below, agree_below_at, ltb-true}
use Rattle.std.proofs.lemmas.List.Folds.{list_all-append}
use Rattle.std.proofs.lemmas.List.Sums.{AllPass-from_list_all}
use Rattle.std.proofs.lemmas.List.Elements.{All-head, All-tail}
use Rattle.percent_encoding.proofs.PercentLemmas.{IsByte}
use Rattle.libyaml_types.specs.declared.enums.yaml_encoding_t.{yaml_encoding_t}
use Rattle.libyaml_types.specs.declared.enums.yaml_scalar_style_t.{yaml_scalar_style_t}
use Rattle.line_reading.specs.tokens.Field.{encoding_of, scalar_style_of, text_of}
use Rattle.line_writing.specs.Escape.{escaped, written_byte}
use Rattle.line_writing.specs.FieldTexts.{encoding_text, scalar_style_text, string_text}
use Rattle.line_writing.proofs.exported.EscapeLemmas.{percent_decode-escaped}

pub string_reads_back : (string : List ℕ) → All IsByte string → is_utf8 string ≡ true
    → text_of (string_text string) ≡ Some string
string_reads_back string small utf8 = grind (arith, percent_decode-escaped)

-- a written byte is above the space
abbrev above_space : ℕ → Bool
above_space b = ltb 0x20 b

written_above : agree_below (λ b. list_all above_space (written_byte b)) (λ b. true) 256 ≡ true
written_above = refl

escaped_above : (bs : List ℕ) → All IsByte bs → list_all above_space (escaped bs) ≡ true
unfolding escaped
escaped_above [] small = refl
escaped_above (b ∷ bs) small =
    list_all-append above_space (written_byte b) (flat_map written_byte bs)
    ∙ ap (λ t. t && list_all above_space (flat_map written_byte bs))
    (agree_below_at (λ x. list_all above_space (written_byte x)) (λ x. true) 256 b written_above
    (All-head IsByte b bs small))
    ∙ escaped_above bs (All-tail IsByte b bs small)

pub string_is_field : (string : List ℕ) → All IsByte string → All (λ b. 0x20 < b) (string_text string)
string_is_field string small k d within
    = ltb-true 0x20 (get_or (string_text string) k d)
    (AllPass-from_list_all above_space (string_text string) (escaped_above string small) k d within)

pub encoding_reads_back : (encoding : yaml_encoding_t) → encoding_of (encoding_text encoding) ≡ Some encoding
encoding_reads_back encoding = grind arith

pub style_reads_back : (s : yaml_scalar_style_t) → scalar_style_of (scalar_style_text s) ≡ Some s
style_reads_back s = grind arith
