-- texts: their escapes and their UTF-8
use Rattle.std.proofs.Common.{◌≡◌, ◌≢◌, ℕ, All, zero, suc, List, [], ◌∷◌, Some, None, refl, IsUtf8, arith}
use Rattle.std.proofs.lemmas.Bool.{false_from_ne_true}
use Rattle.std.proofs.lemmas.List.Elements.{All-head, All-tail, All-weaker}
use Rattle.std.proofs.lemmas.Str.{IsUtf8-from_ascii, IsUtf8-from_is_utf8, is_utf8-from_IsUtf8}
use Rattle.std.specs.Str.{IsAscii, is_utf8}
use Rattle.line_reading.specs.Clean.{IsClean}
use Rattle.percent_encoding.specs.Percent.{percent_decode}
use Rattle.percent_encoding.proofs.PercentLemmas.{percent_decode-nil, percent_decode_not_percent}
use Rattle.line_reading.specs.tokens.Field.{utf8_text}

pub utf8_text-yes : (bs : List ℕ) → IsUtf8 bs → utf8_text bs ≡ Some bs
utf8_text-yes bs h = rw (is_utf8-from_IsUtf8 bs h) refl

pub utf8_text-no : (bs : List ℕ) → ¬ IsUtf8 bs → utf8_text bs ≡ None
utf8_text-no bs h = rw (false_from_ne_true (is_utf8 bs) (λ e. h (IsUtf8-from_is_utf8 bs e))) refl

no_escape : (bs : List ℕ) → All (λ x. x ≢ 37) bs → percent_decode bs ≡ bs
no_escape [] h = percent_decode-nil
no_escape (b ∷ bs) h = cc (percent_decode_not_percent b bs (All-head (λ x. x ≢ 37) b bs h), no_escape bs (All-tail (λ x. x ≢ 37) b bs h))

-- clean bytes stand for themselves, and are a text
pub clean_ascii : (bs : List ℕ) → All IsClean bs → IsAscii bs
clean_ascii [] h i = omega arith
clean_ascii (b ∷ bs) h zero = omega (arith, (All-head IsClean b bs h).1)
clean_ascii (b ∷ bs) h (suc i) = clean_ascii bs (All-tail IsClean b bs h) i

pub clean_text : (bs : List ℕ) → All IsClean bs → utf8_text (percent_decode bs) ≡ Some bs
clean_text bs h =
    cc (no_escape bs (All-weaker IsClean (λ x. x ≢ 37) (λ x c. c.2) bs h), utf8_text-yes bs (IsUtf8-from_ascii bs (clean_ascii bs h)))
