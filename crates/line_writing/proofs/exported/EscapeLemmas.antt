-- That percent-encoding with our set writes the escapes, and that percent-decoding reads them.
use Rattle.std.proofs.Common.{◌≡◌, ◌++◌, ◌/◌, ◌%◌, ◌<◌, ℕ, List, [], ◌∷◌, All, true, false, refl, ne_eqb, ap, ◌∙◌, arith, sym, if◌then◌else◌}
use Rattle.std.specs.Fmt.{digit_glyph}
use Rattle.std.specs.List.{flat_map}
use Rattle.std.proofs.lemmas.Bool.{agree_below, agree_below_at, lt-leb, le-ltb}
use Rattle.std.proofs.lemmas.List.Elements.{All-head, All-tail}
use Rattle.percent_encoding.specs.AsciiSet.{should_percent_encode}
use Rattle.percent_encoding.specs.Percent.{percent_encode, percent_encode_byte, encode_byte, percent_decode}
use Rattle.percent_encoding.proofs.PercentLemmas.{round_trip, IsByte}
use Rattle.line_writing.specs.declared.escape.TheConstants.{ESCAPED}
use Rattle.line_reading.specs.Clean.{IsClean}
use Rattle.line_writing.specs.Escape.{needs_escape, escape, escaped, written_byte}

-- the set has exactly the bytes that need an escape
checked : agree_below (should_percent_encode ESCAPED) needs_escape 256 ≡ true
unfolding should_percent_encode
checked = refl

encoded_byte : (b : ℕ) → b < 256 → encode_byte ESCAPED b ≡ written_byte b
unfolding percent_encode_byte
encoded_byte b small =
    let agree = agree_below_at (should_percent_encode ESCAPED) needs_escape 256 b checked small in
    let high : b / 16 % 16 ≡ b / 16 = omega arith in
    ap (λ t. if t then percent_encode_byte b else b ∷ []) agree
    ∙ ap (λ h. if needs_escape b then 37 ∷ digit_glyph true h ∷ digit_glyph true (b % 16) ∷ [] else b ∷ []) high

pub percent_encode-escaped : (bs : List ℕ) → All IsByte bs → percent_encode ESCAPED bs ≡ escaped bs
unfolding percent_encode escaped
percent_encode-escaped [] small = refl
percent_encode-escaped (b ∷ bs) small =
    ap (λ x. x ++ flat_map (encode_byte ESCAPED) bs) (encoded_byte b (All-head IsByte b bs small))
    ∙ ap (λ x. written_byte b ++ x) (percent_encode-escaped bs (All-tail IsByte b bs small))

-- a text of clean bytes has no escape
clean_byte : (b : ℕ) → IsClean b → needs_escape b ≡ false
clean_byte b h = rw (lt-leb b 0x20 h.0, ne_eqb b 0x25 h.2, le-ltb 0x7E b (omega (arith, h.1))) refl

pub escaped-clean : (bs : List ℕ) → All IsClean bs → escaped bs ≡ bs
unfolding escaped
escaped-clean [] h = refl
escaped-clean (b ∷ bs) h =
    ap (λ t. (if t then escape b else b ∷ []) ++ flat_map written_byte bs) (clean_byte b (All-head IsClean b bs h))
    ∙ ap (λ x. b ∷ x) (escaped-clean bs (All-tail IsClean b bs h))

-- and percent-decoding reads them
pub percent_decode-escaped : (bs : List ℕ) → All IsByte bs → percent_decode (escaped bs) ≡ bs
percent_decode-escaped bs small = ap percent_decode (sym (percent_encode-escaped bs small))
    ∙ round_trip ESCAPED bs refl small
