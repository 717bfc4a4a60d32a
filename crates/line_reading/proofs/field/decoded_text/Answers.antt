use Rattle.std.proofs.Common.{◌≡◌, IsUtf8, subst, ◌∙◌, ap, string_bytes, arith}
use Rattle.std.proofs.lemmas.Bool.{false≢true}
use Rattle.std.proofs.lemmas.Str.{IsUtf8-string_bytes}
use Rattle.percent_encoding.specs.Percent.{percent_decode}
use Rattle.line_reading.proofs.tokens.Texts.{utf8_text-yes, utf8_text-no}
use Rattle.line_reading.proofs.field.decoded_text.Goals as goal

pub returns-in-Ok : goal.returns-in-Ok
returns-in-Ok c =
    let whole : string_bytes c.in-Ok.text ≡ percent_decode c.args.escaped.now =
    ap (λ v. v.items) c.in-Ok.ensures.ok ∙ c.in_ok-append_to.ensures.ok
    ∙ (rw (c.in_ok-bytes.ensures.items) c.percent_decode.ensures.bytes) in
    rw whole (utf8_text-yes _ (subst IsUtf8 whole (IsUtf8-string_bytes c.in-Ok.text)))

pub returns : goal.returns
returns c = grind (arith, utf8_text-no, false≢true)
