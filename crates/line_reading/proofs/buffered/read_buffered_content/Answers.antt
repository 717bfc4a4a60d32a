use Rattle.std.proofs.Common.{◌≢◌, ◌==◌, ◌+◌, ◌<◌, ◌∷◌, All, codes, length, take, drop, get_or, ap, sym, subst, ◌∙◌, arith}
use Rattle.std.specs.List.{slice_split}
use denote.Enum.Bare.{same_true}
use Rattle.libyaml_types.specs.contracts.enums.yaml_token_type_t as token_type
use Rattle.libyaml_types.specs.declared.enums.yaml_token_type_t.TheVariants.{YAML_SCALAR_TOKEN}
use Rattle.line_reading.specs.tokens.Buffered.{IsBufferedContent}
use Rattle.line_reading.specs.tokens.TokenLine.{content_of, content_of_two}
use Rattle.line_reading.proofs.tokens.Buffers.{fields_read, when_read}
use Rattle.line_reading.proofs.tokens.PlainScalars.{tail_is, plain_pieces, plain_more, plain_are, plain_feed, plain_clean}
use Rattle.line_reading.proofs.buffered.read_buffered_content.Goals as goal

pub returns-in-Some-clause-some : goal.returns-in-Some-clause-some
returns-in-Some-clause-some c some =
    let bytes = c.args.bytes.now in
    let end = c.args.end in
    let text = c.in-Some.text.now in
    let rest = drop (end + 1) bytes in
    let clean = c.in-Some.ensures.0 in
    let is = ap (take (length text + 8)) (sym (tail_is bytes (end + 1))) ∙ c.in-Some.ensures.1 in
    subst (λ n. IsBufferedContent c.args.type_ bytes end n c.put_plain_scalar.new.content) {y = end + length text + 8}
    (omega arith)
    (fields_read c.args.type_ bytes end (length text + 7) c.put_plain_scalar.new.content c.requires c.if-bytes-end-ne32.false
    (plain_more rest text clean is) (plain_clean rest text clean is) (plain_feed rest text clean is)
    (ap (λ f. content_of c.args.type_ (slice_split (λ b. b == 32) f)) (plain_are rest text clean is)
    ∙ ap (content_of c.args.type_) (plain_pieces text clean)
    ∙ ap (λ t. content_of_two t (61 ∷ text) (codes "plain"))
    (same_true token_type.the_type tt c.args.type_ YAML_SCALAR_TOKEN (sym c.if-eq.ensures)) ∙ c.in_ok-put_plain_scalar.ensures.reads))

pub returns-clause-some : goal.returns-clause-some
returns-clause-some c =
    let bytes = c.args.bytes.now in
    let end = c.args.end in
    let rest = drop (end + 1) bytes in
    let tail = tail_is bytes (end + 1) in
    let len = c.len_before-len in
    let n = len.result in
    let more : n < length rest =
    omega (arith, ap length tail, len.ensures.bound, c.if-len-rest.false) in
    when_read c.ended-2.result c.read_pieces.result (end + n + 1) c.read_pieces.new.content
    (content_of c.args.type_ c.new.result)
    (λ l. IsBufferedContent c.args.type_ bytes end l c.read_pieces.new.content) c.ended-2.ensures.some c.read_pieces.ensures
    (λ is.
    fields_read c.args.type_ bytes end n c.read_pieces.new.content c.requires c.if-bytes-end-ne32.false more
    (subst (λ r. All (λ x. x ≢ 10) (take n r)) tail len.ensures.before)
    (ap (λ r. get_or r n 0) (sym tail) ∙ len.ensures.found (omega (arith, ap length tail, more)))
    (ap (λ r. content_of c.args.type_ (slice_split (λ b. b == 32) (take n r))) (sym tail)
    ∙ ap (content_of c.args.type_) (sym c.new.ensures) ∙ is))
