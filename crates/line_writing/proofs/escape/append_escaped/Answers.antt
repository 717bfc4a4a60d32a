use Rattle.std.proofs.Common.{arith, rules}
use Rattle.std.proofs.lemmas.List.Elements.{All-from_get_or}
use Rattle.percent_encoding.proofs.PercentLemmas.{IsByte}
use Rattle.line_writing.proofs.exported.EscapeLemmas.{percent_encode-escaped, escaped-clean}
use Rattle.line_writing.proofs.escape.append_escaped.Goals as goal

pub returns-then-is_clean : goal.returns-then-is_clean
returns-then-is_clean c =
    let clean = c.is_clean.ensures.clean c.if-is_clean.true in
    rw (← c.as_bytes.ensures.value, escaped-clean c.as_bytes.result.now clean, c.as_bytes.ensures.value) (search rules)

pub returns : goal.returns
returns c =
    let small = All-from_get_or IsByte c.args.text.now 0 (λ i within. omega (arith, c.type_inv.text i)) in
    rw (← percent_encode-escaped c.args.text.now small, ← c.utf8_percent_encode.ensures.text) c.append_to.ensures.ok
