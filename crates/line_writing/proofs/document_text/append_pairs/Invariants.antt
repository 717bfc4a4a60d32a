use Rattle.std.proofs.Common.{◌≡◌, ◌++◌, string_bytes, take, map}
use Rattle.line_writing.specs.DocumentText.{pair_text}
use Rattle.line_writing.specs.FieldTexts.{after_spaces}
use Rattle.line_writing.proofs.document_text.append_pairs.Given as goal

abbrev pub invariant-loop-pair : goal.invariant-loop-pair
invariant-loop-pair l =
    string_bytes l.line ≡ string_bytes l.initial.line ++ after_spaces (map pair_text (take l.pair-index l.pairs))
