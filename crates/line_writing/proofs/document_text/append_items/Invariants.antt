use Rattle.std.proofs.Common.{◌≡◌, ◌++◌, string_bytes, take, map}
use Rattle.std.specs.Fmt.{signed_decimal}
use Rattle.line_writing.specs.FieldTexts.{after_spaces}
use Rattle.line_writing.proofs.document_text.append_items.Given as goal

abbrev pub invariant-loop-item : goal.invariant-loop-item
invariant-loop-item l =
    string_bytes l.line ≡ string_bytes l.initial.line ++ after_spaces (map signed_decimal (take l.item-index l.items))
