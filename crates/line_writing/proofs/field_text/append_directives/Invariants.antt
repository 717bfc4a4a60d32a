use Rattle.std.proofs.Common.{◌≡◌, ◌++◌, string_bytes, take}
use Rattle.line_writing.specs.FieldTexts.{after_spaces, directive_fields}
use Rattle.line_writing.proofs.field_text.append_directives.Given as goal

abbrev pub invariant-loop-directive : goal.invariant-loop-directive
invariant-loop-directive l =
    string_bytes l.line ≡ string_bytes l.initial.line
    ++ after_spaces (directive_fields (take l.directive-index l.directives))
