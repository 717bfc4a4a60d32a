use Rattle.std.proofs.Common.{◌++◌, [], ◌∷◌, ap, ◌∙◌, sym, string_bytes}
use Rattle.std.proofs.lemmas.List.{append-nil}
use Rattle.std.proofs.lemmas.Result.{on_ok_weaker}
use Rattle.line_writing.specs.EventText.{event_fields}
use Rattle.line_writing.proofs.SpacedLemmas.{line_appended}
use Rattle.line_writing.proofs.event_line.append_event.Goals as goal

pub returns : goal.returns
returns c =
    let name = c.in_ok-append_name.ensures ∙ ap (λ l. string_bytes c.args.line.now ++ l) (sym (append-nil _)) in
    on_ok_weaker c.append_rest.result
    (λ rest. line_appended _ _ _ _ _ [] (_ ∷ _ ∷ []) (event_fields c.args.event.now.content) name
    c.in_ok-append_marks.ensures rest) c.append_rest.ensures
