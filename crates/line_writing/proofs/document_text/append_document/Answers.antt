use Rattle.std.proofs.Common.{◌++◌, [], ◌∷◌, codes, ap, ◌∙◌, sym, string_bytes}
use Rattle.std.proofs.lemmas.List.{append-nil}
use Rattle.std.proofs.lemmas.Result.{on_ok_weaker}
use Rattle.line_writing.specs.DocumentText.{document_fields}
use Rattle.line_writing.proofs.SpacedLemmas.{line_appended}
use Rattle.line_writing.proofs.document_text.append_document.Goals as goal

pub returns : goal.returns
returns c =
    let name = c.in_ok-push_str.ensures.bytes ∙ ap (λ l. string_bytes c.args.line.now ++ l)
    (sym (append-nil (codes "DOCUMENT"))) in
    let marks = rw (c.start_mark.ensures, c.end_mark.ensures) at c.in_ok-append_marks.ensures in
    on_ok_weaker c.append_document_rest.result
    (λ rest. line_appended _ _ _ _ (codes "DOCUMENT") [] (_ ∷ _ ∷ []) (document_fields c.args.document.now) name
    marks rest) c.append_document_rest.ensures
