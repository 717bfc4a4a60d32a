use Rattle.std.proofs.Common.{[], ◌∷◌, ◌++◌, ◌∙◌, ap, string_bytes}
use Rattle.std.proofs.lemmas.Result.{on_ok_weaker}
use Rattle.libyaml_documents.specs.declared.node.yaml_node_t.{yaml_node_t}
use Rattle.line_writing.specs.DocumentText.{node_fields}
use Rattle.line_writing.specs.FieldTexts.{line_rest}
use Rattle.line_writing.proofs.SpacedLemmas.{line_appended}
use Rattle.line_writing.proofs.document_text.append_node.Goals as goal

pub returns : goal.returns
returns c =
    let fields = node_fields c.args.node.now.content in
    let seen = ap (λ (n : yaml_node_t). string_bytes c.append_tag.new.line ++ line_rest (node_fields n.content))
    c.node.view_is in
    on_ok_weaker c.append_node_rest.result
    (λ rest. line_appended _ _ _ _ _ (_ ∷ _ ∷ _ ∷ []) (_ ∷ []) fields c.in_ok-append_node_start.ensures
    c.in_ok-append_tag.ensures (rest ∙ seen))
    c.append_node_rest.ensures
