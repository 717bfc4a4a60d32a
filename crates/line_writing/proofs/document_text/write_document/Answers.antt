use Rattle.std.proofs.Common.{◌≡◌, ◌++◌, List, ℕ, Option, Result, Ok, Err, OnOk, ap, ◌∙◌, subst}
use Rattle.std.specs.List.{concat}
use Rattle.std.specs.Io.KnownBytes.{Appends}
use Rattle.std.proofs.KnownBytes.{Appends-trans}
use Rattle.line_writing.specs.DocumentText.{document_line, node_lines}
use Rattle.line_writing.proofs.DocumentLemmas.{wrote_none, wrote_after}
use Rattle.line_writing.proofs.document_text.write_document.Goals as goal

-- lines after a first one
then_ok : {X E : Type 0} (r : Result X E) (a b c : Option (List ℕ)) (first rest : List ℕ) → Appends a b first
    → OnOk r (Appends b c rest)
    → OnOk r (Appends a c (first ++ rest))
then_ok (Ok x) a b c first rest h k = Appends-trans a b c first rest h k
then_ok (Err e) a b c first rest h k = tt

pub returns-in_err-append_document-clause-memory : goal.returns-in_err-append_document-clause-memory
returns-in_err-append_document-clause-memory g c refused = wrote_none _ _ _

pub returns-clause-ok : goal.returns-clause-ok
returns-clause-ok g c =
    let document = c.args.document.now in
    let line = c.in_ok-append_document.ensures ∙ ap (λ l. l ++ document_line document) c.in_ok-line.ensures.bytes in
    then_ok c.write_nodes.result _ _ _ (document_line document) (concat (node_lines 1 document.nodes))
    (subst (Appends _ _) line c.in_ok-write_line.ensures.ok)
    (rw c.nodes.ensures.all at c.write_nodes.ensures.ok)

pub returns-clause-memory : goal.returns-clause-memory
returns-clause-memory g c refused =
    let document = c.args.document.now in
    let line = c.in_ok-append_document.ensures ∙ ap (λ l. l ++ document_line document) c.in_ok-line.ensures.bytes in
    wrote_after (document_line document) (node_lines 1 document.nodes) _ _ _
    (subst (Appends _ _) line c.in_ok-write_line.ensures.ok)
    (rw c.nodes.ensures.all at (c.write_nodes.ensures.memory refused))

pub returns-in_err-line-clause-memory : goal.returns-in_err-line-clause-memory
returns-in_err-line-clause-memory g c refused = wrote_none _ _ _
