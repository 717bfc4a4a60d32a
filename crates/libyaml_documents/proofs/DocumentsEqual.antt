-- The comparison of documents decides whether two are one.
use Rattle.std.proofs.Common.{◌≡◌}
use Rattle.std.specs.Bool.{Decides}
use Rattle.std.specs.Cmp.{booleans_Decides}
use Rattle.std.specs.Cmp.Lexicographic.{pointwise_decides}
use Rattle.libyaml_documents.specs.Documents.{Document}
use Rattle.libyaml_documents.specs.Equal.{same_document}
use Rattle.libyaml_documents.proofs.Choices.{both, through}
use Rattle.libyaml_documents.proofs.Fields.{mark_decides, versions_decide, directives_decide}
use Rattle.libyaml_documents.proofs.NodesEqual.{node_decides}

pub document_decides : (a b : Document) → Decides (same_document a b) (a ≡ b)
document_decides a b =
    through (both (pointwise_decides node_decides a.nodes b.nodes)
    (both (versions_decide a.version_directive b.version_directive)
    (both (directives_decide a.tag_directives b.tag_directives)
    (both (booleans_Decides a.start_implicit b.start_implicit)
    (both (booleans_Decides a.end_implicit b.end_implicit)
    (both (mark_decides a.start_mark b.start_mark) (mark_decides a.end_mark b.end_mark)))))))
    (λ p i. record {
      nodes = p.0 i;
      version_directive = p.1.0 i;
      tag_directives = p.1.1.0 i;
      start_implicit = p.1.1.1.0 i;
      end_implicit
          = p.1.1.1.1.0 i;
      start_mark = p.1.1.1.1.1.0 i;
      end_mark = p.1.1.1.1.1.1 i;
    })
    (λ e. search)
