use Rattle.std.proofs.Common.{◌<◌, length, subst, sym, is_ok}
use Rattle.libyaml_documents.proofs.Ids.{AreNodes-push, KeepsTypes-pushed}
use Rattle.libyaml_documents.specs.Documents.{Document, most_nodes}
use Rattle.libyaml_documents.specs.Nodes.{KeepsTypes}
use Rattle.libyaml_documents.proofs.document.add.push_node.Goals as goal

pub invariant_of-document : goal.invariant_of-document
invariant_of-document c =
    AreNodes-push (is_ok c.push.result) c.document.inside.nodes.items c.push.new.nodes.items c.args.node
    c.push.ensures.items
    (subst (λ (d : Document). length d.nodes < most_nodes) (sym c.document.view_is) c.requires.room)
    c.requires.childless c.document.invariant

pub returns-clause-types_kept : goal.returns-clause-types_kept
returns-clause-types_kept c =
    subst (λ (d : Document). KeepsTypes d.nodes c.push.new.nodes.items) c.document.view_is
    (KeepsTypes-pushed (is_ok c.push.result) c.document.inside.nodes.items c.push.new.nodes.items c.args.node
    c.push.ensures.items)
