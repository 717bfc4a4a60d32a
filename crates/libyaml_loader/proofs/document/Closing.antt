-- The document that is open, closed where a load fails.
use Rattle.std.proofs.Common.{◌≡◌, List, None, Option, Some, refl, Bool, true, false, sym, ap, subst, ◌∙◌}
use Rattle.libyaml_grammar.specs.grammar.Tokens.{Mark}
use Rattle.libyaml_documents.specs.Documents.{Document}
use Rattle.libyaml_documents.specs.declared.node.yaml_node_t.{yaml_node_t}
use Rattle.libyaml_graphs.specs.loads.Loads.{document as made}
use Rattle.libyaml_graphs.specs.machine.Loader.{going}
use Rattle.libyaml_loader.specs.declared.composer.DocumentBuilder.{DocumentBuilder}
use Rattle.libyaml_loader.specs.declared.context.loader_ctx.{loader_ctx}
use Rattle.libyaml_loader.specs.document.Context.{loader_of, opening_of_document, with_nodes}
use Rattle.libyaml_loader.specs.loads.HalfDocument.{IsHalf, NeedsValue, closed_at}
use Rattle.libyaml_loader.specs.pushes.Composing.{IsSound, composer_state, ended_by, state_by}

module _ (b : DocumentBuilder) (m : Mark) where
  abbrev Half : Option Document → Bool → Type 0
  Half d is_open = IsHalf b.max_entries m (state_by is_open b.ctx) d

  pub none_here : b.is_open ≡ false → IsHalf b.max_entries m (composer_state b) None
  none_here closed = subst (Half None) (sym closed) refl

  pub no_memory : b.is_open ≡ true → IsSound b → NeedsValue b.ctx.collections.most (loader_of b.ctx)
      → IsHalf b.max_entries m (composer_state b) None
  no_memory here sound needs = subst (Half None) (sym here) (rw sound.bound at needs)

  pub half_here : (x : loader_ctx) (y : Document) → b.is_open ≡ true → IsSound b
      → closed_at b.ctx.collections.most m (loader_of b.ctx).stack (loader_of b.ctx) ≡ going (loader_of x) → x.document ≡ with_nodes x.document.nodes b.ctx.document
      → y ≡ ended_by (record { is_implicit = true; mark = m }) x → IsHalf b.max_entries m (composer_state b) (Some y)
  half_here x y here sound closed document ended = subst (Half (Some y)) (sym here)
      (loader_of x, rw sound.bound at closed, ended ∙ ap (λ (d : Document). ended_as d x.document.nodes) document)
    where
      ended_as : Document → List yaml_node_t → Document
      ended_as d nodes = made (opening_of_document d) nodes (record { is_implicit = true; mark = m })
