-- The loader, event by event, gives the loads.
use Rattle.std.proofs.Common.{List, Option, Some, None, arith}
use Rattle.libyaml_types.specs.declared.event.unnamed_yaml_event_t_data.{unnamed_yaml_event_t_data}
use Rattle.libyaml_types.specs.Fault.{Fault}
use Rattle.libyaml_grammar.specs.grammar.Tokens.{Mark}
use Rattle.libyaml_documents.specs.declared.node.yaml_node_t.{yaml_node_t}
use Rattle.libyaml_graphs.specs.graphs.GraphParts.{Part, part_in}
use Rattle.libyaml_graphs.proofs.machine.Built.{BeginsEmpty}

-- what comes of a document, by its error or by its nodes
pub record Answering (A : Type 0) : Type 0 where
  pub of_fault : Fault → A
  pub of_nodes : List yaml_node_t → A

abbrev pub determined_events : {A : Type 0} → Answering A → Option Fault → List yaml_node_t → A
determined_events w (Some f) nodes = w.of_fault f
determined_events w None nodes = w.of_nodes nodes

-- a node begins without children
abbrev pub IfBeginsEmpty : Option Part → Type 0
IfBeginsEmpty None = Unit {0}
IfBeginsEmpty (Some p) = BeginsEmpty p

pub begins_empty : (k : unnamed_yaml_event_t_data) (m n : Mark) → IfBeginsEmpty (part_in k m n)
begins_empty k m n = grind arith
