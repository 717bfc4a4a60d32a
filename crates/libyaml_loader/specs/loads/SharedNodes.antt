-- What half a document has in common with the document that a load gives which goes on (docs/DEFINITIONS.md, "Half a
-- document").
use Rattle.std.specs.Prelude.{◌≡◌, ◌++◌, ◌∷◌, ℤ, List, []}
use Rattle.libyaml_documents.specs.declared.node.unnamed_yaml_node_t_data.{unnamed_yaml_node_t_data}
use Rattle.libyaml_documents.specs.declared.node.unnamed_yaml_node_t_data.TheVariants.{Scalar, Sequence, Mapping}
use Rattle.libyaml_documents.specs.declared.node.yaml_node_t.{yaml_node_t}
use Rattle.libyaml_documents.specs.declared.pairs.yaml_node_pair_t.{yaml_node_pair_t}
use Rattle.libyaml_graphs.specs.machine.Loader.{State, between, within}

-- the same text; or the same style, these entries, and maybe more after them
abbrev pub ContentBegins : unnamed_yaml_node_t_data → unnamed_yaml_node_t_data → Type 0
ContentBegins (Scalar s) c = c ≡ Scalar s
ContentBegins (Sequence s) c = (more : List ℤ) × (c ≡ Sequence (record s { items = s.items ++ more }))
ContentBegins (Mapping s) c = (more : List yaml_node_pair_t) × (c ≡ Mapping (record s { pairs = s.pairs ++ more }))

-- The one node is the other so far: its end may be another.
pub record NodeSoFar (x y : yaml_node_t) : Type 0 where
  pub tag : y.tag ≡ x.tag
  pub start : y.start_mark ≡ x.start_mark
  pub content : ContentBegins x.content y.content

-- each of these nodes is so far the one of the same id among the others
abbrev pub NodesBegin : List yaml_node_t → List yaml_node_t → Type 0
NodesBegin [] nodes = Unit {0}
NodesBegin (x ∷ l) [] = ⊥
NodesBegin (x ∷ l) (y ∷ nodes) = NodeSoFar x y × NodesBegin l nodes

-- the nodes of the document that is open
abbrev pub nodes_so_far : State → List yaml_node_t
nodes_so_far between = []
nodes_so_far (within o l) = l.nodes
