-- The graph of a document, by recursion on its value (docs/DEFINITIONS.md, "Graphs"). A node's id is one more
-- than the nodes that start before it; es are the starts of those nodes, the newest first.
use Rattle.std.specs.Prelude.{ℕ, suc, ℤ, pos, List, [], ◌∷◌, length, Option, Some, None, Bool, true, false, bytes_eq}
use Rattle.libyaml_grammar.specs.grammar.Events.{Layout, mapping_style, sequence_style}
use Rattle.libyaml_grammar.specs.grammar.Nesting.{Value, Values, alias_value, collection_value, first_value, no_values, scalar_value}
use Rattle.libyaml_grammar.specs.grammar.Tokens.{Mark}
use Rattle.libyaml_grammar.specs.grammar.Trees.{Sort, mapping, sequence}
use Rattle.libyaml_documents.specs.LoadedNodes.{mapping_loaded, scalar_loaded, sequence_loaded}
use Rattle.libyaml_documents.specs.declared.node.yaml_node_t.{yaml_node_t}
use Rattle.libyaml_documents.specs.declared.pairs.yaml_node_pair_t.{yaml_node_pair_t}

-- a node's start: the anchor that the node carries, if it does, and where it starts
pub record Start : Type 0 where
  pub anchor : Option (List ℕ)
  pub mark : Mark

-- the node that carries an anchor: its id, and where it starts
pub record AnchoredNode : Type 0 where
  pub id : ℕ
  pub mark : Mark

abbrev pub carries : Option (List ℕ) → List ℕ → Bool
carries None a = false
carries (Some b) a = bytes_eq b a

abbrev pub anchored_node : List ℕ → List Start → Option AnchoredNode
anchored_node a [] = None
anchored_node a (s ∷ es) = elim (carries s.anchor a)
    [ true ↦ Some (record { id = suc (length es); mark = s.mark }) | false ↦ anchored_node a es ]

-- an alias that nothing carries has no id, and 0 stands for it
abbrev pub id_or : Option AnchoredNode → ℕ
id_or None = 0
id_or (Some c) = c.id

-- the ids of children as a sequence's items, and in turn as keys and values of a mapping; a key without value gives no pair
abbrev pub items : List ℕ → List ℤ
items [] = []
items (i ∷ is) = pos i ∷ items is

abbrev pub pairs : List ℕ → List yaml_node_pair_t
pairs [] = []
pairs (k ∷ []) = []
pairs (k ∷ v ∷ is) = record { key = pos k; value = pos v } ∷ pairs is

-- a collection's node with the ids of its children, from the start event's start to the end event's end
abbrev pub collection_loaded : Sort → (tag : Option (List ℕ)) → Layout → (children : List ℕ) → (start end : Mark)
    → yaml_node_t
collection_loaded sequence t s is m n = sequence_loaded t (sequence_style s) (items is) m n
collection_loaded mapping t s is m n = mapping_loaded t (mapping_style s) (pairs is) m n

-- the starts after a value, and after values one after the other
abbrev mutual
  pub starts_after : Value → List Start → List Start
  starts_after (alias_value a m n) es = es
  starts_after (scalar_value s m n) es = record { anchor = s.anchor; mark = m } ∷ es
  starts_after (collection_value k a t i s m n vs p q) es = starts_after_all vs (record { anchor = a; mark = m } ∷ es)

  pub starts_after_all : Values → List Start → List Start
  starts_after_all no_values es = es
  starts_after_all (first_value v vs) es = starts_after_all vs (starts_after v es)

-- the id of a value: that of its own node, or of the node which carries its anchor
abbrev pub id_of : Value → List Start → ℕ
id_of (alias_value a m n) es = id_or (anchored_node a.anchor es)
id_of (scalar_value s m n) es = suc (length es)
id_of (collection_value k a t i s m n vs p q) es = suc (length es)

abbrev pub ids_of_all : Values → List Start → List ℕ
ids_of_all no_values es = []
ids_of_all (first_value v vs) es = id_of v es ∷ ids_of_all vs (starts_after v es)

-- The graph: the nodes of a value, each before its children, and after them l. An anchor is known from its node's start
-- on, so a node may hold itself.
abbrev mutual
  pub nodes_of : Value → List Start → List yaml_node_t → List yaml_node_t
  nodes_of (alias_value a m n) es l = l
  nodes_of (scalar_value s m n) es l = scalar_loaded s m n ∷ l
  nodes_of (collection_value k a t i s m n vs p q) es l =
      collection_loaded k t s (ids_of_all vs (record { anchor = a; mark = m } ∷ es)) m q
      ∷ nodes_of_all vs (record { anchor = a; mark = m } ∷ es) l

  pub nodes_of_all : Values → List Start → List yaml_node_t → List yaml_node_t
  nodes_of_all no_values es l = l
  nodes_of_all (first_value v vs) es l = nodes_of v es (nodes_of_all vs (starts_after v es) l)
