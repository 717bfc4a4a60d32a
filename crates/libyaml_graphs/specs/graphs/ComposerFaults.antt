-- The composer errors (docs/DEFINITIONS.md, "Composer errors"): an alias whose anchor no earlier node has, and an
-- anchor that an earlier node has.
use Rattle.std.specs.Prelude.{ℕ, List, [], ◌∷◌, Option, Some, None, codes}
use Rattle.libyaml_types.specs.declared.enums.yaml_error_type_t.TheVariants.{YAML_COMPOSER_ERROR}
use Rattle.libyaml_types.specs.Fault.{Fault, no_fault}
use Rattle.libyaml_grammar.specs.grammar.Tokens.{Mark}
use Rattle.libyaml_graphs.specs.graphs.Graphs.{AnchoredNode, Start, anchored_node}
use Rattle.libyaml_graphs.specs.graphs.GraphParts.{Part, alias_part, following, end_part, leaf_part, start_part}

abbrev pub undefined_alias : Mark → Fault
undefined_alias m = record no_fault {
  error = YAML_COMPOSER_ERROR;
  problem = Some (codes "found undefined alias");
  problem_mark = m;
}

abbrev pub repeated_anchor : (first second : Mark) → Fault
repeated_anchor m n = record no_fault {
  error = YAML_COMPOSER_ERROR;
  problem = Some (codes "second occurrence");
  problem_mark = n;
  context
      = Some (codes "found duplicate anchor; first occurrence");
  context_mark = m;
}

-- the aliases, scalars and starts of collections of a document
abbrev pub heads : List Part → List Part
heads [] = []
heads (alias_part a m ∷ r) = alias_part a m ∷ heads r
heads (leaf_part a x ∷ r) = leaf_part a x ∷ heads r
heads (start_part a x ∷ r) = start_part a x ∷ heads r
heads (end_part n ∷ r) = heads r

-- what is wrong with an alias, and with a node that carries an anchor, where es are the starts before it
abbrev pub alias_fault : Option AnchoredNode → Mark → Option Fault
alias_fault None m = Some (undefined_alias m)
alias_fault (Some c) m = None

abbrev pub known_fault : Option AnchoredNode → Mark → Option Fault
known_fault None m = None
known_fault (Some c) m = Some (repeated_anchor c.mark m)

abbrev pub anchor_fault : List Start → Option (List ℕ) → Mark → Option Fault
anchor_fault es None m = None
anchor_fault es (Some a) m = known_fault (anchored_node a es) m

abbrev pub composer_part_fault : List Start → Part → Option Fault
composer_part_fault es (alias_part a m) = alias_fault (anchored_node a es) m
composer_part_fault es (leaf_part a x) = anchor_fault es a x.start_mark
composer_part_fault es (start_part a x) = anchor_fault es a x.start_mark
composer_part_fault es (end_part n) = None

-- the composer error: that of the first part which has one
abbrev pub or_else : Option Fault → Option Fault → Option Fault
or_else None g = g
or_else (Some f) g = Some f

abbrev pub composer_fault : List Start → List Part → Option Fault
composer_fault es [] = None
composer_fault es (p ∷ r) = or_else (composer_part_fault es p) (composer_fault (following p es) r)
