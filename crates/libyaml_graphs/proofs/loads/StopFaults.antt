-- What stops a load is out of memory or a composer error.
use Rattle.std.proofs.Common.{◌≡◌, ◌⊎◌, ◌++◌, ◌∷◌, ℕ, List, [], Option, Some, None, Err, arith}
use Rattle.libyaml_types.specs.declared.enums.yaml_error_type_t.TheVariants.{YAML_COMPOSER_ERROR}
use Rattle.libyaml_documents.specs.declared.node.yaml_node_t.{yaml_node_t}
use Rattle.libyaml_types.specs.Fault.{Fault, memory_fault}
use Rattle.libyaml_grammar.specs.runs.Runs.{Ending, Ends}
use Rattle.libyaml_grammar.specs.grammar.Events.{Event}
use Rattle.libyaml_graphs.specs.graphs.ComposerFaults.{composer_part_fault}
use Rattle.libyaml_graphs.specs.graphs.GraphParts.{Closing, Opening, Part, following}
use Rattle.libyaml_graphs.specs.graphs.Graphs.{Start}
use Rattle.libyaml_graphs.specs.loads.Bounds.{first_stop, next_bounded}
use Rattle.libyaml_graphs.specs.loads.Loads.{Begun, load_answer, begun, last_load, next_by}

abbrev OfLoader : Fault → Type 0
OfLoader f = (f ≡ memory_fault) ⊎ (f.error ≡ YAML_COMPOSER_ERROR)

abbrev IfStops : Option Fault → Type 0
IfStops None = Unit {0}
IfStops (Some f) = OfLoader f

of_part : (es : List Start) (p : Part) → IfStops (composer_part_fault es p)
of_part es p = grind arith

of_stop : (n : ℕ) (es : List Start) (before l : List Part) → IfStops (first_stop n es before l)
of_stop n es before [] = tt
of_stop n es before (p ∷ r) = grind (arith, of_part es p, of_stop n (following p es) (before ++ p ∷ []) r)

module _ (f : Fault) where
  of_answer : (o : Option Fault) (c : Option Closing) (b : Opening) (nodes : List yaml_node_t) → IfStops o
      → load_answer o c b nodes (last_load Ends) ≡ Err f
      → OfLoader f
  of_answer o c b nodes h is = grind arith

  of_next : (n : ℕ) (bs : List Begun) → next_by (first_stop n [] []) Ends bs ≡ Err f → OfLoader f
  of_next n bs is = grind (arith, of_answer, of_stop)

  pub in_stream : (n : ℕ) (e : List Event) → next_bounded n e Ends ≡ Err f → OfLoader f
  in_stream n e is = of_next n (begun e) is

  pub whatever_follows : (n : ℕ) (e : List Event)
      → ((rest : List Event) (x : Ending) → next_bounded n (e ++ rest) x ≡ Err f) → OfLoader f
  whatever_follows n e is = in_stream n (e ++ []) (is [] Ends)
