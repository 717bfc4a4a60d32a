-- The errors of the loader (docs/DEFINITIONS.md, "Graphs and loads").
use Rattle.libyaml_types.specs.declared.mark.yaml_mark_t.{yaml_mark_t}
use Rattle.libyaml_types.specs.Fault.{Fault, memory_fault}
use Rattle.libyaml_graphs.specs.graphs.ComposerFaults.{repeated_anchor, undefined_alias}
use Rattle.libyaml_loader.specs.declared.refusal.Refusal.{Refusal}
use Rattle.libyaml_loader.specs.declared.refusal.Refusal.TheVariants.{Memory, UndefinedAlias, RepeatedAnchor}

-- the error that is kept, of an event that starts at the second mark
abbrev pub fault_by : Refusal → (first_mark mark : yaml_mark_t) → Fault
fault_by Memory first_mark mark = memory_fault
fault_by UndefinedAlias first_mark mark = undefined_alias mark
fault_by RepeatedAnchor first_mark mark = repeated_anchor first_mark mark
