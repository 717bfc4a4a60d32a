-- How many collections are open.
use Rattle.std.specs.Prelude.{◌∷◌, ℕ, zero, suc, List, [], Option, None, Some}
use Rattle.libyaml_types.specs.Types.{event_type}
use Rattle.libyaml_types.specs.declared.enums.yaml_event_type_t.{yaml_event_type_t}
use Rattle.libyaml_types.specs.declared.enums.yaml_event_type_t.TheVariants as event_kinds
use Rattle.libyaml_grammar.specs.grammar.Events.{Event}

abbrev pub less_one : ℕ → ℕ
less_one zero = zero
less_one (suc n) = n

-- after an event of this kind, where so many were open before it; outside a document none
abbrev pub open_after : Option ℕ → yaml_event_type_t → Option ℕ
open_after None event_kinds.YAML_DOCUMENT_START_EVENT = Some zero
open_after None _ = None
open_after (Some n) event_kinds.YAML_DOCUMENT_END_EVENT = None
open_after (Some n) event_kinds.YAML_SEQUENCE_START_EVENT = Some (suc n)
open_after (Some n) event_kinds.YAML_MAPPING_START_EVENT = Some (suc n)
open_after (Some n) event_kinds.YAML_SEQUENCE_END_EVENT = Some (less_one n)
open_after (Some n) event_kinds.YAML_MAPPING_END_EVENT = Some (less_one n)
open_after (Some n) _ = Some n

abbrev pub open_from : Option ℕ → List Event → Option ℕ
open_from o [] = o
open_from o (e ∷ es) = open_from (open_after o (event_type e.content)) es

abbrev pub or_none : Option ℕ → ℕ
or_none None = zero
or_none (Some n) = n

-- how many collections of the document that is open these events begin and don't end
abbrev pub still_open : List Event → ℕ
still_open es = or_none (open_from None es)
