-- The numbers that C sees.
use Rattle.std.specs.Prelude.{◌==◌, ◌||◌, ℕ, zero, suc, ℤ, pos, negsuc, Bool, true, false, nat_lt, not, if◌then◌else◌}
use Rattle.libyaml_types.specs.declared.enums.yaml_event_type_t.{yaml_event_type_t}
use Rattle.libyaml_types.specs.declared.enums.yaml_event_type_t.TheVariants as event_kinds
use Rattle.libyaml_composer.specs.declared.deed.Deed.{Deed}
use Rattle.libyaml_composer.specs.declared.deed.Deed.TheVariants as deed

abbrev pub deed_number : Deed → ℕ
deed_number deed.Passes = 0
deed_number deed.Begins = 1
deed_number deed.Ends = 2
deed_number deed.Root = 3
deed_number deed.Item = 4
deed_number deed.Key = 5
deed_number deed.Value = 6
deed_number deed.Closes = 7
deed_number deed.FullStack = 8
deed_number deed.UndefinedAlias = 9
deed_number deed.RepeatedAnchor = 10
deed_number deed.FullList = 11
deed_number deed.Bad = 12

-- a flag is set unless it is 0
abbrev pub is_set : ℕ → Bool
is_set n = not (n == 0)

-- an id is any number but 0, which stands for none
abbrev pub is_id : ℤ → Bool
is_id (pos zero) = false
is_id (pos (suc n)) = true
is_id (negsuc n) = true

-- libyaml's numbers of events; of other bytes none
abbrev pub event_kind : ℕ → yaml_event_type_t
event_kind byte =
    if byte == 1 then event_kinds.YAML_STREAM_START_EVENT else
    if byte == 2 then event_kinds.YAML_STREAM_END_EVENT else
    if byte == 3 then event_kinds.YAML_DOCUMENT_START_EVENT else
    if byte == 4 then event_kinds.YAML_DOCUMENT_END_EVENT else
    if byte == 5 then event_kinds.YAML_ALIAS_EVENT else
    if byte == 6 then event_kinds.YAML_SCALAR_EVENT else
    if byte == 7 then event_kinds.YAML_SEQUENCE_START_EVENT else
    if byte == 8 then event_kinds.YAML_SEQUENCE_END_EVENT else
    if byte == 9 then event_kinds.YAML_MAPPING_START_EVENT else
    if byte == 10 then event_kinds.YAML_MAPPING_END_EVENT else
    event_kinds.YAML_NO_EVENT

-- nothing was done
abbrev pub is_undone_number : ℕ → Bool
is_undone_number n = (n == 0) || nat_lt 7 n
