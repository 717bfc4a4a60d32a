-- What a token led to, and what the next one is wanted for (docs/DEFINITIONS.md, "The parser as a machine").
use Rattle.std.specs.Prelude.{◌∷◌, ◌++◌, ℕ, List, [], Option, None, Some}
use Rattle.libyaml_types.specs.declared.directive.yaml_version_directive_t.{yaml_version_directive_t}
use Rattle.libyaml_types.specs.declared.directive.yaml_tag_directive_t.{yaml_tag_directive_t}
use Rattle.libyaml_types.specs.declared.event.yaml_event_t.{yaml_event_t}
use Rattle.libyaml_types.specs.declared.token.unnamed_yaml_token_t_data.{unnamed_yaml_token_t_data}
use Rattle.libyaml_types.specs.declared.token.unnamed_yaml_token_t_data.TheVariants as tok
use Rattle.libyaml_types.specs.declared.token.unnamed_yaml_token_t_data_tag.{unnamed_yaml_token_t_data_tag}
use Rattle.libyaml_automaton.specs.Automaton as automaton
use Rattle.libyaml_events.specs.machine.Config.{Config, Machine}

-- The texts that the parser holds: those of a node's properties, or of a document's directives.
pub record Texts : Type 0 where
  pub anchor : Option (List ℕ)
  pub tag : Option unnamed_yaml_token_t_data_tag
  pub version : Option yaml_version_directive_t
  pub tag_directives : List yaml_tag_directive_t

abbrev pub no_texts : Texts
no_texts = record { anchor = None; tag = None; version = None; tag_directives = [] }

-- what the automaton wants the next token for, with the texts that are held
pub record Want : Type 0 where
  pub next : automaton.Purpose
  pub texts : Texts

-- the parser's state says it
abbrev pub AtState : Want
AtState = record { next = automaton.AtState; texts = no_texts }

-- an event, after which a token may be held, or nothing yet
pub data Progress : Type 0 where
  Given : yaml_event_t → Config → Progress
  Wants : Want → Machine → Progress

-- what is held once a token was taken: a property or a directive is added
abbrev pub with_property : Texts → unnamed_yaml_token_t_data → Texts
with_property h (tok.Anchor a) = record h { anchor = Some a.value }
with_property h (tok.Tag g) = record h { tag = Some g }
with_property h _ = h

abbrev pub with_directive : Texts → unnamed_yaml_token_t_data → Texts
with_directive h (tok.VersionDirective v) = record h { version = Some (record { major = v.major; minor = v.minor }) }
with_directive h (tok.TagDirective g)
    = record h { tag_directives = h.tag_directives ++ record { handle = g.handle; prefix = g.prefix } ∷ [] }
with_directive h _ = h

abbrev pub texts_after : Texts → unnamed_yaml_token_t_data → automaton.Purpose → Texts
texts_after h k (automaton.AfterProperties p r) = with_property h k
texts_after h k (automaton.AfterDirective start has_version) = with_directive h k
texts_after h k _ = no_texts
