-- What a step returned, and the event and the rest that it left, as the machine's result.
use Rattle.std.specs.Prelude.{◌≡◌, ℕ, List, Bool, true, false, Option, None, Some, Result, Ok, Err}
use Rattle.libyaml_types.specs.declared.event.yaml_event_t.{yaml_event_t}
use Rattle.libyaml_types.specs.declared.enums.yaml_error_type_t.{yaml_error_type_t}
use Rattle.libyaml_automaton.specs.Automaton.{AfterDirective, AfterProperties}
use Rattle.libyaml_automaton.specs.Automaton as automaton
use Rattle.libyaml_automaton.specs.Purposes as purposes
use Rattle.libyaml_events.specs.declared.step.Step.{Step}
use Rattle.libyaml_events.specs.declared.step.Step.TheVariants as stepped
use Rattle.libyaml_events.specs.declared.pending.Pending.{Pending}
use Rattle.libyaml_types.specs.declared.token.yaml_token_t.{yaml_token_t}
use Rattle.libyaml_types.specs.declared.token.unnamed_yaml_token_t_data_tag.{unnamed_yaml_token_t_data_tag}
use Rattle.libyaml_events.specs.machine.Config.{Machine, holding}
use Rattle.libyaml_events.specs.machine.Read.{PropertyTexts, DirectiveTexts}
use Rattle.libyaml_events.specs.machine.Want.{Texts, no_texts, Want, Progress, Given, Wants}

-- a text that is there
abbrev pub only_if : {A : Type 0} → Bool → Option A → Option A
only_if true o = o
only_if false o = None

-- of a node's properties; an anchor or a tag is one of this node where the automaton says so
abbrev pub property_texts : automaton.PropertiesRead → PropertyTexts → Texts
property_texts r p = record no_texts { anchor = only_if r.anchor p.anchor; tag = only_if r.tag p.tag }

-- of a document's directives
abbrev pub directive_texts : DirectiveTexts → Texts
directive_texts d = record no_texts { version = d.version; tag_directives = d.tag_directives }

-- the texts that are held
abbrev pub texts_for : automaton.Purpose → PropertyTexts → DirectiveTexts → Texts
texts_for (AfterProperties place r) p d = property_texts r p
texts_for (AfterDirective start has_version) p d = directive_texts d
texts_for _ p d = no_texts

-- what the next token is wanted for
abbrev pub wanted : Pending → Want
wanted p = record {
  next = purposes.purpose_of p.reading;
  texts = texts_for (purposes.purpose_of p.reading) p.properties p.directives;
}

-- the handle of the tag that was read last, which a step that failed leaves
abbrev pub handle_in : Option unnamed_yaml_token_t_data_tag → Option (List ℕ)
handle_in None = None
handle_in (Some g) = Some g.handle

abbrev pub held_handle : Pending → Option (List ℕ)
held_handle p = handle_in p.properties.tag

abbrev pub StillHeld : Want → Pending → Type 0
StillHeld w p = (g : unnamed_yaml_token_t_data_tag) → w.texts.tag ≡ Some g → held_handle p ≡ Some g.handle

-- the token t is held where the event comes before it; a step that failed has the kind of the error that is kept
abbrev pub result_of : Step → Pending → yaml_event_t → (t : yaml_token_t) → Machine → Result Progress yaml_error_type_t
result_of stepped.Given p e t c = Ok (Given e (holding None c))
result_of stepped.GivenBefore p e t c = Ok (Given e (holding (Some t) c))
result_of stepped.Wants p e t c = Ok (Wants (wanted p) c)
result_of stepped.Failed p e t c = Err c.fault.error
