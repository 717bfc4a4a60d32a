-- A result that is put.
use Rattle.std.proofs.Common.{◌≡◌, ◌⊎◌, ◌∙◌, ◌∷◌, ◌++◌, [], None, Some, true, inl, inr, Result, Ok, Err, refl, sym, ap, subst, arith}
use Rattle.libyaml_types.specs.Events.{zero_mark}
use Rattle.libyaml_types.specs.Fault.{Fault, memory_fault}
use Rattle.libyaml_types.specs.Types.{token_type}
use Rattle.libyaml_types.specs.declared.enums.yaml_error_type_t.{yaml_error_type_t}
use Rattle.libyaml_types.specs.declared.enums.yaml_error_type_t.TheVariants.{YAML_PARSER_ERROR}
use Rattle.libyaml_types.specs.declared.enums.yaml_token_type_t.TheVariants as kinds
use Rattle.libyaml_types.specs.declared.event.yaml_event_t.{yaml_event_t}
use Rattle.libyaml_types.specs.declared.token.yaml_token_t.{yaml_token_t}
use Rattle.libyaml_types.specs.declared.token.unnamed_yaml_token_t_data.{unnamed_yaml_token_t_data}
use Rattle.libyaml_types.specs.declared.token.unnamed_yaml_token_t_data.TheVariants as tok
use Rattle.libyaml_types.specs.declared.token.unnamed_yaml_token_t_data_tag_directive.{unnamed_yaml_token_t_data_tag_directive}
use Rattle.libyaml_automaton.specs.declared.action.Action.{Action}
use Rattle.libyaml_automaton.specs.declared.action.Action.TheVariants as action
use Rattle.libyaml_automaton.specs.declared.next.Next.{Next}
use Rattle.libyaml_automaton.specs.declared.next.Next.TheVariants as next
use Rattle.libyaml_automaton.specs.declared.reading.Reading.{Reading}
use Rattle.libyaml_automaton.specs.Outcomes.{IsOutcome, outcome}
use Rattle.libyaml_automaton.specs.Automaton as automaton
use Rattle.libyaml_automaton.specs.Config as automaton_config
use Rattle.libyaml_automaton.specs.Fits.{FitsAtDirective}
use Rattle.libyaml_automaton.specs.Numbers.{next_of}
use Rattle.libyaml_automaton.specs.Purposes.{purpose_by}
use Rattle.libyaml_automaton.specs.Purposes as purposes
use Rattle.libyaml_events.specs.declared.pending.Pending.{Pending}
use Rattle.libyaml_events.specs.declared.step.Step.{Step}
use Rattle.libyaml_events.specs.declared.step.Step.TheVariants as stepped
use Rattle.libyaml_events.specs.machine.Outcomes.{result_of, directive_texts, texts_for, wanted}
use Rattle.libyaml_events.specs.machine.Config.{Config, Machine, Handles, config_with, holding}
use Rattle.libyaml_events.specs.machine.Machine.{Progressed, declared_by, fault_with, handles_after_directive, put, seen, step}
use Rattle.libyaml_events.specs.machine.Growth.{may_grow}
use Rattle.libyaml_events.specs.machine.Read.{DirectiveTexts, PropertyTexts}
use Rattle.libyaml_events.specs.machine.Steps.{FailsAs, Steps}
use Rattle.libyaml_events.specs.machine.Want.{Progress, Given, Want, Wants, Texts, texts_after, with_directive}
use Rattle.libyaml_events.specs.automaton.View.{Ready}

-- an event is given, before the token or not
pub given_by : (out : Progressed) (s : Step) (t : yaml_token_t) (q : Pending) (e : yaml_event_t) (new : Machine)
    → (s ≡ stepped.Given) ⊎ (s ≡ stepped.GivenBefore) → Steps out (result_of s q e t new) new
    → (d : Config) × (out ≡ Ok (Given e d))
given_by out s t q e new (inl i) h = (holding None new, rw i at h)
given_by out s t q e new (inr i) h = (holding (Some t) new, rw i at h)

-- an error is kept
pub fails_as : (out : Progressed) (new : Machine) (f : Fault) → new.fault.error ≡ YAML_PARSER_ERROR → new.fault ≡ f
    → out ≡ Err f → FailsAs new out new.fault.error
fails_as out new f e k o = subst (λ (x : yaml_error_type_t). FailsAs new out x) (sym e) (o ∙ ap Err (sym k), e)

-- a directive that is refused
pub refused : (x : Action) (d : Machine) (t : yaml_token_t) (r' : Reading) (out : Progressed) (h : Texts)
    (y : automaton.Step) (a' : automaton_config.Stacks) → FitsAtDirective x r' → (x ≡ action.Wants → ⊥)
    → out ≡ put h None None d t t.content y
    → IsOutcome y (outcome x (automaton.no_properties (seen t t.content)) (seen t t.content) r' a')
    → out ≡ Err (fault_with (record { problem = r'.problem; context_mark = zero_mark; mark = t.start_mark }))
refused action.Wants d t r' out h y a' f n o s = absurd (n refl)
refused action.FailedDocument d t r' out h y a' f n o s
    = o ∙ ap (λ (z : automaton.Step). put h None None d t t.content z) s
refused _ d t r' out h y a' f n o s = absurd f

-- or after which a token is wanted
goes_on : (n : Next) (r : Reading) (h : Texts) (k : unnamed_yaml_token_t_data) (p : PropertyTexts) (ds : DirectiveTexts)
    (a : automaton_config.Stacks) (hs : Handles) (f : Fault) (new : Machine)
    → n ≡ next.AfterDirective → with_directive h k ≡ directive_texts ds → config_with a (declared_by hs k) f ≡ new
    → ◌≡◌ {A = Progressed}
    (Ok (Wants (record { next = purpose_by n r; texts = texts_after h k (purpose_by n r) })
    (config_with a (handles_after_directive hs k (purpose_by n r)) f)))
    (Ok (Wants (record { next = purpose_by n r; texts = texts_for (purpose_by n r) p ds }) new))
goes_on n r h k p ds a hs f new n' i j = grind arith

at_directive : (n : Next) (r : Reading) (c : Machine) → n ≡ next.AfterDirective → purposes.IsAt n c.state
at_directive n r c e = grind arith

pub directive_wants : (out : Progressed) (d : Machine) (t : yaml_token_t) (q : Pending) (h : Texts)
    (a : automaton_config.Stacks) (new : Machine) → next_of q.reading.next ≡ next.AfterDirective
    → with_directive h t.content ≡ directive_texts q.directives
    → config_with a (declared_by d.handles t.content) d.fault ≡ new
    → out ≡ put h None None d t t.content (automaton.Wants (purposes.purpose_of q.reading) a)
    → Steps out (Ok (Wants (wanted q) new)) new × Ready q new
directive_wants out d t q h a new n i j o = grind arith

pub handle_of : (k : unnamed_yaml_token_t_data) → token_type k ≡ kinds.YAML_TAG_DIRECTIVE_TOKEN
    → (g : unnamed_yaml_token_t_data_tag_directive) × (k ≡ tok.TagDirective g)
handle_of k e = grind arith

-- the directive is kept, or there was no memory for it
pub wants_or_fails : (out : Progressed) (s : Step) (t : yaml_token_t) (q : Pending) (e : yaml_event_t)
    (new : Machine) → (s ≡ stepped.Given → ⊥) → (s ≡ stepped.GivenBefore → ⊥)
    → (s ≡ stepped.Wants → Steps out (Ok (Wants (wanted q) new)) new × Ready q new)
    → (s ≡ stepped.Failed → new.fault ≡ memory_fault)
    → Steps out (result_of s q e t new) new × (s ≡ stepped.Wants → Ready q new)
wants_or_fails out s t q e new g b w f = grind arith

pub directive_held : (h : Texts) (k : unnamed_yaml_token_t_data) (g : unnamed_yaml_token_t_data_tag_directive)
    (d : DirectiveTexts) → k ≡ tok.TagDirective g → h ≡ directive_texts d → with_directive h k
    ≡ directive_texts (record d { tag_directives = d.tag_directives ++ record { handle = g.handle; prefix = g.prefix } ∷ [] })
directive_held h k g d e i = rw (e, i) refl

-- the same step of the same parser
pub again : (w w' : Want) (c c' : Machine) (t : yaml_token_t) (r : Result Progress yaml_error_type_t)
    (new : Machine) → w' ≡ w → c' ≡ c → Steps (step w' c' t) r new → Steps (step w c t) r new
again w w' c c' t r new i j h = rw i at (rw j at h)

pub grows_again : (w w' : Want) (c c' : Machine) (k : unnamed_yaml_token_t_data) → w' ≡ w → c' ≡ c
    → may_grow w' c' k ≡ true → may_grow w c k ≡ true
grows_again w w' c c' k i j h = rw i at (rw j at h)
