-- What the automaton's step says of the parser's, in the stream and its documents.
use Rattle.std.proofs.Common.{◌≡◌, false, true, subst, arith}
use Rattle.libyaml_types.specs.Fault.{Fault}
use Rattle.libyaml_types.specs.Types.{token_type}
use Rattle.libyaml_types.specs.declared.enums.yaml_token_type_t.{yaml_token_type_t}
use Rattle.libyaml_types.specs.declared.token.yaml_token_t.{yaml_token_t}
use Rattle.libyaml_types.specs.declared.token.unnamed_yaml_token_t_data.{unnamed_yaml_token_t_data}
use Rattle.libyaml_automaton.specs.declared.action.Action.{Action}
use Rattle.libyaml_automaton.specs.declared.action.Action.TheVariants as action
use Rattle.libyaml_automaton.specs.declared.next.Next.{Next}
use Rattle.libyaml_automaton.specs.declared.reading.Reading.{Reading}
use Rattle.libyaml_automaton.specs.Outcomes.{IsOutcome, outcome}
use Rattle.libyaml_automaton.specs.Automaton as automaton
use Rattle.libyaml_automaton.specs.Config as automaton_config
use Rattle.libyaml_automaton.specs.Fits.{FitsDocument, Documents}
use Rattle.libyaml_automaton.specs.Growth.{pushes_in_documents, stack_part_of}
use Rattle.libyaml_automaton.specs.Numbers.{next_of}
use Rattle.libyaml_automaton.specs.Purposes.{IsAt, kind_and_marks, purpose_by}
use Rattle.libyaml_automaton.specs.Purposes as purposes
use Rattle.libyaml_events.specs.declared.pending.Pending.{Pending}
use Rattle.libyaml_events.specs.machine.Outcomes.{directive_texts, wanted}
use Rattle.libyaml_events.specs.machine.Config.{Machine, Handles, config_with}
use Rattle.libyaml_events.specs.machine.Growth.{grows_for, may_grow}
use Rattle.libyaml_events.specs.machine.Machine.{step, was_declared}
use Rattle.libyaml_events.specs.machine.Want.{Texts}
use Rattle.libyaml_events.specs.automaton.AutomatonResults.{FollowsAutomatonInDocuments}
use Rattle.libyaml_events.specs.automaton.View.{Ready}
use Rattle.libyaml_events.proofs.layer.StepWithTexts.{says_texts}

pub document_leads : (hs : Handles) (f : Fault) (a b : automaton_config.Stacks) (c : Machine)
    (t : yaml_token_t) (q : Pending) (r' : Reading) (x : Action) (k : yaml_token_type_t) → config_with a hs f ≡ c
    → k ≡ token_type t.content → (wanted q).texts ≡ directive_texts q.directives
    → IsOutcome (automaton.step (purposes.purpose_of q.reading) a (kind_and_marks k t.start_mark t.end_mark) k)
    (outcome x (automaton.no_properties (kind_and_marks k t.start_mark t.end_mark)) (kind_and_marks k t.start_mark t.end_mark) r' b)
    → FollowsAutomatonInDocuments (step (wanted q) c t) (wanted q).texts t x (record q { reading = r' }) (config_with b hs f)
document_leads hs f a b c t q r' x k ec ek declared s =
    subst (λ (y : Machine). FollowsAutomatonInDocuments (step (wanted q) y t) (wanted q).texts t x (record q { reading = r' })
    (config_with b hs f)) ec (declared, says_texts hs f a b (wanted q).texts t _ _ (rw ek at s))

pushed_there : (n : Next) (r : Reading) (h : Texts) (c : Machine) (k : unnamed_yaml_token_t_data) → IsAt n c.state
    → pushes_in_documents n c.behind_document_end (token_type k) ≡ true → grows_for (purpose_by n r) h c k ≡ true
pushed_there n r h c k i e = grind arith

pub document_grows : (q : Pending) (c : Machine) (k : unnamed_yaml_token_t_data) (kind : yaml_token_type_t) → Ready q c
    → kind ≡ token_type k → pushes_in_documents (next_of q.reading.next) c.behind_document_end kind ≡ true
    → may_grow (wanted q) c k ≡ true
document_grows q c k kind y e p = pushed_there (next_of q.reading.next) q.reading (wanted q).texts c k y (rw e at p)

pub handle_grows : (hs : Handles) (f : Fault) (a b : automaton_config.Stacks) (c : Machine)
    (t : yaml_token_t) (q : Pending) (r' : Reading) (x : Action) (k : yaml_token_type_t) → config_with a hs f ≡ c
    → Ready q c → k ≡ token_type t.content → FitsDocument x k r' b.state
    → stack_part_of (next_of q.reading.next) ≡ Documents
    → IsOutcome (automaton.step (purposes.purpose_of q.reading) a (kind_and_marks k t.start_mark t.end_mark) k)
    (outcome x (automaton.no_properties (kind_and_marks k t.start_mark t.end_mark)) (kind_and_marks k t.start_mark t.end_mark) r' b)
    → x ≡ action.AsksHandle → was_declared hs t.content ≡ false → may_grow (wanted q) c t.content ≡ true
handle_grows hs f a b c t q r' x k ec y ek fits d s i n = grind arith
