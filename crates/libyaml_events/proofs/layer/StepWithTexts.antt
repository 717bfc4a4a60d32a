-- What the automaton's step says of the parser's.
use Rattle.std.proofs.Common.{◌≡◌, ◌⊎◌, ◌∙◌, ◌||◌, ℕ, List, Option, Some, Bool, true, refl, sym, ap, subst, arith}
use Rattle.libyaml_types.specs.Fault.{Fault}
use Rattle.libyaml_types.specs.Types.{token_type}
use Rattle.libyaml_types.specs.declared.token.unnamed_yaml_token_t_data.{unnamed_yaml_token_t_data}
use Rattle.libyaml_types.specs.declared.token.unnamed_yaml_token_t_data_tag.{unnamed_yaml_token_t_data_tag}
use Rattle.libyaml_types.specs.declared.enums.yaml_parser_state_t.{yaml_parser_state_t}
use Rattle.libyaml_types.specs.declared.token.yaml_token_t.{yaml_token_t}
use Rattle.libyaml_types.specs.declared.enums.yaml_token_type_t.{yaml_token_type_t}
use Rattle.libyaml_types.specs.declared.enums.yaml_token_type_t.TheVariants as kinds
use Rattle.libyaml_automaton.specs.declared.action.Action.{Action}
use Rattle.libyaml_automaton.specs.declared.action.Action.TheVariants as action
use Rattle.libyaml_automaton.specs.declared.next.Next.{Next}
use Rattle.libyaml_automaton.specs.declared.next.Next.TheVariants as next
use Rattle.libyaml_automaton.specs.declared.node_place.NodePlace.{NodePlace}
use Rattle.libyaml_automaton.specs.declared.reading.Reading.{Reading}
use Rattle.libyaml_automaton.specs.Outcomes.{Outcome, NothingDone, Does, IsOutcome, outcome}
use Rattle.libyaml_automaton.specs.Automaton as automaton
use Rattle.libyaml_automaton.specs.Config as automaton_config
use Rattle.libyaml_automaton.specs.Fits.{FitsStep, IsFull, is_simple, SameReading, opens_at}
use Rattle.libyaml_automaton.specs.Growth.{opens, pushes}
use Rattle.libyaml_automaton.specs.Numbers.{next_of, place_of}
use Rattle.libyaml_automaton.specs.Purposes.{IsAt, properties, kind_and_marks, purpose_by}
use Rattle.libyaml_automaton.specs.Purposes as purposes
use Rattle.libyaml_events.specs.declared.pending.Pending.{Pending}
use Rattle.libyaml_events.specs.machine.Outcomes.{property_texts, texts_for, wanted}
use Rattle.libyaml_events.specs.machine.Config.{Machine, Handles, config_of, config_with}
use Rattle.libyaml_events.specs.machine.Growth.{grows_for, joins, may_grow}
use Rattle.libyaml_events.specs.machine.Machine.{Progressed, content_after, put, step, with_texts}
use Rattle.libyaml_events.specs.machine.Read.{PropertyTexts, DirectiveTexts}
use Rattle.libyaml_events.specs.machine.Want.{Texts}
use Rattle.libyaml_events.specs.automaton.AutomatonResults.{GrowsAfter, IsHeld, IsPlain, FollowsAutomaton, PutIn, SaysIn}
use Rattle.libyaml_events.specs.automaton.View.{Ready}

-- What a step does with texts hangs on the handles and the error, which the automaton leaves alone.
module _ (hs : Handles) (f : Fault) (a b : automaton_config.Stacks) (h : Texts) (t : yaml_token_t)
    (k : unnamed_yaml_token_t_data) where
  content_same : (p : NodePlace) (r : automaton.PropertiesRead) (y : automaton_config.Stacks)
      (g : Option unnamed_yaml_token_t_data_tag)
      → content_after g p r y h (config_with a hs f) t k ≡ content_after g p r y h (config_with b hs f) t k
  content_same p r y g = grind arith

  with_same : (x : automaton.Step)
      → with_texts h (config_with a hs f) t k x ≡ with_texts h (config_with b hs f) t k x
  with_same x = grind arith

-- so for what is said of it
pub says_texts : (hs : Handles) (f : Fault) (a b : automaton_config.Stacks) (h : Texts)
    (t : yaml_token_t) (s : automaton.Step) (x : Outcome) → IsOutcome s x
    → SaysIn (with_texts h (config_with a hs f) t t.content s) h (config_with b hs f) t x
says_texts hs f a b h t s NothingDone e = tt
says_texts hs f a b h t s (Does x) e
    = ap (λ (y : automaton.Step). with_texts h (config_with a hs f) t t.content y) e ∙ with_same hs f a b h t t.content x

-- and for the content after properties
pub says_content : (hs : Handles) (f : Fault) (a b : automaton_config.Stacks) (c : Machine) (h : Texts)
    (t : yaml_token_t) (anchor tag : Option (List ℕ)) (out : Progressed) (s : automaton.Step) (x : Outcome)
    → config_with a hs f ≡ c → IsOutcome s x → out ≡ put h anchor tag c t t.content s
    → PutIn out h anchor tag (config_with b hs f) t x
says_content hs f a b c h t anchor tag out s x ec e i = grind arith

-- A property is read: it is held with the other one, where that is this node's.
abbrev AnchorIn : PropertyTexts → DirectiveTexts → List ℕ → Texts → automaton.Step → Type 0
AnchorIn p d a h (automaton.Wants v x) = texts_for v (record p { anchor = Some a }) d ≡ record h { anchor = Some a }
AnchorIn p d a h _ = Unit {0}

abbrev TagIn : PropertyTexts → DirectiveTexts → unnamed_yaml_token_t_data_tag → Texts → automaton.Step → Type 0
TagIn p d g h (automaton.Wants v x) = texts_for v (record p { tag = Some g }) d ≡ record h { tag = Some g }
TagIn p d g h _ = Unit {0}

module _ (p : PropertyTexts) (d : DirectiveTexts) (c : automaton_config.Stacks) (t : automaton.KindAndMarks) where
  anchor_after : (a : List ℕ) (n : NodePlace) (r : automaton.PropertiesRead) (b : Bool)
      → AnchorIn p d a (property_texts r p) (automaton.anchor_after b n r c t)
  anchor_after a n r b = grind arith

  anchor_at : (a : List ℕ) (s : yaml_parser_state_t)
      → AnchorIn p d a (texts_for automaton.AtState p d) (automaton.at_state s c t kinds.YAML_ANCHOR_TOKEN)
  anchor_at a s = grind arith

  anchor_in : (a : List ℕ) (w : automaton.Purpose)
      → AnchorIn p d a (texts_for w p d) (automaton.step w c t kinds.YAML_ANCHOR_TOKEN)
  anchor_in a w = grind arith

  tag_after : (g : unnamed_yaml_token_t_data_tag) (n : NodePlace) (r : automaton.PropertiesRead) (b : Bool)
      → TagIn p d g (property_texts r p) (automaton.tag_after b n r c t)
  tag_after g n r b = grind arith

  tag_at : (g : unnamed_yaml_token_t_data_tag) (s : yaml_parser_state_t)
      → TagIn p d g (texts_for automaton.AtState p d) (automaton.at_state s c t kinds.YAML_TAG_TOKEN)
  tag_at g s = grind arith

  tag_in : (g : unnamed_yaml_token_t_data_tag) (w : automaton.Purpose)
      → TagIn p d g (texts_for w p d) (automaton.step w c t kinds.YAML_TAG_TOKEN)
  tag_in g w = grind arith

-- a token is wanted for what has no texts
plain : (n : Next) (r : Reading) → is_simple n ≡ true → IsPlain (purpose_by n r)
plain n r e = grind arith

asked : (n : Next) (r : Reading) (p : PropertyTexts) (d : DirectiveTexts) → n ≡ next.AfterProperties
    → texts_for (purpose_by n r) p d ≡ property_texts (properties r) p
asked n r p d e = rw e refl

-- what the texts that were held have to do with those that are held now
held : (q : Pending) (r' : Reading) (a : Action) (c : automaton_config.Stacks) (t : automaton.KindAndMarks)
    (k : yaml_token_type_t) (s : yaml_parser_state_t) (x : automaton_config.Stacks) → FitsStep a k r' s
    → (a ≡ action.AsksContent → r' ≡ q.reading)
    → IsOutcome (automaton.step (purposes.purpose_of q.reading) c t k) (outcome a (automaton.no_properties t) t r' x)
    → IsHeld a (wanted q).texts (record q { reading = r' })
held q r' action.Wants c t k s x f u e = plain (next_of r'.next) r' f.0
held q r' action.WantsAnchor c t k s x f u e = λ a.
    subst (λ (y : automaton.Step). AnchorIn q.properties q.directives a (wanted q).texts y) e
    (subst (λ (z : yaml_token_type_t). AnchorIn q.properties q.directives a (wanted q).texts
    (automaton.step (purposes.purpose_of q.reading) c t z)) (sym f.0)
    (anchor_in q.properties q.directives c t a (purposes.purpose_of q.reading)))
held q r' action.WantsTag c t k s x f u e = λ g.
    subst (λ (y : automaton.Step). TagIn q.properties q.directives g (wanted q).texts y) e
    (subst (λ (z : yaml_token_type_t). TagIn q.properties q.directives g (wanted q).texts
    (automaton.step (purposes.purpose_of q.reading) c t z)) (sym f.0)
    (tag_in q.properties q.directives c t g (purposes.purpose_of q.reading)))
held q r' action.AsksContent c t k s x f u e =
    let i : r' ≡ q.reading = u refl in
    subst (λ (y : Reading). texts_for (purposes.purpose_of q.reading) q.properties q.directives
    ≡ property_texts (properties y) q.properties) (sym i)
    (asked (next_of q.reading.next) q.reading q.properties q.directives (ap (λ (y : Reading). next_of y.next) (sym i) ∙ f))
held q r' _ c t k s x f u e = tt

-- a step of the automaton is a step of the parser
pub leads : (hs : Handles) (f : Fault) (a b : automaton_config.Stacks) (c : Machine)
    (t : yaml_token_t) (q : Pending) (r' : Reading) (x : Action) (k : yaml_token_type_t) → config_with a hs f ≡ c
    → k ≡ token_type t.content → FitsStep x k r' b.state → (x ≡ action.AsksContent → r' ≡ q.reading)
    → IsOutcome (automaton.step (purposes.purpose_of q.reading) a (kind_and_marks k t.start_mark t.end_mark) k)
    (outcome x (automaton.no_properties (kind_and_marks k t.start_mark t.end_mark)) (kind_and_marks k t.start_mark t.end_mark) r' b)
    → FollowsAutomaton (step (wanted q) c t) (wanted q).texts t x (record q { reading = r' }) (config_with b hs f)
leads hs f a b c t q r' x k ec ek fits u s =
    subst (λ (y : Machine). FollowsAutomaton (step (wanted q) y t) (wanted q).texts t x (record q { reading = r' }) (config_with b hs f))
    ec (
      held q r' x a (kind_and_marks k t.start_mark t.end_mark) k b.state b fits u s,
      says_texts hs f a b (wanted q).texts t _ _ (rw ek at s),
    )

-- a step that was undone leaves the parser ready
pub still_ready : (q : Pending) (r' : Reading) (c d : Machine) → d ≡ c → SameReading q.reading r' → Ready q c
    → Ready (record q { reading = r' }) d × (wanted (record q { reading = r' }) ≡ wanted q) × (d ≡ c)
still_ready q r' c d e s y = grind arith

-- where the automaton pushes, the parser may take memory
grows_there : (n : Next) (r : Reading) (h : Texts) (c : Machine) (k : unnamed_yaml_token_t_data) → IsAt n c.state
    → pushes n (token_type k) || opens n (token_type k) ≡ true → grows_for (purpose_by n r) h c k ≡ true
grows_there n r h c k i e = grind arith

either : (b d : Bool) → (b ≡ true) ⊎ (d ≡ true) → b || d ≡ true
either b d e = grind arith

pub grows_full : (q : Pending) (c : Machine) (k : unnamed_yaml_token_t_data) (kind : yaml_token_type_t) → Ready q c
    → kind ≡ token_type k → (pushes (next_of q.reading.next) kind ≡ true) ⊎ (opens (next_of q.reading.next) kind ≡ true)
    → may_grow (wanted q) c k ≡ true
grows_full q c k kind y e o = grind (arith, grows_there, either)

-- content after properties may take memory
content_grows : (n : Next) (r : Reading) (p : PropertyTexts) (d : DirectiveTexts) (c : Machine) (t : automaton.KindAndMarks)
    (m : NodePlace) (r' : automaton.PropertiesRead) (x : automaton_config.Stacks) (k : unnamed_yaml_token_t_data)
    → n ≡ next.AfterProperties
    → automaton.step (purpose_by n r) (config_of c) t (token_type k) ≡ automaton.AsksContent m r' x
    → (joins (property_texts (properties r) p).tag c.handles ≡ true) ⊎ (opens_at (place_of r.place) (token_type k) ≡ true)
    → grows_for (purpose_by n r) (texts_for (purpose_by n r) p d) c k ≡ true
content_grows n r p d c t m r' x k i e h = grind arith

pub grows_asked : (hs : Handles) (f : Fault) (a b : automaton_config.Stacks) (c : Machine)
    (t : yaml_token_t) (q : Pending) (r' : Reading) (x : Action) (k : yaml_token_type_t) → config_with a hs f ≡ c
    → k ≡ token_type t.content → FitsStep x k r' b.state → (x ≡ action.AsksContent → r' ≡ q.reading)
    → IsOutcome (automaton.step (purposes.purpose_of q.reading) a (kind_and_marks k t.start_mark t.end_mark) k)
    (outcome x (automaton.no_properties (kind_and_marks k t.start_mark t.end_mark)) (kind_and_marks k t.start_mark t.end_mark) r' b)
    → x ≡ action.AsksContent → GrowsAfter (record q { reading = r' }) (config_with b hs f) t
    → may_grow (wanted q) c t.content ≡ true
grows_asked hs f a b c t q r' x k ec ek fits u s i g = grind arith

pub pushes_full : (x : Action) (p o : Bool) → (x ≡ action.FullStates → p ≡ true) → (x ≡ action.FullMarks → o ≡ true) → IsFull x
    → (p ≡ true) ⊎ (o ≡ true)
pushes_full x p o s m f = grind arith
