-- With texts, what a call is told is what the parser does.
use Rattle.std.proofs.Common.{◌≡◌, ◌∙◌, ℕ, List, Option, None, Some, Bool, false, Ok, Err, refl, sym, ap, is_some, arith}
use Rattle.libyaml_types.specs.Types.{token_type}
use Rattle.libyaml_types.specs.Fault.{no_fault}
use Rattle.libyaml_types.specs.declared.mark.yaml_mark_t.{yaml_mark_t}
use Rattle.libyaml_types.specs.declared.enums.yaml_scalar_style_t.{yaml_scalar_style_t}
use Rattle.libyaml_types.specs.declared.enums.yaml_token_type_t.TheVariants as kinds
use Rattle.libyaml_types.specs.declared.token.unnamed_yaml_token_t_data.{unnamed_yaml_token_t_data}
use Rattle.libyaml_types.specs.declared.token.unnamed_yaml_token_t_data.TheVariants as tok
use Rattle.libyaml_types.specs.declared.token.unnamed_yaml_token_t_data_tag.{unnamed_yaml_token_t_data_tag}
use Rattle.libyaml_types.specs.declared.token.unnamed_yaml_token_t_data_tag_directive.{unnamed_yaml_token_t_data_tag_directive}
use Rattle.libyaml_types.specs.declared.token.unnamed_yaml_token_t_data_version_directive.{unnamed_yaml_token_t_data_version_directive}
use Rattle.libyaml_grammar.specs.grammar.Events as grammar
use Rattle.libyaml_grammar.specs.grammar.Events.{event, is_plain}
use Rattle.libyaml_grammar.specs.grammar.Tokens.{Token}
use Rattle.libyaml_automaton.specs.declared.node_place.NodePlace.{NodePlace}
use Rattle.libyaml_automaton.specs.Automaton as automaton
use Rattle.libyaml_automaton.specs.Config.{Stacks}
use Rattle.libyaml_automaton.specs.Numbers.{flag}
use Rattle.libyaml_events.specs.machine.Config.{Handles, config_with, holding, token_if}
use Rattle.libyaml_events.specs.machine.Machine as parser_machine
use Rattle.libyaml_events.specs.machine.Machine.{declared_by, fault_with, resolve}
use Rattle.libyaml_events.specs.machine.Want as parser
use Rattle.libyaml_events.specs.machine.Want.{Texts}
use Rattle.token_steps.specs.Facts.{Given, StepResult, TagRead, NoTag, StepWant, Wants, put_by_fact, without_fact, step_by_fact, tag_for, tag_if, content_by_fact, shape_with, tag_read, with_facts}
use Rattle.token_steps.specs.Facts as facts
use Rattle.token_steps.specs.Records.{is_undefined}
use Rattle.token_steps.specs.Texts.{bit, content_of_shape, event_with, fact_of, handles_past, texts_kept_after, tag_fact, resolved_tag, tag_read_of, token_of, token_with}
use Rattle.libyaml_events.specs.machine.Outcomes.{only_if}
use Rattle.token_steps.proofs.Follows.{Keeping, properties, keeping, Content, Follows, GivesWith, follows, node_content}
use Rattle.token_steps.proofs.Kept.{Holds, declares, keeps, tag_by, tag_for_by, tags}
use Rattle.token_steps.proofs.Told.{defined}

flag_bit : (b : Bool) → flag (bit b) ≡ b
flag_bit b = grind arith

-- flags

-- what is told of a tag in full
abbrev read_of : Option (List ℕ) → TagRead
read_of None = NoTag
read_of (Some tag) = tag_read (tag_fact (Some tag))

read_defined : (tag : List ℕ) → is_undefined (read_of (Some tag)) ≡ false
read_defined tag = grind arith

missing : (g : Option (List ℕ)) → facts.is_no_tag (read_of g) ≡ grammar.is_missing g
missing g = grind arith

plain : (g : Option (List ℕ)) (s : yaml_scalar_style_t)
    → facts.plain_flag_for (read_of g) (flag (bit (is_plain s))) ≡ grammar.plain_flag g s
plain g s = grind (arith, flag_bit)

quoted : (g : Option (List ℕ)) (s : yaml_scalar_style_t)
    → facts.quoted_flag_for (read_of g) (flag (bit (is_plain s))) ≡ grammar.quoted_flag g s
quoted g s = grind (arith, flag_bit)

-- events

content_same : (hs : Handles) (h : Texts) (k : unnamed_yaml_token_t_data) (b z y : Bool) (w g : Option (List ℕ))
    (s : automaton.Shape) → GivesWith b z (token_type k) y s → only_if b h.anchor ≡ w → only_if z (resolved_tag hs h.tag) ≡ g
    → content_of_shape hs h k y (shape_with (read_of g) (fact_of hs k) s) ≡ parser_machine.content_with h w g k s
content_same hs h k b z y w g s f p q = grind (arith, plain, quoted, missing)

handles_same : (hs : Handles) (g : TagRead) (fact : ℕ) (s : automaton.Shape)
    → handles_past hs (shape_with g fact s) ≡ parser_machine.handles_after hs s
handles_same hs g fact s = grind arith

-- steps

-- what is told, with the texts that are kept and the token's
abbrev pub told_with : Texts → Handles → Token → unnamed_yaml_token_t_data → StepResult → parser_machine.Progressed
told_with h hs t k (Ok (Given e, c)) = Ok (parser.Given (event_with hs h k e)
    (holding (token_if e.stays t) (config_with c (handles_past hs e.shape) no_fault)))
told_with h hs t k (Ok (Wants v, c)) = Ok (parser.Wants (record { next = v.next; texts = texts_kept_after h k })
    (config_with c (declared_by hs k) no_fault))
told_with h hs t k (Err f) = Err (fault_with f)

gives_same : (hs : Handles) (h : Texts) (t : Token) (k : unnamed_yaml_token_t_data) (tag : ℕ) (b z : Bool)
    (w g : Option (List ℕ)) (c d : Stacks) (e : automaton.ShapedEvent) → GivesWith b z (token_type k) e.stays e.shape
    → only_if b h.anchor ≡ w → only_if z (resolved_tag hs h.tag) ≡ g
    → parser_machine.put h w g (config_with c hs no_fault) t k (automaton.Gives e d)
    ≡ told_with h hs t k (put_by_fact (read_of g) tag (token_with hs t k) (automaton.Gives e d))
gives_same hs h t k tag b z w g c d e f p q
    = rw (sym (content_same hs h k b z e.stays w g e.shape f p q), handles_same hs (read_of g) (fact_of hs k) e.shape) refl

content_put : (hs : Handles) (h : Texts) (t : Token) (k : unnamed_yaml_token_t_data) (tag : ℕ) (b z : Bool)
    (w g : Option (List ℕ)) (c : Stacks) (s : automaton.Step) → Content b z (token_type k) s → only_if b h.anchor ≡ w
    → only_if z (resolved_tag hs h.tag) ≡ g
    → parser_machine.put h w g (config_with c hs no_fault) t k s ≡ told_with h hs t k (put_by_fact (read_of g) tag (token_with hs t k) s)
content_put hs h t k tag b z w g c s f p q = grind (arith, gives_same)

resolved : (hs : Handles) (h : Texts) (t : Token) (k : unnamed_yaml_token_t_data) (tag : ℕ) (p : NodePlace)
    (r : automaton.PropertiesRead) (c x : Stacks) (o : Option (List ℕ)) → only_if r.anchor h.anchor ≡ h.anchor
    → only_if r.tag (resolved_tag hs h.tag) ≡ o
    → parser_machine.content_resolved o p r x h (config_with c hs no_fault) t k
    ≡ told_with h hs t k (content_by_fact (tag_read (tag_fact o)) tag p r x (token_with hs t k))
resolved hs h t k tag p r c x None u v = refl
resolved hs h t k tag p r c x (Some g) u v = content_put hs h t k tag r.anchor r.tag h.anchor (Some g) c
    (automaton.node_content p r x (parser_machine.seen t k) (token_type k)) (node_content p r x (parser_machine.seen t k) (token_type k)) u v
    ∙ ap (told_with h hs t k) (sym (defined (read_of (Some g)) tag p r x (token_with hs t k) (read_defined g)))

content_told : (hs : Handles) (h : Texts) (t : Token) (k : unnamed_yaml_token_t_data) (tag : ℕ) (p : NodePlace)
    (r : automaton.PropertiesRead) (c x : Stacks) (o : Option unnamed_yaml_token_t_data_tag) → only_if r.anchor h.anchor ≡ h.anchor
    → only_if r.tag (resolved_tag hs h.tag) ≡ resolved_tag hs o
    → parser_machine.content_after o p r x h (config_with c hs no_fault) t k
    ≡ told_with h hs t k (content_by_fact (tag_read_of hs o) tag p r x (token_with hs t k))
content_told hs h t k tag p r c x None u v = content_put hs h t k tag r.anchor r.tag h.anchor None c
    (automaton.node_content p r x (parser_machine.seen t k) (token_type k)) (node_content p r x (parser_machine.seen t k) (token_type k)) u v
content_told hs h t k tag p r c x (Some g) u v = resolved hs h t k tag p r c x (resolve hs g.handle g.suffix) u v

kept_if : {A : Type 0} → (b : Bool) (o : Option A) → is_some o ≡ b → only_if b o ≡ o
kept_if b o e = grind arith

tag_kept_if : (hs : Handles) (b : Bool) (o : Option unnamed_yaml_token_t_data_tag) → is_some o ≡ b
    → only_if b (resolved_tag hs o) ≡ resolved_tag hs o
tag_kept_if hs b o e = grind arith

asked : (x : Keeping) (hs : Handles) (h : Texts) (t : Token) (k : unnamed_yaml_token_t_data) (tag : ℕ) (p : NodePlace)
    (r : automaton.PropertiesRead) (c d : Stacks) → x ≡ properties r.anchor r.tag → Holds x h → tag_by x tag ≡ tag_read_of hs h.tag
    → parser_machine.content_after h.tag p r d h (config_with c hs no_fault) t k
    ≡ told_with h hs t k (content_by_fact (tag_if r.tag tag) tag p r d (token_with hs t k))
asked x hs h t k tag p r c d e = rw e (λ f q.
    content_told hs h t k tag p r c d h.tag (kept_if r.anchor h.anchor f.1.0) (tag_kept_if hs r.tag h.tag f.1.1)
    ∙ ap (λ (y : TagRead). told_with h hs t k (content_by_fact y tag p r d (token_with hs t k))) (sym q))

first_version : (hs : Handles) (h : Texts) (t : Token) (v : unnamed_yaml_token_t_data_version_directive) (tag : ℕ) (b : Bool) (m : yaml_mark_t) (c d : Stacks)
    → parser_machine.put h None None (config_with c hs no_fault) t (tok.VersionDirective v)
    (automaton.first_version b m d (parser_machine.seen t (tok.VersionDirective v)))
    ≡ told_with h hs t (tok.VersionDirective v) (put_by_fact NoTag tag (token_with hs t (tok.VersionDirective v))
    (automaton.first_version b m d (parser_machine.seen t (tok.VersionDirective v))))
first_version hs h t v tag b m c d = grind arith

tag_directive : (hs : Handles) (h : Texts) (t : Token) (g : unnamed_yaml_token_t_data_tag_directive) (tag : ℕ) (b q : Bool) (m : yaml_mark_t) (c d : Stacks)
    → parser_machine.put h None None (config_with c hs no_fault) t (tok.TagDirective g)
    (automaton.tag_directive b m q d (parser_machine.seen t (tok.TagDirective g)))
    ≡ told_with h hs t (tok.TagDirective g) (put_by_fact NoTag tag (token_with hs t (tok.TagDirective g))
    (automaton.tag_directive b m q d (parser_machine.seen t (tok.TagDirective g))))
tag_directive hs h t g tag b q m c d = grind arith

version_told : (hs : Handles) (h : Texts) (t : Token) (k : unnamed_yaml_token_t_data) (tag : ℕ) (m : yaml_mark_t)
    (c d : Stacks) → token_type k ≡ kinds.YAML_VERSION_DIRECTIVE_TOKEN
    → parser_machine.with_texts h (config_with c hs no_fault) t k (automaton.AsksVersion m d)
    ≡ told_with h hs t k (with_facts tag (token_with hs t k) (automaton.AsksVersion m d))
version_told hs h t k tag m c d e = grind (arith, flag_bit)

handle_told : (hs : Handles) (h : Texts) (t : Token) (k : unnamed_yaml_token_t_data) (tag : ℕ) (m : yaml_mark_t) (q : Bool)
    (c d : Stacks) → token_type k ≡ kinds.YAML_TAG_DIRECTIVE_TOKEN
    → parser_machine.with_texts h (config_with c hs no_fault) t k (automaton.AsksHandle m q d)
    ≡ told_with h hs t k (with_facts tag (token_with hs t k) (automaton.AsksHandle m q d))
handle_told hs h t k tag m q c d e = grind (arith, flag_bit)

same : (x : Keeping) (hs : Handles) (h : Texts) (t : Token) (k : unnamed_yaml_token_t_data) (tag : ℕ) (c : Stacks)
    (s : automaton.Step) → Holds x h → tag_by x tag ≡ tag_read_of hs h.tag → Follows x (token_type k) s
    → parser_machine.with_texts h (config_with c hs no_fault) t k s ≡ told_with h hs t k (with_facts tag (token_with hs t k) s)
same x hs h t k tag c s f q y = grind (arith, gives_same, keeps, declares, version_told, handle_told, asked)

-- a step of the parser is what is told of it
pub steps_told : (v : StepWant) (hs : Handles) (h : Texts) (t : Token) (c : Stacks) → Holds (keeping v.next) h
    → tag_for v.next v.tag ≡ tag_read_of hs h.tag
    → parser_machine.step (record { next = v.next; texts = h }) (config_with c hs no_fault) t
    ≡ told_with h hs t t.content (step_by_fact v c (token_of hs t))
steps_told v hs h t c f q = same (keeping v.next) hs h t t.content v.tag c _ f
    (sym (tag_for_by v.next v.tag) ∙ q) (follows v.next c (parser_machine.seen t t.content) (token_type t.content))

-- what is kept then

abbrev pub After : Handles → Texts → unnamed_yaml_token_t_data → StepResult → Type 0
After hs h k (Ok (Given e, c)) = Unit {0}
After hs h k (Ok (Wants v, c)) = Holds (keeping v.next) (texts_kept_after h k)
    × (tag_for v.next v.tag ≡ tag_read_of (declared_by hs k) (texts_kept_after h k).tag)
After hs h k (Err f) = Unit {0}

after_content : (hs : Handles) (h : Texts) (t : Token) (k : unnamed_yaml_token_t_data) (g : TagRead) (tag : ℕ) (b z : Bool)
    (s : automaton.Step) → Content b z (token_type k) s → After hs h k (put_by_fact g tag (token_with hs t k) s)
after_content hs h t k g tag b z s f = grind arith

after_asked : (hs : Handles) (h : Texts) (t : Token) (k : unnamed_yaml_token_t_data) (g : TagRead) (tag : ℕ)
    (p : NodePlace) (r : automaton.PropertiesRead) (d : Stacks) → After hs h k (content_by_fact g tag p r d (token_with hs t k))
after_asked hs h t k g tag p r d = grind (arith, after_content, node_content p r d (parser_machine.seen t k) (token_type k))

after_version : (x : Keeping) (hs : Handles) (h : Texts) (t : Token) (k : unnamed_yaml_token_t_data) (tag : ℕ) (b : Bool)
    (m : yaml_mark_t) (d : Stacks) → Holds x h → tag_by x tag ≡ tag_read_of hs h.tag
    → Follows x (token_type k) (automaton.AsksVersion m d)
    → After hs h k (put_by_fact NoTag tag (token_with hs t k) (automaton.first_version b m d (parser_machine.seen t k)))
after_version x hs h t k tag b m d f q y = grind (arith, keeps, tags)

after_handle : (x : Keeping) (hs : Handles) (h : Texts) (t : Token) (k : unnamed_yaml_token_t_data) (tag : ℕ) (b z : Bool)
    (m : yaml_mark_t) (d : Stacks) → Holds x h → tag_by x tag ≡ tag_read_of hs h.tag
    → Follows x (token_type k) (automaton.AsksHandle m z d)
    → After hs h k (put_by_fact NoTag tag (token_with hs t k) (automaton.tag_directive b m z d (parser_machine.seen t k)))
after_handle x hs h t k tag b z m d f q y = grind (arith, keeps, tags)

after_step : (x : Keeping) (hs : Handles) (h : Texts) (t : Token) (k : unnamed_yaml_token_t_data) (tag : ℕ) (s : automaton.Step)
    → Holds x h → tag_by x tag ≡ tag_read_of hs h.tag → Follows x (token_type k) s
    → After hs h k (with_facts tag (token_with hs t k) s)
after_step x hs h t k tag (automaton.Gives e d) f q y = tt
after_step x hs h t k tag (automaton.Wants u d) f q y = ((keeps x u h k f y).1, tags x u hs h k tag f q y)
after_step x hs h t k tag (automaton.Fails z) f q y = tt
after_step x hs h t k tag (automaton.AsksVersion m d) f q y = after_version x hs h t k tag (flag (fact_of hs k)) m d f q y
after_step x hs h t k tag (automaton.AsksHandle m z d) f q y = after_handle x hs h t k tag (flag (fact_of hs k)) z m d f q y
after_step x hs h t k tag (automaton.AsksContent p r d) f q y = after_asked hs h t k (tag_if r.tag tag) tag p r d

pub kept_after : (v : StepWant) (hs : Handles) (h : Texts) (t : Token) (c : Stacks) → Holds (keeping v.next) h
    → tag_for v.next v.tag ≡ tag_read_of hs h.tag → After hs h t.content (step_by_fact v c (token_of hs t))
kept_after v hs h t c f q = after_step (keeping v.next) hs h t t.content v.tag _ f
    (sym (tag_for_by v.next v.tag) ∙ q) (follows v.next c (parser_machine.seen t t.content) (token_type t.content))
