-- The tag that is held within a call is the last one that came.
use Rattle.std.proofs.Common.{◌≡◌, ◌∙◌, ap, sym, subst, ◌++◌, ◌∷◌, [], refl, List, ℕ, true, Option, None, Some, Ok, Err, is_some, arith}
use Rattle.libyaml_types.specs.declared.token.unnamed_yaml_token_t_data_tag.{unnamed_yaml_token_t_data_tag}
use Rattle.std.proofs.lemmas.Bool.{true≢false}
use Rattle.libyaml_types.specs.Fault.{Fault, SourceResult}
use Rattle.libyaml_types.specs.Errors.{IsSourceError}
use Rattle.libyaml_types.specs.declared.enums.yaml_error_type_t.{yaml_error_type_t}
use Rattle.libyaml_types.specs.declared.enums.yaml_error_type_t.TheVariants.{YAML_MEMORY_ERROR, YAML_PARSER_ERROR}
use Rattle.libyaml_events.specs.machine.Steps.{Steps}
use Rattle.libyaml_events.specs.machine.Outcomes.{StillHeld, handle_in, held_handle, texts_for, wanted}
use Rattle.libyaml_events.specs.machine.Read.{DirectiveTexts, PropertyTexts}
use Rattle.libyaml_events.specs.declared.pending.Pending.{Pending}
use Rattle.libyaml_automaton.specs.Purposes as purposes
use Rattle.libyaml_grammar.specs.grammar.Tokens.{Content, Token}
use Rattle.libyaml_automaton.specs.Automaton as automaton
use Rattle.libyaml_events.specs.machine.Want.{Want, Given, Wants}
use Rattle.libyaml_events.specs.machine.Config.{Machine}
use Rattle.libyaml_events.specs.machine.Machine.{Progressed, step, step_at}
use Rattle.libyaml_events.specs.sources.Naming.{handle_or, is_undefined_handle, last_handle}

-- within properties, if a tag is held
abbrev pub HeldFor : automaton.Purpose → Option unnamed_yaml_token_t_data_tag → Option (List ℕ) → Type 0
HeldFor (automaton.AfterProperties place r) None last = Unit {0}
HeldFor (automaton.AfterProperties place r) (Some g) last = last ≡ Some g.handle
HeldFor _ held last = held ≡ None

abbrev pub HeldTag : Want → Option (List ℕ) → Type 0
HeldTag w last = HeldFor w.next w.texts.tag last

-- after a step, by a token of this content
abbrev pub HeldAfter : Content → Option (List ℕ) → Progressed → Type 0
HeldAfter k last (Ok (Wants w c)) = HeldTag w (handle_or last k)
HeldAfter k last (Ok (Given e c)) = Unit {0}
HeldAfter k last (Err f) = Unit {0}

pub held_step : (w : Want) (c : Machine) (t : Token) (k : Content) (last : Option (List ℕ)) → HeldTag w last
    → HeldAfter k last (step_at w c t k)
held_step w c t k last h = grind arith

-- a handle that is not defined is that of the tag that was held
abbrev pub FailsByHeld : Want → Progressed → Type 0
FailsByHeld w (Err f) = is_undefined_handle f ≡ true → is_some w.texts.tag ≡ true
FailsByHeld w _ = Unit {0}

pub fails_by_held : (w : Want) (c : Machine) (t : Token) (k : Content) → FailsByHeld w (step_at w c t k)
fails_by_held w c t k = grind arith

-- one token more
pub last_snoc : (earlier : Option (List ℕ)) (l : List SourceResult) (t : Token)
    → last_handle earlier (l ++ Ok t ∷ []) ≡ handle_or (last_handle earlier l) t.content
last_snoc earlier [] t = refl
last_snoc earlier (Ok u ∷ l) t = last_snoc (handle_or earlier u.content) l t
last_snoc earlier (Err f ∷ l) t = last_snoc earlier l t

-- the tag that is held, whose handle came last
pub record HeldLast (w : Want) (last : Option (List ℕ)) : Type 0 where
  pub tag : unnamed_yaml_token_t_data_tag
  pub is : w.texts.tag ≡ Some tag
  pub is_last : last ≡ Some tag.handle

held_in : (w : Want) (last : Option (List ℕ)) (n : automaton.Purpose) (o : Option unnamed_yaml_token_t_data_tag)
    → w.texts.tag ≡ o → HeldFor n o last → is_some o ≡ true → HeldLast w last
held_in w last n None e h u = absurd cc
held_in w last (automaton.AfterProperties p r) (Some g) e h u = record { tag = g; is = e; is_last = h }
held_in w last _ (Some g) e h u = absurd cc

-- a step that failed by a handle that is not defined
pub held_last : (w : Want) (c : Machine) (t : Token) (x : yaml_error_type_t) (new : Machine) (last : Option (List ℕ))
    → HeldTag w last → Steps (step w c t) (Err x) new → is_undefined_handle new.fault ≡ true → HeldLast w last
held_last w c t YAML_MEMORY_ERROR new last h s u = absurd
    (true≢false (sym (subst (λ f. is_undefined_handle f ≡ true) s u)))
held_last w c t YAML_PARSER_ERROR new last h s u = held_in w last w.next w.texts.tag refl h
    (subst (FailsByHeld w) s.0 (fails_by_held w c t t.content) u)
held_last w c t _ new last h s u = absurd s

-- a source's error is of no handle
none_of : (f : Fault) (x : yaml_error_type_t) → f.error ≡ x → IsSourceError x → is_undefined_handle f ≡ true → ⊥
none_of f x e h u = grind arith

pub none_undefined : (f : Fault) → IsSourceError f.error → is_undefined_handle f ≡ true → ⊥
none_undefined f h u = none_of f f.error refl h u

-- what is wanted has the tag that is held
texts_held : (n : automaton.Purpose) (p : PropertyTexts) (d : DirectiveTexts) (g : unnamed_yaml_token_t_data_tag)
    → (texts_for n p d).tag ≡ Some g → handle_in p.tag ≡ Some g.handle
texts_held n p d g e = grind arith

-- after a step that failed
pub still_held : (old new : Pending) → held_handle new ≡ held_handle old → StillHeld (wanted old) new
still_held old new h g e = h ∙ texts_held (purposes.purpose_of old.reading) old.properties old.directives g e

pub still_after : (old mid new : Pending) → mid ≡ record old { reading = mid.reading } → held_handle new ≡ held_handle mid
    → StillHeld (wanted old) new
still_after old mid new m h = still_held old new (h ∙ ap held_handle m)
