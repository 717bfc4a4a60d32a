-- What a caller keeps by the kinds of tokens is what the parser holds.
use Rattle.std.proofs.Common.{◌≡◌, [], None, Bool, true, false, ℕ, is_some, arith}
use Rattle.libyaml_types.specs.Types.{token_type}
use Rattle.libyaml_types.specs.declared.mark.yaml_mark_t.{yaml_mark_t}
use Rattle.libyaml_types.specs.declared.token.unnamed_yaml_token_t_data.{unnamed_yaml_token_t_data}
use Rattle.libyaml_types.specs.declared.enums.yaml_token_type_t.{yaml_token_type_t}
use Rattle.libyaml_automaton.specs.Automaton as automaton
use Rattle.libyaml_automaton.specs.Automaton.{Purpose}
use Rattle.libyaml_events.specs.machine.Config.{Handles}
use Rattle.libyaml_events.specs.machine.Machine.{declared_by, handles_after_directive}
use Rattle.libyaml_events.specs.machine.Want.{Texts, no_texts, texts_after, with_property}
use Rattle.token_steps.specs.Facts.{TagRead, NoTag, fact_after, tag_for, tag_if}
use Rattle.token_steps.specs.Texts.{fact_of, texts_kept_after, tag_read_of}
use Rattle.token_steps.proofs.Follows.{Keeping, nothing, directives, properties, keeping, Adds, is_directive, is_property}

-- nothing, the texts of directives alone, or those of properties alone, which are these
abbrev pub Holds : Keeping → Texts → Type 0
Holds nothing h = h ≡ no_texts
Holds directives h = (h.anchor ≡ None) × (h.tag ≡ None)
Holds (properties b g) h = ((h.version ≡ None) × (h.tag_directives ≡ []))
    × ((is_some h.anchor ≡ b) × (is_some h.tag ≡ g))

-- the same texts

without_properties : (x : Keeping) (h : Texts) (k : yaml_token_type_t) → Holds x h → Adds x k directives
    → (h.anchor ≡ None) × (h.tag ≡ None)
without_properties x h k f d = grind arith

directive_added : (x : Keeping) (k : yaml_token_type_t) → Adds x k directives → is_directive k ≡ true
directive_added x k d = grind arith

at_directive : (h : Texts) (k : unnamed_yaml_token_t_data) (m : yaml_mark_t) (b : Bool) → (h.anchor ≡ None) × (h.tag ≡ None)
    → is_directive (token_type k) ≡ true
    → (texts_after h k (automaton.AfterDirective m b) ≡ texts_kept_after h k) × Holds directives (texts_kept_after h k)
at_directive h k m b n e = grind arith

at_property : (x : Keeping) (h : Texts) (k : unnamed_yaml_token_t_data) (b g : Bool) → Holds x h
    → Adds x (token_type k) (properties b g)
    → (with_property h k ≡ texts_kept_after h k) × Holds (properties b g) (texts_kept_after h k)
at_property x h k b g f d = grind arith

untouched : (h : Texts) (k : unnamed_yaml_token_t_data) → is_directive (token_type k) ≡ false
    → is_property (token_type k) ≡ false → texts_kept_after h k ≡ h
untouched h k d p = grind arith

at_other : (x : Keeping) (h : Texts) (k : unnamed_yaml_token_t_data) → Holds x h → Adds x (token_type k) nothing
    → (no_texts ≡ texts_kept_after h k) × (texts_kept_after h k ≡ no_texts)
at_other x h k f d = grind (arith, untouched)

pub keeps : (x : Keeping) (u : Purpose) (h : Texts) (k : unnamed_yaml_token_t_data) → Holds x h
    → Adds x (token_type k) (keeping u)
    → (texts_after h k u ≡ texts_kept_after h k) × Holds (keeping u) (texts_kept_after h k)
keeps x u h k f d = grind (arith, at_directive, at_property, at_other, without_properties, directive_added)

-- the same handles

pub declares : (x : Keeping) (u : Purpose) (hs : Handles) (k : unnamed_yaml_token_t_data) → Adds x (token_type k) (keeping u)
    → handles_after_directive hs k u ≡ declared_by hs k
declares x u hs k d = grind arith

-- the same tag

abbrev pub tag_by : Keeping → ℕ → TagRead
tag_by (properties b g) tag = tag_if g tag
tag_by _ tag = NoTag

pub tag_for_by : (u : Purpose) (tag : ℕ) → tag_for u tag ≡ tag_by (keeping u) tag
tag_for_by u tag = grind arith

pub tags : (x : Keeping) (u : Purpose) (hs : Handles) (h : Texts) (k : unnamed_yaml_token_t_data) (tag : ℕ) → Holds x h
    → tag_by x tag ≡ tag_read_of hs h.tag → Adds x (token_type k) (keeping u)
    → tag_for u (fact_after u tag (token_type k) (fact_of hs k)) ≡ tag_read_of (declared_by hs k) (texts_kept_after h k).tag
tags x u hs h k tag f e d = grind (arith, keeps)
