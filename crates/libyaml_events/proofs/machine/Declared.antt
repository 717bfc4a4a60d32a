-- What the machine makes of directives and handles is what the grammar says of them.
use Rattle.std.specs.Prelude.{◌||◌, bytes_eq}
use Rattle.std.proofs.Common.{◌≡◌, ℕ, ◌++◌, List, [], ◌∷◌, Option, Some, None, refl, sym, ap, ◌∙◌, Bool, true, false, cond, codes, is_some, append_assoc, arith}
use Rattle.std.specs.Cmp.Lexicographic.{nat_list_cmp_total}
use Rattle.std.specs.FinMap.{get, insert, get-from_entries}
use Rattle.libyaml_events.specs.machine.Machine as parser_machine
use Rattle.libyaml_events.specs.machine.Machine.{put, step_at, or_default, resolve, seen, with_prefix}
use Rattle.libyaml_grammar.specs.grammar.Tokens.{HandleDeclared, Mark, Marks, TagDirective, TagName, Token, VersionAsked, VersionDirective, tok}
use Rattle.libyaml_grammar.specs.grammar.Trees.{Directives, directive, no_directives, tag_directive, version}
use Rattle.libyaml_grammar.specs.grammar.Events.{Event, declaration, prefix_of, resolved, tag_directives_then, version_of}
use Rattle.libyaml_grammar.specs.grammar.Order.{declares, is_known, no_version}
use Rattle.libyaml_grammar.proofs.exported.Reading.{keeps_order}
use Rattle.libyaml_events.specs.machine.Config.{Machine}
use Rattle.libyaml_events.proofs.machine.Link.{End, after, after_directives, directive_ends, handles_of, waits}
use Rattle.libyaml_grammar.proofs.exported.TextMaps.{inserted}
use Rattle.libyaml_types.specs.declared.directive.yaml_tag_directive_t.{yaml_tag_directive_t}
use Rattle.libyaml_types.specs.declared.directive.yaml_version_directive_t.{yaml_version_directive_t}

-- a handle in the map of handles
abbrev text_or : Bool → List ℕ → List ℕ → List ℕ
text_or u x y = elim u [ true ↦ x | false ↦ y ]

default_same : (h : List ℕ) → parser_machine.undeclared_prefix h
    ≡ cond (bytes_eq (codes "!") h) (Some (codes "!"))
    (cond (bytes_eq (codes "!!") h) (Some (codes "tag:yaml.org,2002:")) None)
default_same h = grind arith

none_declared : (h : List ℕ) → get (handles_of no_directives) h ≡ None
none_declared h = get-from_entries nat_list_cmp_total [] h

pub undeclared : (ds : Directives) (h : List ℕ) → declares ds h ≡ false → get (handles_of ds) h ≡ None
undeclared no_directives h e = none_declared h
undeclared (directive ds (version v m)) h e = undeclared ds h e
undeclared (directive ds (tag_directive d m)) h e = inserted (handles_of ds) d.handle d.prefix h
    ∙ go (bytes_eq d.handle h) (λ f. undeclared ds h f) e
  where
    go : (u : Bool) → (declares ds h ≡ false → get (handles_of ds) h ≡ None) → u || declares ds h ≡ false
        → cond u (Some d.prefix) (get (handles_of ds) h) ≡ None
    go true ih e = absurd cc
    go false ih e = ih e

pub already_declared : (ds : Directives) (h : List ℕ) → declares ds h ≡ true
    → (p : List ℕ) × (get (handles_of ds) h ≡ Some p)
already_declared no_directives h e = absurd cc
already_declared (directive ds (version v m)) h e = already_declared ds h e
already_declared (directive ds (tag_directive d m)) h e =
    let r = go (bytes_eq d.handle h) (λ f. already_declared ds h f) e in
    (r.0, inserted (handles_of ds) d.handle d.prefix h ∙ r.1)
  where
    go : (u : Bool) → (declares ds h ≡ true → (p : List ℕ) × (get (handles_of ds) h ≡ Some p))
        → u || declares ds h ≡ true → (p : List ℕ)
        × (cond u (Some d.prefix) (get (handles_of ds) h) ≡ Some p)
    go true ih e = (d.prefix, refl)
    go false ih e = ih e

abbrev Known : Directives → List ℕ → Bool
Known ds h = declares ds h || (bytes_eq (codes "!") h || bytes_eq (codes "!!") h)

found : (ds : Directives) (h : List ℕ) → Known ds h ≡ true → or_default (get (handles_of ds) h) h ≡ Some (prefix_of ds h)
found no_directives h e = ap (λ (o : Option (List ℕ)). or_default o h) (none_declared h) ∙ default_same h
    ∙ go (bytes_eq (codes "!") h) (bytes_eq (codes "!!") h) e
  where
    go : (u v : Bool) → u || v ≡ true
        → cond u (Some (codes "!")) (cond v (Some (codes "tag:yaml.org,2002:")) None)
        ≡ Some (text_or u (codes "!") (text_or v (codes "tag:yaml.org,2002:") []))
    go true v e = refl
    go false true e = refl
    go false false e = absurd cc
found (directive ds (version v m)) h e = found ds h e
found (directive ds (tag_directive d m)) h e = ap (λ (o : Option (List ℕ)). or_default o h)
    (inserted (handles_of ds) d.handle d.prefix h)
    ∙ go (bytes_eq d.handle h) (λ f. found ds h f) e
  where
    go : (u : Bool) → (Known ds h ≡ true → or_default (get (handles_of ds) h) h ≡ Some (prefix_of ds h))
        → (u || declares ds h) || (bytes_eq (codes "!") h || bytes_eq (codes "!!") h) ≡ true
        → or_default (cond u (Some d.prefix) (get (handles_of ds) h)) h ≡ Some (text_or u d.prefix (prefix_of ds h))
    go true ih e = refl
    go false ih e = ih e

pub resolve_is : (ds : Directives) (t : TagName) → is_known ds t.handle ≡ true
    → resolve (handles_of ds) t.handle t.suffix ≡ Some (resolved ds t)
resolve_is ds t e = grind (arith, found)

not_found : (ds : Directives) (h : List ℕ) → Known ds h ≡ false → or_default (get (handles_of ds) h) h ≡ None
not_found ds h e = grind (arith, undeclared, default_same)

pub resolve_not : (ds : Directives) (t : TagName) → is_known ds t.handle ≡ false
    → resolve (handles_of ds) t.handle t.suffix ≡ None
resolve_not ds t e = grind (arith, not_found)

-- directives
version_found : (ds : Directives) → no_version ds ≡ true → version_of ds ≡ None
version_found no_directives e = refl
version_found (directive ds (version v m)) e = absurd cc
version_found (directive ds (tag_directive d m)) e = version_found ds e

version_there : (ds : Directives) → no_version ds ≡ false → (v : yaml_version_directive_t) × (version_of ds ≡ Some v)
version_there no_directives e = absurd cc
version_there (directive ds (version v m)) e = (record { major = v.major; minor = v.minor }, refl)
version_there (directive ds (tag_directive d m)) e = version_there ds e

pub version_after : (s : Mark) (ds : Directives) (c : Machine) (v : VersionAsked) (m : Marks)
    (f : Machine → Token → List Event × End) (r : List Event)
    → after (step_at (after_directives s ds) c (tok (VersionDirective v) m) (VersionDirective v)) f r
    ≡ (
      r,
      directive_ends (keeps_order ds no_directives (VersionDirective v)) ds (VersionDirective v) m
          (waits (after_directives s (directive ds (version v m))) c),
    )
version_after s ds c v m f r = grind (arith, waits, version_found, version_there)

directives_then : (ds : Directives) (r : List yaml_tag_directive_t)
    → tag_directives_then ds r ≡ tag_directives_then ds [] ++ r
directives_then no_directives r = refl
directives_then (directive ds (version v m)) r = directives_then ds r
directives_then (directive ds (tag_directive d m)) r = directives_then ds (declaration d ∷ r)
    ∙ (sym (append_assoc (tag_directives_then ds []) (declaration d ∷ []) r)
    ∙ ap (λ (x : List yaml_tag_directive_t). x ++ r) (sym (directives_then ds (declaration d ∷ []))))

pub tag_after : (s : Mark) (ds : Directives) (c : Machine) (d : HandleDeclared) (m : Marks)
    (f : Machine → Token → List Event × End) (r : List Event)
    → c.handles ≡ handles_of ds
    → after (step_at (after_directives s ds) c (tok (TagDirective d) m) (TagDirective d)) f r
    ≡ (
      r,
      directive_ends (keeps_order ds no_directives (TagDirective d)) ds (TagDirective d) m
          (waits (after_directives s (directive ds (tag_directive d m)))
          (record c { handles = insert c.handles d.handle d.prefix })),
    )
tag_after s ds c d m f r h =
    grind (arith, is_some, waits, directives_then, already_declared, undeclared)
