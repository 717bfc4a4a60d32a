-- A list of tag directives gives each handle the prefix that the map of handles gives.
use Rattle.std.specs.Prelude.{bytes_eq}
use Rattle.std.proofs.Common.{◌≡◌, ◌∷◌, ◌++◌, ℕ, List, [], Option, Some, None, cond, codes, refl, sym, arith}
use Rattle.std.specs.Cmp.Lexicographic.{texts_ties, nat_list_eq_equiv, nat_list_cmp_total}
use Rattle.std.specs.Cmp.Lexicographic as lex
use Rattle.std.specs.FinMap.{get, insert, get-from_entries}
use Rattle.libyaml_types.specs.declared.directive.yaml_tag_directive_t.{yaml_tag_directive_t}
use Rattle.libyaml_grammar.specs.grammar.Tokens.{Mark}
use Rattle.libyaml_grammar.proofs.exported.TextMaps.{inserted}
use Rattle.libyaml_events.specs.machine.Config.{Handles, no_handles}
use Rattle.rust_original.specs.parser.Parser.{ParserResult, OriginalParser, default_tag_directives, directive_named}
use Rattle.rust_original.proofs.parser.Relation.{Agree}

-- before the defaults
abbrev pub Reads : List yaml_tag_directive_t → Handles → Type 0
Reads tags hs = (h : List ℕ) → directive_named tags h ≡ get hs h

abbrev pub declares : List ℕ → List ℕ → yaml_tag_directive_t
declares h p = record { handle = h; prefix = p }

pub none_declared : Reads [] no_handles
none_declared h = sym (get-from_entries nat_list_cmp_total [] h)

abbrev or_else : Option (List ℕ) → Option (List ℕ) → Option (List ℕ)
or_else None o = o
or_else (Some x) o = Some x

-- a directive after the others
one_more : (tags : List yaml_tag_directive_t) (d : yaml_tag_directive_t) (h : List ℕ)
    → directive_named (tags ++ d ∷ []) h ≡ or_else (directive_named tags h) (cond (bytes_eq d.handle h) (Some d.prefix) None)
one_more [] d h = refl
one_more (e ∷ tags) d h = grind (arith, one_more tags d h)

pub reads_more : (tags : List yaml_tag_directive_t) (hs : Handles) (g p : List ℕ) → Reads tags hs
    → directive_named tags g ≡ None → Reads (tags ++ declares g p ∷ []) (insert hs g p)
reads_more tags hs g p r e h = grind (arith, one_more, inserted, lex.same_text g h, r h)

-- the defaults
abbrev with_default : List yaml_tag_directive_t → yaml_tag_directive_t → Option (List ℕ) → List yaml_tag_directive_t
with_default tags d None = tags ++ d ∷ []
with_default tags d (Some x) = tags

abbrev after : List yaml_tag_directive_t → yaml_tag_directive_t → List yaml_tag_directive_t
after tags d = with_default tags d (directive_named tags d.handle)

found : (tags : List yaml_tag_directive_t) (d : yaml_tag_directive_t) (h : List ℕ)
    → directive_named (after tags d) h ≡ or_else (directive_named tags h) (cond (bytes_eq d.handle h) (Some d.prefix) None)
found tags d h = grind (arith, one_more, lex.same_text d.handle h)

abbrev bang : yaml_tag_directive_t
bang = declares (codes "!") (codes "!")

abbrev bangs : yaml_tag_directive_t
bangs = declares (codes "!!") (codes "tag:yaml.org,2002:")

abbrev pub defaulted : List yaml_tag_directive_t → List yaml_tag_directive_t
defaulted tags = after (after tags bang) bangs

pub defaults_appended : (p : OriginalParser) (m : Mark) (next : OriginalParser → ParserResult)
    → default_tag_directives m p next ≡ next (record p { tag_directives = defaulted p.tag_directives })
defaults_appended p m next = grind arith

pub agree : (tags : List yaml_tag_directive_t) (hs : Handles) → Reads tags hs → Agree (defaulted tags) hs
agree tags hs r h = grind (arith, found)
