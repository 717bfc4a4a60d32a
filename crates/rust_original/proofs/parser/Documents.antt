-- Between documents, both parsers do the same.
use Rattle.std.proofs.Common.{◌≡◌, ◌∷◌, ◌||◌, ◌&&◌, pos, List, [], Option, Some, None, Bool, true, false, not, refl, codes, if◌then◌else◌, is_some, arith}
use Rattle.std.specs.Ordering.{int_eq}
use Rattle.libyaml_types.specs.declared.directive.yaml_tag_directive_t.{yaml_tag_directive_t}
use Rattle.libyaml_types.specs.declared.directive.yaml_version_directive_t.{yaml_version_directive_t}
use Rattle.libyaml_types.specs.declared.enums.yaml_parser_state_t.{yaml_parser_state_t}
use Rattle.libyaml_types.specs.declared.enums.yaml_parser_state_t.TheVariants as st
use Rattle.libyaml_types.specs.Fault.{Fault}
use Rattle.libyaml_grammar.specs.grammar.Tokens.{Content, DocumentEnd, DocumentStart, HandleDeclared, Mark, StreamEnd, TagDirective, Token, VersionAsked, VersionDirective}
use Rattle.libyaml_automaton.specs.Automaton as automaton
use Rattle.libyaml_events.specs.machine.Config.{Machine, Handles, config_of, no_handles}
use Rattle.libyaml_events.specs.machine.Machine.{put, seen}
use Rattle.libyaml_events.specs.machine.Want.{AtState, Texts, Want, no_texts}
use Rattle.rust_original.specs.parser.Parser as orig
use Rattle.rust_original.specs.parser.Parser.{ParserResult, OriginalParser, default_tag_directives, directive_named, directives_from}
use Rattle.rust_original.specs.parser.Runs.{as_here}
use Rattle.rust_original.proofs.parser.Handles.{Reads, agree, defaults_appended, none_declared, reads_more}
use Rattle.rust_original.proofs.parser.Relation.{standing, Matches, fed, feed, first, inside, is_document_end, over, there, tk}

module _ (f : Fault) (x : Fault) (ss : List yaml_parser_state_t) (ms : List Mark) where
  abbrev pub here : yaml_parser_state_t → Bool → Handles → Machine
  here s be hs
      = record { state = s; states = ss; marks = ms; handles = hs; behind_document_end = be; fault = x }

  abbrev pub par : yaml_parser_state_t → Bool → List yaml_tag_directive_t → List Token → OriginalParser
  par s' flag tags l = there f tags flag s' false (here s' false no_handles) l

  -- before the stream
  pub stream_start : (l : List Token)
      → Matches f (orig.yaml_parser_parse_stream_start (par st.YAML_PARSE_STREAM_START_STATE false [] l))
      (feed f AtState (here st.YAML_PARSE_STREAM_START_STATE false no_handles) l)
  stream_start l = grind (arith, standing, first)

  -- the directives of a document that begins at a mark, from a token on
  abbrev directive_texts : Option yaml_version_directive_t → List yaml_tag_directive_t → Texts
  directive_texts v ts = record no_texts { version = v; tag_directives = ts }

  abbrev after_directive : Mark → Option yaml_version_directive_t → List yaml_tag_directive_t → Want
  after_directive a v ts = record { next = automaton.AfterDirective a (is_some v); texts = directive_texts v ts }

  module _ (s s' : yaml_parser_state_t) (be flag : Bool) where
    abbrev next_there : Mark → Option yaml_version_directive_t → List yaml_tag_directive_t → OriginalParser → ParserResult
    next_there = orig.after_directives

    abbrev FollowsFrom : Mark → Option yaml_version_directive_t → (ts tags : List yaml_tag_directive_t) → Handles → List Token
        → Type 0
    FollowsFrom a o ts tags hs l = Matches f (directives_from o ts (next_there a) l (par s' flag tags l))
        (feed f (after_directive a o ts) (here s be hs) l)

    abbrev Follows : List Token → Type 0
    Follows l = (a : Mark) (o : Option yaml_version_directive_t) (ts tags : List yaml_tag_directive_t) (hs : Handles)
        → Reads tags hs → FollowsFrom a o ts tags hs l

    versions : (x y z : Bool) (a : Mark) (ts : List yaml_tag_directive_t) (v : VersionAsked) (m n : Mark) (l : List Token)
        (tags : List yaml_tag_directive_t) (hs : Handles)
        → FollowsFrom a (Some (record { major = v.major; minor = v.minor })) ts tags hs l → Matches f
        (if not x || (not y && not z) then orig.yaml_parser_set_parser_error
        (codes "found incompatible YAML document") m
        else directives_from (Some (record { major = v.major; minor = v.minor })) ts (next_there a) l
        (par s' flag tags l))
        (fed f (put (directive_texts None ts) None None (here s be hs) (tk (VersionDirective v) m n) (VersionDirective v)
        (automaton.first_version (x && (y || z)) a (config_of (here s be hs))
        (seen (tk (VersionDirective v) m n) (VersionDirective v)))) l)
    versions x y z a ts v m n l tags hs h = grind arith

    version_token : (a : Mark) (o : Option yaml_version_directive_t) (ts : List yaml_tag_directive_t) (v : VersionAsked)
        (m n : Mark) (l : List Token) (tags : List yaml_tag_directive_t) (hs : Handles) → Follows l → Reads tags hs
        → FollowsFrom a o ts tags hs (tk (VersionDirective v) m n ∷ l)
    version_token a (Some e) ts v m n l tags hs ih r = refl
    version_token a None ts v m n l tags hs ih r
        = versions (int_eq v.major (pos 1)) (int_eq v.minor (pos 1)) (int_eq v.minor (pos 2)) a ts v m n l tags hs
        (ih a (Some (record { major = v.major; minor = v.minor })) ts tags hs r)

    tag_token : (a : Mark) (o : Option yaml_version_directive_t) (ts : List yaml_tag_directive_t) (g : HandleDeclared)
        (m n : Mark) (l : List Token) (tags : List yaml_tag_directive_t) (hs : Handles) → Follows l → Reads tags hs
        → FollowsFrom a o ts tags hs (tk (TagDirective g) m n ∷ l)
    tag_token a o ts g m n l tags hs ih r = grind (arith, is_some, reads_more)

    directive_token : (a : Mark) (o : Option yaml_version_directive_t) (ts : List yaml_tag_directive_t) (k : Content)
        (m n : Mark) (l : List Token) (tags : List yaml_tag_directive_t) (hs : Handles) → Follows l → Reads tags hs
        → FollowsFrom a o ts tags hs (tk k m n ∷ l)
    directive_token a o ts (VersionDirective v) m n l tags hs ih r = version_token a o ts v m n l tags hs ih r
    directive_token a o ts (TagDirective g) m n l tags hs ih r = tag_token a o ts g m n l tags hs ih r
    directive_token a o ts DocumentStart m n l tags hs ih r
        = rw (defaults_appended (par s' flag tags (tk DocumentStart m n ∷ l)) m (next_there a o ts))
        (refl, standing refl (inside tt tt (agree tags hs r)) tt)
    directive_token a o ts k m n l tags hs ih r
        = rw (defaults_appended (par s' flag tags (tk k m n ∷ l)) m (next_there a o ts)) refl

    directives : (l : List Token) → Follows l
    directives [] a o ts tags hs r = refl
    directives (t ∷ l) a o ts tags hs r
        = directive_token a o ts t.content t.start_mark t.end_mark l tags hs (directives l) r

    -- a document without a start of its own
    implicit : (k : Content) (m n : Mark) (l : List Token)
        → Matches f (default_tag_directives m (par s' flag [] (tk k m n ∷ l)) (orig.begins_implicit m None []))
        (fed f (put no_texts None None (here s be no_handles) (tk k m n) k (automaton.implicit_document
        (config_of (here s be no_handles)) (seen (tk k m n) k))) l)
    implicit k m n l = (
      refl,
      standing refl (inside tt tt (agree [] no_handles none_declared)) tt,
    )

    pub explicit : (k : Content) (m n : Mark) (l : List Token)
        → Matches f (orig.explicit_document_start m (par s' flag [] (tk k m n ∷ l)))
        (feed f (after_directive m None []) (here s be no_handles) (tk k m n ∷ l))
    explicit k m n l = directives (tk k m n ∷ l) m None [] [] no_handles none_declared

  -- where a document may be implicit: the first one
  first_token : (k : Content) (m n : Mark) (l : List Token)
      → Matches f
      (orig.yaml_parser_parse_document_start as_here
      (par st.YAML_PARSE_IMPLICIT_DOCUMENT_START_STATE false [] (tk k m n ∷ l)) true)
      (feed f AtState (here st.YAML_PARSE_IMPLICIT_DOCUMENT_START_STATE false no_handles) (tk k m n ∷ l))
  first_token StreamEnd m n l = (refl, standing refl over tt)
  first_token (VersionDirective v) m n l
      = explicit st.YAML_PARSE_IMPLICIT_DOCUMENT_START_STATE st.YAML_PARSE_IMPLICIT_DOCUMENT_START_STATE false false
      (VersionDirective v) m n l
  first_token (TagDirective g) m n l
      = explicit st.YAML_PARSE_IMPLICIT_DOCUMENT_START_STATE st.YAML_PARSE_IMPLICIT_DOCUMENT_START_STATE false false
      (TagDirective g) m n l
  first_token DocumentStart m n l
      = explicit st.YAML_PARSE_IMPLICIT_DOCUMENT_START_STATE st.YAML_PARSE_IMPLICIT_DOCUMENT_START_STATE false false
      DocumentStart m n l
  first_token DocumentEnd m n l
      = implicit st.YAML_PARSE_IMPLICIT_DOCUMENT_START_STATE st.YAML_PARSE_IMPLICIT_DOCUMENT_START_STATE false false
      DocumentEnd m n l
  first_token k m n l
      = implicit st.YAML_PARSE_IMPLICIT_DOCUMENT_START_STATE st.YAML_PARSE_IMPLICIT_DOCUMENT_START_STATE false false k m
      n l

  pub first_document : (l : List Token)
      → Matches f
      (orig.yaml_parser_parse_document_start as_here (par st.YAML_PARSE_IMPLICIT_DOCUMENT_START_STATE false [] l)
      true)
      (feed f AtState (here st.YAML_PARSE_IMPLICIT_DOCUMENT_START_STATE false no_handles) l)
  first_document [] = refl
  first_document (t ∷ l) = first_token t.content t.start_mark t.end_mark l

  -- one after an explicit end
  pub bare_document : (l : List Token)
      → Matches f
      (orig.yaml_parser_parse_document_start as_here (par st.YAML_PARSE_DOCUMENT_START_STATE true [] l) false)
      (feed f AtState (here st.YAML_PARSE_IMPLICIT_DOCUMENT_START_STATE true no_handles) l)
  bare_document [] = refl
  bare_document (t ∷ l) = go t.content t.start_mark t.end_mark (bare_document l)
    where
      go : (k : Content) (m n : Mark)
          → Matches f
          (orig.yaml_parser_parse_document_start as_here (par st.YAML_PARSE_DOCUMENT_START_STATE true [] l) false)
          (feed f AtState (here st.YAML_PARSE_IMPLICIT_DOCUMENT_START_STATE true no_handles) l) → Matches f
          (orig.yaml_parser_parse_document_start as_here
          (par st.YAML_PARSE_DOCUMENT_START_STATE true [] (tk k m n ∷ l)) false)
          (feed f AtState (here st.YAML_PARSE_IMPLICIT_DOCUMENT_START_STATE true no_handles) (tk k m n ∷ l))
      go StreamEnd m n ih = (refl, standing refl over tt)
      go (VersionDirective v) m n ih
          = explicit st.YAML_PARSE_IMPLICIT_DOCUMENT_START_STATE st.YAML_PARSE_DOCUMENT_START_STATE true true
          (VersionDirective v) m n l
      go (TagDirective g) m n ih
          = explicit st.YAML_PARSE_IMPLICIT_DOCUMENT_START_STATE st.YAML_PARSE_DOCUMENT_START_STATE true true
          (TagDirective g) m n l
      go DocumentStart m n ih
          = explicit st.YAML_PARSE_IMPLICIT_DOCUMENT_START_STATE st.YAML_PARSE_DOCUMENT_START_STATE true true
          DocumentStart m n l
      go DocumentEnd m n ih = ih
      go k m n ih
          = implicit st.YAML_PARSE_IMPLICIT_DOCUMENT_START_STATE st.YAML_PARSE_DOCUMENT_START_STATE true true k m n l

  -- where it may not be implicit
  pub next_document : (be : Bool) (k : Content) (m n : Mark) (l : List Token) → is_document_end k ≡ false
      → Matches f
      (orig.yaml_parser_parse_document_start as_here
      (par st.YAML_PARSE_DOCUMENT_START_STATE false [] (tk k m n ∷ l)) false)
      (feed f AtState (here st.YAML_PARSE_DOCUMENT_START_STATE be no_handles) (tk k m n ∷ l))
  next_document be k m n l e =
      let begins = explicit st.YAML_PARSE_DOCUMENT_START_STATE st.YAML_PARSE_DOCUMENT_START_STATE be false k m n l in
      grind (arith, standing, over)
