-- Where a node is due, both parsers do the same.
use Rattle.std.proofs.Common.{◌≡◌, ◌∷◌, ℕ, List, [], Option, Some, None, Bool, false, refl, codes, if◌then◌else◌, is_some, arith}
use Rattle.std.specs.FinMap.{get}
use Rattle.libyaml_types.specs.Events.{zero_mark}
use Rattle.libyaml_types.specs.Types.{token_type}
use Rattle.libyaml_types.specs.declared.directive.yaml_tag_directive_t.{yaml_tag_directive_t}
use Rattle.libyaml_types.specs.declared.enums.yaml_parser_state_t.{yaml_parser_state_t}
use Rattle.libyaml_types.specs.Fault.{Fault}
use Rattle.libyaml_grammar.specs.partial.FaultTexts.{content_fault, parser_fault_in}
use Rattle.libyaml_grammar.specs.grammar.Tokens.{Alias, Anchor, AnchorName, Content, Mark, Tag, TagName, Token}
use Rattle.libyaml_automaton.specs.declared.node_place.NodePlace.{NodePlace}
use Rattle.libyaml_automaton.specs.Automaton as automaton
use Rattle.libyaml_automaton.specs.Automaton.{PropertiesRead, Step, content_problem, is_block_place, may_be_indentless}
use Rattle.libyaml_events.specs.machine.Config.{Machine, Handles, config_of}
use Rattle.libyaml_events.specs.machine.Machine as parser_machine
use Rattle.libyaml_events.specs.machine.Machine.{Progressed, fault_with, or_default, put, seen, with_prefix, with_texts}
use Rattle.libyaml_events.specs.machine.Want.{Texts, no_texts}
use Rattle.rust_original.specs.parser.Parser as orig
use Rattle.rust_original.specs.parser.Parser.{ParserResult, OriginalParser, WrittenTag, prefixed}
use Rattle.rust_original.proofs.parser.Relation.{standing, Agree, Below, Matches, entering, fed, inside, popped_fits, popped_fresh, there, tk}

abbrev pub written_text : Option TagName → Option (List ℕ)
written_text None = None
written_text (Some g) = Some g.suffix

-- where there is no property, a node begins at its own token; else its properties end at one place
abbrev pub OnlyAt : (tag anchor : Option (List ℕ)) → (a m b c : Mark) → Type 0
OnlyAt (Some tag) anchor a m b c = b ≡ c
OnlyAt None None a m b c = a ≡ m
OnlyAt None (Some anchor) a m b c = b ≡ c

missing_content : (block : Bool) (m n : Mark) → m ≡ n
    → parser_fault_in (if block then codes "while parsing a block node" else codes "while parsing a flow node") m
    (codes "did not find expected node content") n
    ≡ content_fault block n
missing_content block m n e = grind arith

problem_of : (p : NodePlace) (m : Mark) → content_fault (is_block_place p) m
    ≡ fault_with (record { problem = content_problem p; context_mark = m; mark = m })
problem_of p m = grind arith

plain : (h : Texts) (c : Machine) (t : Token) (k : Content) (p : NodePlace) (r : PropertiesRead)
    → with_texts h c t k (automaton.node_content p r (config_of c) (seen t k) (token_type k))
    ≡ put h None None c t k (automaton.node_content p r (config_of c) (seen t k) (token_type k))
plain h c t k p r = grind arith

module _ (f : Fault) (tags : List yaml_tag_directive_t) (hs : Handles) (agree : Agree tags hs) (be flag : Bool)
    (x : Fault) (s s' : yaml_parser_state_t)
    (ms : List Mark) where
  abbrev pub conf : List yaml_parser_state_t → Machine
  conf ss =
      record { state = s; states = ss; marks = ms; handles = hs; behind_document_end = be; fault = x }

  abbrev pub par : List yaml_parser_state_t → List Token → OriginalParser
  par ss l = there f tags flag s' false (conf ss) l

  abbrev props : (anchor tag : Option (List ℕ)) → (start end tag_mark : Mark) → PropertiesRead
  props anchor tag a c g
      = record { anchor = is_some anchor; tag = is_some tag; start_mark = a; end_mark = c; tag_mark = g }

  abbrev texts : Option (List ℕ) → Option TagName → Texts
  texts anchor tag = record no_texts { anchor = anchor; tag = tag }

  module _ (p : NodePlace) (ss : List yaml_parser_state_t) (inner : Below ss) where
    alone : (h : Texts) (anchor tag : Option (List ℕ)) (a b c g : Mark) (t : Token) (l : List Token)
        → OnlyAt tag anchor a t.start_mark b c
        → Matches f (orig.without_content (par ss (t ∷ l)) (is_block_place p) anchor tag a b t)
        (fed f (put h anchor tag (conf ss) t t.content (automaton.no_content p (is_some anchor) (is_some tag)
        (props anchor tag a c g) (config_of (conf ss)) (seen t t.content))) l)
    alone h anchor tag a b c g t l o = grind (arith, missing_content, problem_of, standing, popped_fits, popped_fresh)

    abbrev ContentOf : (h : Texts) (anchor tag : Option (List ℕ)) (a b c g : Mark) (t : Token) (l : List Token) → Type 0
    ContentOf h anchor tag a b c g t l = Matches f
        (orig.content_of_node (par ss (t ∷ l)) (is_block_place p) (may_be_indentless p) anchor tag a b t)
        (fed f (put h anchor tag (conf ss) t t.content (automaton.node_content p (props anchor tag a c g)
        (config_of (conf ss)) (seen t t.content) (token_type t.content))) l)

    content : (h : Texts) (anchor tag : Option (List ℕ)) (a b c g : Mark) (t : Token) (l : List Token)
        → OnlyAt tag anchor a t.start_mark b c → ContentOf h anchor tag a b c g t l
    content h anchor tag a b c g t l o = grind (arith, alone, standing, entering, inside, popped_fits, popped_fresh)

    -- the content after properties
    abbrev written : List ℕ → TagName → Mark → WrittenTag
    written h g y = record { handle = h; suffix = g.suffix; mark = y }

    abbrev wrote : Option TagName → Mark → Option WrittenTag
    wrote None y = None
    wrote (Some g) y = Some (written g.handle g y)

    abbrev content_there : (anchor : Option (List ℕ)) (a b : Mark) → Token → List Token → Option (List ℕ) → ParserResult
    content_there anchor a b t l tag
        = orig.content_of_node (par ss (t ∷ l)) (is_block_place p) (may_be_indentless p) anchor tag a b t

    abbrev content_here : (anchor : Option (List ℕ)) → TagName → (a b y : Mark) → Token → Option (List ℕ) → Progressed
    content_here anchor g a b y t tag
        = parser_machine.content_resolved tag p (props anchor (Some g.suffix) a b y) (config_of (conf ss)) (texts anchor (Some g))
        (conf ss) t t.content

    found : (anchor : Option (List ℕ)) (g : TagName) (h : List ℕ) (a b y : Mark) (t : Token) (l : List Token)
        (o : Option (List ℕ)) → Matches f (prefixed a (written h g y) o (content_there anchor a b t l))
        (fed f (content_here anchor g a b y t (with_prefix o g.suffix)) l)
    found anchor g h a b y t l None = refl
    found anchor g h a b y t l (Some prefix) = content (texts anchor (Some g)) anchor (Some _) a b b y t l refl

    resolved : (anchor : Option (List ℕ)) (g : TagName) (h : List ℕ) (a b y : Mark) (t : Token) (l : List Token)
        → Matches f (orig.node_tag (par ss (t ∷ l)) a (Some (written h g y)) (content_there anchor a b t l))
        (fed f (content_here anchor g a b y t (parser_machine.resolve hs h g.suffix)) l)
    resolved anchor g [] a b y t l = content (texts anchor (Some g)) anchor (Some _) a b b y t l refl
    resolved anchor g (z ∷ zs) a b y t l = rw (agree (z ∷ zs))
        (found anchor g (z ∷ zs) a b y t l (or_default (get hs (z ∷ zs)) (z ∷ zs)))

    abbrev after_here : (anchor : Option (List ℕ)) (tag : Option TagName) (a c y : Mark) → Token → Progressed
    after_here anchor tag a c y t
        = parser_machine.content_after tag p (props anchor (written_text tag) a c y) (config_of (conf ss)) (texts anchor tag)
        (conf ss) t t.content

    following : (anchor : Option (List ℕ)) (tag : Option TagName) (a b c y : Mark) (t : Token) (l : List Token)
        → OnlyAt (written_text tag) anchor a t.start_mark b c → Matches f
        (orig.after_properties (par ss (t ∷ l)) (is_block_place p) (may_be_indentless p) anchor (wrote tag y) a b)
        (fed f (after_here anchor tag a c y t) l)
    following anchor None a b c y t l o = content (texts anchor None) anchor None a b c y t l o
    following anchor (Some g) a b c y t l o = rw (← o) (resolved anchor g g.handle a b y t l)

    abbrev next_here : (anchor : Option (List ℕ)) (tag : Option TagName) (a c y : Mark) (t : Token) → Progressed
    next_here anchor tag a c y t
        = with_texts (texts anchor tag) (conf ss) t t.content (automaton.parse_after_properties p
        (props anchor (written_text tag) a c y) (config_of (conf ss)) (seen t t.content) (token_type t.content))

    -- after both properties no further one is read
    after_both : (anchor : List ℕ) (g : TagName) (a b y : Mark) (t : Token) (l : List Token)
        → Matches f
        (orig.after_properties (par ss (t ∷ l)) (is_block_place p) (may_be_indentless p) (Some anchor)
        (wrote (Some g) y) a b)
        (fed f (next_here (Some anchor) (Some g) a b y t) l)
    after_both anchor g a b y t l = grind (arith, following (Some anchor) (Some g) a b b y t l refl)

    -- after an anchor, and after a tag
    after_anchor : (z : AnchorName) (a b : Mark) (t : Token) (l : List Token)
        → Matches f
        (orig.yaml_parser_parse_node (par ss (tk (Anchor z) a b ∷ t ∷ l)) (is_block_place p) (may_be_indentless p))
        (fed f (next_here (Some z.value) None a b zero_mark t) l)
    after_anchor z a b t l = grind (arith, after_both z.value, following (Some z.value) None a b b zero_mark t l refl)

    after_tag : (g : TagName) (a b : Mark) (t : Token) (l : List Token)
        → Matches f
        (orig.yaml_parser_parse_node (par ss (tk (Tag g) a b ∷ t ∷ l)) (is_block_place p) (may_be_indentless p))
        (fed f (next_here None (Some g) a b a t) l)
    after_tag g a b t l =
        let next = following None (Some g) a b b a t l refl in grind (arith, λ (y : List ℕ). after_both y g a t.end_mark a)

    bare : (t : Token) (l : List Token)
        → Matches f
        (orig.after_properties (par ss (t ∷ l)) (is_block_place p) (may_be_indentless p) None None t.start_mark
        t.start_mark)
        (fed f (with_texts no_texts (conf ss) t t.content (automaton.node_content p
        (props None None t.start_mark t.end_mark zero_mark) (config_of (conf ss)) (seen t t.content)
        (token_type t.content))) l)
    bare t l = rw (← (plain no_texts (conf ss) t t.content p (props None None t.start_mark t.end_mark zero_mark))) at
        (content no_texts None None t.start_mark t.start_mark t.end_mark zero_mark t l refl)

    -- a node
    pub parsed : (k : Content) (m n : Mark) (l : List Token)
        → Matches f (orig.yaml_parser_parse_node (par ss (tk k m n ∷ l)) (is_block_place p) (may_be_indentless p))
        (fed f (with_texts no_texts (conf ss) (tk k m n) k (automaton.parse_node p (config_of (conf ss))
        (seen (tk k m n) k) (token_type k))) l)
    parsed (Alias z) m n l = (refl, standing refl (popped_fits ss inner agree) (popped_fresh ss _ inner))
    parsed (Anchor z) m n [] = refl
    parsed (Anchor z) m n (u ∷ l) = after_anchor z m n u l
    parsed (Tag g) m n [] = refl
    parsed (Tag g) m n (u ∷ l) = after_tag g m n u l
    parsed k m n l = bare (tk k m n) l
