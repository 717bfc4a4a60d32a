-- What the two parsers do at the three places is never the same.
use Rattle.std.proofs.Common.{◌≡◌, ◌∷◌, ℕ, suc, List, [], None, length, false, ap, subst, sym, arith}
use Rattle.libyaml_types.specs.declared.enums.yaml_token_type_t.TheVariants as kinds
use Rattle.libyaml_grammar.specs.grammar.Tokens.{Content, Mark, TagDirective, Token, VersionDirective}
use Rattle.rust_original.specs.parser.Differences.{Differs, bare_document, pair_key, value_first}
use Rattle.rust_original.specs.parser.Parser.{FAIL, OK, OriginalParser, ParserResult, SKIP_TOKEN, begins_implicit, directives_from, is_one_of}
use Rattle.rust_original.proofs.parser.Handles.{defaults_appended}
use Rattle.rust_original.proofs.parser.Relation.{tk}

-- an event, after which so many tokens are left, or an error
abbrev left : ParserResult → ℕ
left (OK e p) = suc (length p.tokens)
left (FAIL f) = 0

skipped : (p : OriginalParser) (t : Token) (l : List Token) → p.tokens ≡ t ∷ l → (SKIP_TOKEN p).tokens ≡ l
skipped p t l e = grind arith

begun : (q : OriginalParser) (k : Content) (m n x : Mark) (l : List Token) → is_one_of (tk k m n)
    (kinds.YAML_VERSION_DIRECTIVE_TOKEN ∷ kinds.YAML_TAG_DIRECTIVE_TOKEN ∷ kinds.YAML_DOCUMENT_START_TOKEN ∷
    kinds.YAML_STREAM_END_TOKEN ∷ []) ≡ false
    → left (directives_from None [] (begins_implicit x) (tk k m n ∷ l) q) ≡ suc (length q.tokens)
begun q (VersionDirective v) m n x l h = absurd cc
begun q (TagDirective g) m n x l h = absurd cc
begun q k m n x l h = ap left (defaults_appended q m (begins_implicit x None []))

pub never_same : (p : OriginalParser) (a b : ParserResult) → Differs p a b → a ≡ b → ⊥
never_same p a b (pair_key t l s e i) h =
    let after = ap length (skipped p t l e) in let before = ap length e in let same = ap left h in absurd (omega arith)
never_same p a b (value_first q t l k e i) h = let same = ap left h in absurd (omega arith)
never_same p a b (bare_document q t l s ended skip e kind) h =
    let some = subst (λ (ts : List Token). left (directives_from None [] (begins_implicit t.start_mark) ts q)
    ≡ suc (length q.tokens)) (sym e) (begun q t.content t.start_mark t.end_mark t.start_mark l kind) in
    let same = ap left h in absurd (omega arith)
