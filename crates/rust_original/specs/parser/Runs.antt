-- Whole runs of the Rust crate's parser over a list of tokens: its events, and how it ends.
use Rattle.std.specs.Prelude.{◌≡◌, ◌∷◌, ◌+◌, ◌*◌, ℕ, zero, suc, List, [], length, map, Option, Some, None, true, false}
use Rattle.libyaml_types.specs.declared.enums.yaml_parser_state_t.TheVariants as st
use Rattle.libyaml_types.specs.Fault.{Fault, no_fault}
use Rattle.libyaml_grammar.specs.grammar.Events.{Event}
use Rattle.libyaml_grammar.specs.grammar.Tokens.{Token}
use Rattle.libyaml_grammar.specs.runs.Runs.{Ending, Ends, Fails}
use Rattle.rust_original.specs.parser.Parser.{FAIL, Fixes, OK, ParserResult, OriginalParser, yaml_parser_parse}
use Rattle.rust_original.specs.parser.Texts.{as_held}

-- A parser before its first call.
abbrev pub new_original_parser : List Token → Fault → OriginalParser
new_original_parser tokens scanner_fault = record {
  tokens = tokens;
  scanner_fault = scanner_fault;
  stream_end_produced = false;
  state = st.YAML_PARSE_STREAM_START_STATE;
  states = [];
  marks = [];
  tag_directives = [];
  after_explicit_end = false;
}

-- The parser as it is there, and with the three fixes.
abbrev pub as_there : Fixes
as_there = record { pair_key_stays = false; value_begins_entry = false; bare_document_after_end = false }

abbrev pub as_here : Fixes
as_here = record { pair_key_stays = true; value_begins_entry = true; bare_document_after_end = true }

-- A call of a parser that keeps no error.
abbrev pub call : Fixes → OriginalParser → ParserResult
call fixes p = yaml_parser_parse fixes no_fault p

-- Calls in turn, up to the stream end event or an error.
pub data Runs (fixes : Fixes) : OriginalParser → List Event → Ending → Type 0 where
  ends : {p : OriginalParser} {e : Event} {q : OriginalParser} → call fixes p ≡ OK e q → q.stream_end_produced ≡ true
      → Runs fixes p (e ∷ []) Ends
  goes_on : {p : OriginalParser} {e : Event} {q : OriginalParser} {later : List Event} {x : Ending} → call fixes p ≡ OK e q
      → q.stream_end_produced ≡ false → Runs fixes q later x → Runs fixes p (e ∷ later) x
  fails : {p : OriginalParser} {f : Fault} → call fixes p ≡ FAIL f → Runs fixes p [] (Fails f)

-- The run of the Rust crate over a list, whose texts are held as there.
abbrev pub RunsThere : List Token → Fault → List Event → Ending → Type 0
RunsThere l f e x = Runs as_there (new_original_parser (map as_held l) f) e x

-- The same by computation, within so many calls.
abbrev pub run_within : Fixes → ℕ → OriginalParser → List Event × Option Ending
run_within fixes zero p = ([], None)
run_within fixes (suc n) p = elim (call fixes p) [
  | FAIL f ↦ ([], Some (Fails f))
  | OK e q ↦ elim q.stream_end_produced [
    | true ↦ (e ∷ [], Some Ends)
    | false ↦ let (later, x) = run_within fixes n q in (e ∷ later, x)
  ]
]

-- Of each token come at most four events.
abbrev pub enough_calls : List Token → ℕ
enough_calls l = 4 * length l + 1

abbrev pub run_there : List Token → Fault → List Event × Option Ending
run_there l f = run_within as_there (enough_calls l) (new_original_parser (map as_held l) f)

abbrev pub run_here : List Token → Fault → List Event × Option Ending
run_here l f = run_within as_here (enough_calls l) (new_original_parser l f)
