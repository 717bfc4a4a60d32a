-- That no document is held back: the text of each is written before anything of the next is asked for
-- (docs/DEFINITIONS.md, "Runs over lines").
use Rattle.std.specs.Prelude.{◌≡◌, ◌≤◌, ◌*◌, ◌-◌, ◌++◌, ◌∷◌, ℕ, List, [], length, Option, Ok, Err, ◌≢◌}
use Rattle.std.specs.List.{concat, flat_map}
use Rattle.std.specs.Io.KnownBytes.{Appends, Keeps}
use Rattle.libyaml_types.specs.declared.event.yaml_event_t.{yaml_event_t}
use Rattle.libyaml_types.specs.declared.token.yaml_token_t.{yaml_token_t}
use Rattle.libyaml_documents.specs.Documents.{Document}
use Rattle.libyaml_events.specs.machine.Config.{Parser}
use Rattle.libyaml_types.specs.Fault.{SourceResult, Fault, fault_of, memory_fault}
use Rattle.libyaml_events.specs.sources.History.{kept_fault}
use Rattle.libyaml_types.specs.declared.source.yaml_token_source_t.{Ghosts}
use Rattle.libyaml_graphs.specs.loads.Bounds.{next_bounded}
use Rattle.libyaml_graphs.specs.loads.Linear.{documents_size}
use Rattle.libyaml_graphs.specs.loads.Loads.{left_over}
use Rattle.libyaml_loader.specs.loads.Loading.{DocumentOrError, HasEnded, LoadsFrom}
use Rattle.libyaml_loader.specs.loads.LoadsInTurn.{LoadedInTurn}
use Rattle.line_reading.specs.sources.LineSource.{LineSource, BreaksOff, Gives, known_of}
use Rattle.line_writing.specs.DocumentText.{document_lines}
use Rattle.line_writing.specs.FaultText.{fault_text}
use Rattle.token_lines.specs.declared.run.Outcome.{Outcome}
use Rattle.token_lines.specs.declared.run.run_end_t.{run_end_t}
use Rattle.token_lines.specs.declared.run.run_end_t.TheVariants.{Ended, Faulted, OutputFailed}
use Rattle.token_lines.specs.events.LastCall.{StartsAt}
use Rattle.token_lines.specs.lines.LineRun.{WroteFault, outcome_of}
use Rattle.token_lines.specs.nodes.NodeRun.{WritesNodesOf}

-- where memory ran out for one of these lines, those before it were written, and then the text of a failed allocation
pub record CutText (before after : Option (List ℕ)) (lines : List (List ℕ)) : Type 0 where
  pub written : List (List ℕ)
  pub line : List ℕ
  pub rest : List (List ℕ)
  pub all : lines ≡ written ++ line ∷ rest
  pub wrote : Appends before after (concat written ++ fault_text memory_fault)

-- What a run wrote after a last load that returned this: nothing, where it is the document without root; the text of the
-- error that is kept; or a document's text that was cut. Where the output failed, nothing is said.
abbrev pub WroteForLoad : run_end_t → DocumentOrError → (kept : Fault) → (before after : Option (List ℕ)) → Type 0
WroteForLoad Ended (Ok d) kept before after = (d.nodes ≡ []) × Keeps before after
WroteForLoad (Faulted f) (Ok d) kept before after = (fault_of f ≡ memory_fault) × (d.nodes ≢ [])
    × CutText before after (document_lines d)
WroteForLoad OutputFailed (Ok d) kept before after = Unit {0}
WroteForLoad end (Err x) kept before after = WroteFault end kept before after

-- From the first parser to this one loads returned these documents, and the text of each was written.
pub record AllLoaded {S : Type 0} (gives : S → SourceResult → S
    → Type 0) (n : ℕ) (first parser : Parser S) (before after : Option (List ℕ)) (asked : List yaml_token_t)
    (given : List yaml_event_t) : Type 0 where
  pub documents : List Document
  pub loaded : LoadedInTurn gives n first parser documents asked given
  pub wrote : Appends before after (concat (flat_map document_lines documents))

-- The last load: the writer held the text of each document that was loaded before, and what was written since is of this
-- load.
pub record LastLoad {S W : Type 0} (g : Ghosts S) (contents : W → Option (List ℕ)) (n : ℕ) (end : run_end_t)
    (first last : Parser S) (before after : Option (List ℕ)) (asked : List yaml_token_t)
    (given : List yaml_event_t) : Type 0 where
  pub parser : Parser S
  pub writer : W
  pub earlier : AllLoaded g.gives n first parser before (contents writer) asked given
  pub loaded : DocumentOrError
  pub load : LoadsFrom g (next_bounded n) left_over parser loaded last
  pub wrote : WroteForLoad end loaded (kept_fault last) (contents writer) after
  -- the run ends only where the parser has ended
  pub ends : end ≡ Ended → HasEnded last

-- an error that the parser kept was written again
pub record WritesKept {S : Type 0} (end : run_end_t) (old new : Parser S) (before after : Option (List ℕ)) : Type 0 where
  pub parser : new ≡ old
  pub wrote : WroteFault end (kept_fault old) before after

-- the source of a reader's lines
abbrev pub line_source : {R : Type 0} → (R → Option (List ℕ)) → Ghosts (LineSource R)
line_source remaining = record {
  gives = Gives remaining;
  bound = λ s. s.max_tokens - s.given;
  known = known_of remaining;
  may_break = BreaksOff;
}

-- each list of a document that a new parser loads has at most so many entries
abbrev pub most_entries : ℕ
most_entries = 2147483647

-- A run over a reader's lines: what it wrote, where a source of these lines may have failed early as it then was; and
-- that a parser which starts there can have written it in turn. Which loads were made is said of `write_nodes`, whose
-- parser stays. The nodes of the documents that it wrote, and the entries of their lists, are together at most eight
-- for each token that such a parser asked for.
pub record NodesOver {R W : Type 0} (remaining : R → Option (List ℕ)) (contents : W
    → Option (List ℕ)) (reader : R) (outcome : Outcome) (before after : Option (List ℕ)) : Type 0 where
  pub end : run_end_t
  pub outcome_is : outcome ≡ outcome_of end
  pub first : Parser (LineSource R)
  pub last : Parser (LineSource R)
  pub starts : StartsAt reader first
  pub writes : WritesNodesOf (remaining reader) (BreaksOff last.source) end before after
  pub in_turn : LastLoad (line_source remaining) contents most_entries end first last before after [] []
  pub linear : documents_size in_turn.earlier.documents ≤ 8 * length in_turn.earlier.loaded.carried.more
