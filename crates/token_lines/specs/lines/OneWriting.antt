-- The results of the source that an outcome of `write_events` or `write_nodes` names (docs/DEFINITIONS.md, "One outcome").
use Rattle.std.specs.Prelude.{List, [], ℕ, ◌++◌, Option}
use Rattle.libyaml_types.specs.declared.event.yaml_event_t.{yaml_event_t}
use Rattle.libyaml_types.specs.declared.token.yaml_token_t.{yaml_token_t}
use Rattle.libyaml_events.specs.machine.Config.{Parser}
use Rattle.libyaml_events.specs.sources.History.{source_results}
use Rattle.libyaml_types.specs.Fault.{SourceResult, Fault}
use Rattle.libyaml_types.specs.declared.source.yaml_token_source_t.{Ghosts}
use Rattle.libyaml_graphs.specs.loads.Bounds.{next_bounded}
use Rattle.libyaml_graphs.specs.loads.Loads.{left_over}
use Rattle.libyaml_loader.specs.loads.OneLoad.{results_in}
use Rattle.token_lines.specs.declared.run.run_end_t.{run_end_t}
use Rattle.token_lines.specs.events.InTurn.{CallSays, failed, gave_event}
use Rattle.token_lines.specs.events.LastCall.{LastCall}
use Rattle.token_lines.specs.nodes.LastLoad.{LastLoad}

-- those that a call asked for
abbrev pub results_in_call : {S : Type 0} {gives : S → SourceResult → S → Type 0} {ForEvent : yaml_event_t → Type 0}
    {ForFault : Fault → Type 0} {old new
    : Parser S} {asked : List yaml_token_t} {given : List yaml_event_t}
    → CallSays gives ForEvent ForFault old new asked given → List SourceResult
results_in_call (gave_event e c w) = source_results c.more []
results_in_call (failed f w) = f.more

-- and all: the tokens by which the events before the last call came, and then what that call asked for
abbrev pub writing_results_of : {S W : Type 0} {gives : S → SourceResult → S → Type 0} {contents : W → Option (List ℕ)}
    {first last : Parser S}
    {before after : Option (List ℕ)} {asked : List yaml_token_t} {given : List yaml_event_t}
    → (end : run_end_t) → LastCall gives contents end first last before after asked given → List SourceResult
writing_results_of end o = source_results o.earlier.carried.more (results_in_call o.call)

-- likewise of documents, whose last load names what it asked for
abbrev pub results_of_nodes : {S W : Type 0} {g : Ghosts S} {contents : W → Option (List ℕ)} {n : ℕ} {end : run_end_t}
    {first last : Parser S} {before after : Option (List ℕ)} {asked : List yaml_token_t} {given : List yaml_event_t}
    → LastLoad g contents n end first last before after asked given → List SourceResult
results_of_nodes {g} {n} {last} {asked} {given} o
    = let before = o.earlier.loaded in
    source_results before.carried.more (results_in g (next_bounded n) left_over o.parser last
    (asked ++ before.carried.more) (given ++ before.taken) before.carried.history o.loaded o.load)

-- such a source fails early by no error
abbrev pub BreaksOffByNone : Fault → Type 0
BreaksOffByNone f = ⊥
