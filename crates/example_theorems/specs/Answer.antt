-- The run and the loads of a list of tokens, as what a function returns.
use Rattle.std.specs.Prelude.{◌≡◌, ◌⊎◌, List, Err}
use Rattle.libyaml_types.specs.declared.event.yaml_event_t.{yaml_event_t}
use Rattle.libyaml_types.specs.declared.token.yaml_token_t.{yaml_token_t}
use Rattle.libyaml_types.specs.Fault.{Fault, memory_fault}
use Rattle.libyaml_grammar.specs.runs.Runs.{IsRun, Ends, Fails}
use Rattle.libyaml_documents.specs.Documents.{Document}
use Rattle.libyaml_graphs.specs.loads.Loads.{last_load}
use Rattle.libyaml_loader.specs.pushes.PushesLoads.{AreThen}

-- the events of the run over the tokens and a source's error: to the stream's end, or to that error
abbrev pub GivesRun : List yaml_token_t → Fault → List yaml_event_t → Type 0
GivesRun tokens source events = IsRun tokens source events Ends ⊎ IsRun tokens source events (Fails source)

-- or the run's error, or out of memory
abbrev pub FailsSo : List yaml_token_t → Fault → Fault → Type 0
FailsSo tokens source f = (f ≡ memory_fault) ⊎ ((events : List yaml_event_t) × IsRun tokens source events (Fails f))

-- the documents of the loads over the tokens and a source's error: to the stream's end, or to that error
abbrev pub GivesLoads : List yaml_token_t → Fault → List Document → Type 0
GivesLoads tokens source documents = AreThen 2147483647 tokens source documents (last_load Ends)
    ⊎ AreThen 2147483647 tokens source documents (Err source)

-- or the loads' error, or out of memory
abbrev pub LoadsFail : List yaml_token_t → Fault → Fault → Type 0
LoadsFail tokens source f = (f ≡ memory_fault)
    ⊎ ((documents : List Document) × AreThen 2147483647 tokens source documents (Err f))
