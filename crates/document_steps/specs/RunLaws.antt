-- What holds of every run.
use Rattle.std.specs.Prelude.{◌≡◌, ◌≤◌, ◌<◌, ◌∷◌, ◌++◌, ℕ, List, [], length, Err, true}
use Rattle.libyaml_grammar.specs.grammar.Events.{Event}
use Rattle.libyaml_grammar.specs.runs.Runs.{Ending}
use Rattle.libyaml_documents.specs.Documents.{Document}
use Rattle.libyaml_graphs.specs.loads.Bounds.{bounded_loads}
use Rattle.libyaml_graphs.specs.loads.Loads.{last_load}
use Rattle.libyaml_graphs.specs.machine.Loader.{between}
use Rattle.libyaml_composer.specs.declared.composer.composer_t.{composer_t}
use Rattle.libyaml_composer.specs.declared.deed.Deed.{Deed}
use Rattle.libyaml_composer.specs.declared.deed.Deed.TheVariants as deed
use Rattle.libyaml_composer.specs.declared.records.open_t.{open_t}
use Rattle.libyaml_composer.specs.declared.records.place_t.{place_t}
use Rattle.libyaml_composer.specs.Composing.{composer_of}
use Rattle.libyaml_composer.specs.DocumentSoFar.{DocumentSoFar, IsRefused, deed_fault, loader_state}
use Rattle.libyaml_graphs.specs.loads.Leads.{Leads, as_loads}
use Rattle.libyaml_composer.specs.Numbers.{is_set}
use Rattle.document_steps.specs.Open.{still_open}
use Rattle.document_steps.specs.Places.{UnusedAreZero}
use Rattle.document_steps.specs.Runs.{ComposeCalls, ComposerRun}

-- the loader's machine, at the same events, stands where the caller does, and gave the same documents
abbrev pub RunIsMachine : Type 0
RunIsMachine = (most : ℕ) (d : composer_t) (ss : List open_t) (h : DocumentSoFar) (es : List Event) (ds : List Document)
    → ComposerRun most d ss h es ds → Leads most between es ds (loader_state (composer_of d ss) h)

-- the documents are all loads of the events so far, whatever comes after them
abbrev pub RunIsLoads : Type 0
RunIsLoads = (most : ℕ) (d : composer_t) (ss : List open_t) (h : DocumentSoFar) (es : List Event) (ds : List Document)
    → ComposerRun most d ss h es ds → (x : Ending) → bounded_loads most es x ≡ as_loads ds ++ last_load x ∷ []

-- where a call refuses an event, the loads end there with its error, whatever comes after it
abbrev pub RunFails : Type 0
RunFails = (most : ℕ) (d d' : composer_t) (ss ss' : List open_t) (h : DocumentSoFar) (es : List Event) (ds : List Document) (a : Deed)
    (e : Event) (p p' : place_t) → ComposerRun most d ss h es ds → ComposeCalls a d ss h e d' ss' p p' → IsRefused a
    → (rest : List Event) (x : Ending) → bounded_loads most (es ++ e ∷ rest) x ≡ as_loads ds ++ Err (deed_fault a h e) ∷ []

-- a call puts 0 where its deed has no use for a field
abbrev pub RunPlaces : Type 0
RunPlaces = (most : ℕ) (d d' : composer_t) (ss ss' : List open_t) (h : DocumentSoFar) (es : List Event) (ds : List Document) (a : Deed)
    (e : Event) (p p' : place_t) → ComposerRun most d ss h es ds → ComposeCalls a d ss h e d' ss' p p' → UnusedAreZero a p'

-- within a document the record counts at most the open collections, on a stack that has so many entries
abbrev pub StackFits : Type 0
StackFits = (most : ℕ) (d : composer_t) (ss : List open_t) (h : DocumentSoFar) (es : List Event) (ds : List Document)
    → ComposerRun most d ss h es ds → is_set d.is_within ≡ true → d.depth ≤ length ss → d.depth ≤ still_open es

-- a stack is full only where an event opens more collections than it has entries
abbrev pub FullWhereOpen : Type 0
FullWhereOpen = (most : ℕ) (d d' : composer_t) (ss ss' : List open_t) (h : DocumentSoFar) (es : List Event) (ds : List Document)
    (e : Event) (p p' : place_t) → ComposerRun most d ss h es ds → ComposeCalls deed.FullStack d ss h e d' ss' p p'
    → length ss < still_open (es ++ e ∷ [])
