-- What a caller has who composes a document event by event, and counts each deed (docs/DEFINITIONS.md, "Expanded size while
-- composing").
use Rattle.std.specs.Prelude.{◌≡◌, ◌++◌, ℕ, pos, List, [], Some, true}
use Rattle.libyaml_types.specs.Types.{event_type}
use Rattle.libyaml_grammar.specs.grammar.Events.{Event}
use Rattle.libyaml_graphs.specs.graphs.GraphParts.{Opening}
use Rattle.libyaml_graphs.specs.machine.Loader.{no_anchors}
use Rattle.libyaml_composer.specs.declared.deed.Deed.{Deed}
use Rattle.libyaml_composer.specs.declared.deed.Deed.TheVariants as deed
use Rattle.libyaml_composer.specs.declared.records.place_t.{place_t}
use Rattle.libyaml_composer.specs.Composing.{Composer, Told, composer_step, is_start, waiting_in}
use Rattle.libyaml_composer.specs.DocumentSoFar.{DocumentSoFar, applied, event_fact}
use Rattle.libyaml_composer.specs.Represents.{IsPart}
use Rattle.document_sizes.specs.declared.counted.Counted.TheVariants as counted
use Rattle.document_sizes.specs.Counting.{Count, bound_of, count_of, counting}

-- a document that begins
abbrev pub document_begun : Opening → DocumentSoFar
document_begun o = record { opening = Some o; nodes = []; anchors = no_anchors }

-- no second root, and no end of a mapping whose key waits for its value: a parser gives no such events
abbrev pub LosesNothing : Deed → Composer → Type 0
LosesNothing deed.Root c = c.nodes ≡ 0
LosesNothing deed.Closes c = waiting_in c.stack ≡ pos 0
LosesNothing _ c = Unit {0}

-- an event within a document, with its fact by the anchors that are held: what the composer told, and how that was counted
pub record Counts (max : ℕ) (c : Composer) (h : DocumentSoFar) (total : ℕ) (sizes : List ℕ) (e : Event) (t : Told) (count : Count)
    : Type 0 where
  pub place : place_t
  pub composed : t ≡ composer_step (event_type e.content) (event_fact h e) place c
  pub part : IsPart t.deed
  pub all : LosesNothing t.deed c
  pub counted : count ≡ counting (bound_of max) t.deed (is_start (event_type e.content)) t.place total sizes

-- The caller handed in the events of a document up to here, and each was counted; it did with what it holds what each deed
-- says.
pub data CountRun (max : ℕ) : Composer → DocumentSoFar → (total : ℕ) → (sizes : List ℕ) → Type 0 where
  begins : (c : Composer) (o : Opening) (sizes : List ℕ)
      → CountRun max (record c { is_within = true; nodes = 0; stack = [] }) (document_begun o) 0 sizes
  -- more room in the stack and for the sizes
  moves : (c : Composer) (h : DocumentSoFar) (total room : ℕ) (sizes more : List ℕ) → CountRun max c h total sizes
      → CountRun max (record c { room = room }) h total (sizes ++ more)
  takes : (c : Composer) (h : DocumentSoFar) (total total' : ℕ) (sizes sizes' : List ℕ) (e : Event) (t : Told)
      → CountRun max c h total sizes → Counts max c h total sizes e t (count_of counted.Within total' sizes')
      → CountRun max t.composer (applied t.deed t.place e h) total' sizes'
