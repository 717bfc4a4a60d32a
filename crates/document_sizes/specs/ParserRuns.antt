-- What a caller has who composes a parser's events from a stream's start on, and counts each deed (docs/DEFINITIONS.md,
-- "Expanded size while composing").
use Rattle.std.specs.Prelude.{◌≡◌, ◌∷◌, ◌++◌, ℕ, List, [], false}
use Rattle.libyaml_types.specs.Types.{event_type}
use Rattle.libyaml_grammar.specs.grammar.Events.{Event}
use Rattle.libyaml_composer.specs.declared.deed.Deed.{Deed}
use Rattle.libyaml_composer.specs.declared.deed.Deed.TheVariants as deed
use Rattle.libyaml_composer.specs.declared.records.place_t.{place_t}
use Rattle.libyaml_composer.specs.Composing.{Composer, Told, composer_step, is_start}
use Rattle.libyaml_composer.specs.DocumentSoFar.{DocumentSoFar, applied, event_fact, nothing_held}
use Rattle.libyaml_composer.specs.Represents.{IsPart}
use Rattle.document_sizes.specs.declared.counted.Counted.TheVariants as counted
use Rattle.document_sizes.specs.Counting.{Count, bound_of, count_of, counting}

-- the composer takes the event
abbrev pub TakesEvent : Deed → Type 0
TakesEvent deed.Begins = Unit {0}
TakesEvent deed.Ends = Unit {0}
TakesEvent d = IsPart d

-- an event, with its fact by the anchors that are held: what the composer told, and how that was counted
pub record CountsEvent (max : ℕ) (c : Composer) (h : DocumentSoFar) (total : ℕ) (sizes : List ℕ) (e : Event) (t : Told)
    (count : Count) : Type 0 where
  pub place : place_t
  pub composed : t ≡ composer_step (event_type e.content) (event_fact h e) place c
  pub taken : TakesEvent t.deed
  pub counted : count ≡ counting (bound_of max) t.deed (is_start (event_type e.content)) t.place total sizes

-- The caller handed in these events since the stream's start, and each was counted; it did with what it holds what each deed
-- says.
pub data StreamRun (max : ℕ) : Composer → DocumentSoFar → (total : ℕ) → (sizes : List ℕ) → List Event → Type 0 where
  begins : (c : Composer) (total : ℕ) (sizes : List ℕ) → c.is_within ≡ false → StreamRun max c nothing_held total sizes []
  -- more room in the stack and for the sizes
  moves : (c : Composer) (h : DocumentSoFar) (total room : ℕ) (sizes more : List ℕ) (es : List Event)
      → StreamRun max c h total sizes es → StreamRun max (record c { room = room }) h total (sizes ++ more) es
  takes : (c : Composer) (h : DocumentSoFar) (total total' : ℕ) (sizes sizes' : List ℕ) (es : List Event) (e : Event) (t : Told)
      → StreamRun max c h total sizes es → CountsEvent max c h total sizes e t (count_of counted.Within total' sizes')
      → StreamRun max t.composer (applied t.deed t.place e h) total' sizes' (es ++ e ∷ [])
