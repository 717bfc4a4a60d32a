-- What a caller handed in since a stream's start, and what it has.
use Rattle.std.specs.Prelude.{◌≡◌, ◌∷◌, ◌++◌, ℕ, List, [], length, false}
use Rattle.libyaml_types.specs.Types.{event_type}
use Rattle.libyaml_grammar.specs.grammar.Events.{Event}
use Rattle.libyaml_documents.specs.Documents.{Document}
use Rattle.libyaml_composer.specs.declared.composer.composer_t.{composer_t}
use Rattle.libyaml_composer.specs.declared.deed.Deed.{Deed}
use Rattle.libyaml_composer.specs.declared.deed.Deed.TheVariants as deed
use Rattle.libyaml_composer.specs.declared.records.open_t.{open_t}
use Rattle.libyaml_composer.specs.declared.records.place_t.{place_t}
use Rattle.libyaml_composer.specs.Composing.{Composer, composer_of, composer_step, told}
use Rattle.libyaml_composer.specs.DocumentSoFar.{DocumentSoFar, applied, event_fact, given, nothing_held}

-- before a stream's first event
abbrev pub new_composer : (most room : ℕ) → Composer
new_composer most room = record { is_within = false; nodes = 0; most = most; room = room; stack = [] }

-- A call with this record and this stack at the event e, with its fact by the anchors that are held, returned this deed,
-- and left that record, that stack and that place.
abbrev pub ComposeCalls : Deed → (old : composer_t) → (stack : List open_t) → DocumentSoFar → (e : Event) → (new : composer_t)
    → (stack' : List open_t) → (old_place new_place : place_t) → Type 0
ComposeCalls a d ss h e d' ss' p p' = told a p' (composer_of d' ss')
    ≡ composer_step (event_type e.content) (event_fact h e) p (composer_of d ss)

-- the event was taken
abbrev pub IsTaken : Deed → Type 0
IsTaken deed.FullStack = ⊥
IsTaken deed.UndefinedAlias = ⊥
IsTaken deed.RepeatedAnchor = ⊥
IsTaken deed.FullList = ⊥
IsTaken deed.Bad = ⊥
IsTaken _ = Unit {0}

-- With this record and this stack the caller handed in these events, one by one; it did with what it holds what each call
-- said, and these documents ended. Each list of a document may have `most` entries.
pub data ComposerRun (most : ℕ) : composer_t → (stack : List open_t) → DocumentSoFar → List Event → List Document → Type 0 where
  begins : (d : composer_t) (ss : List open_t) → composer_of d ss ≡ new_composer most (length ss) → ComposerRun most d ss nothing_held [] []
  -- another stack with the same in it
  moves : (d d' : composer_t) (ss ss' : List open_t) (h : DocumentSoFar) (es : List Event) (ds : List Document)
      → ComposerRun most d ss h es ds → composer_of d' ss' ≡ record (composer_of d ss) { room = length ss' }
      → ComposerRun most d' ss' h es ds
  takes : (d d' : composer_t) (ss ss' : List open_t) (h : DocumentSoFar) (es : List Event) (ds : List Document) (a : Deed) (e : Event)
      (p p' : place_t) → ComposerRun most d ss h es ds → ComposeCalls a d ss h e d' ss' p p' → IsTaken a
      → ComposerRun most d' ss' (applied a p' e h) (es ++ e ∷ []) (ds ++ given a e h)
