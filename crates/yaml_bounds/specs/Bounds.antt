-- Composing events within bounds, without documents (docs/DEFINITIONS.md, "Bounded events").
use Rattle.std.specs.Prelude.{◌≡◌, ◌≢◌, ◌⊎◌, ◌++◌, ◌<ℤ◌, ℕ, pos, true, List, Option, None, Some, codes}
use Rattle.libyaml_types.specs.Fault.{Fault, memory_fault, no_fault}
use Rattle.libyaml_types.specs.Types.{event_type}
use Rattle.libyaml_types.specs.declared.enums.yaml_error_type_t.TheVariants.{YAML_COMPOSER_ERROR}
use Rattle.libyaml_types.specs.declared.enums.yaml_event_type_t.{yaml_event_type_t}
use Rattle.libyaml_types.specs.declared.mark.yaml_mark_t.{yaml_mark_t}
use Rattle.libyaml_grammar.specs.grammar.Events.{Event}
use Rattle.libyaml_composer.specs.declared.deed.Deed.{Deed}
use Rattle.libyaml_composer.specs.declared.deed.Deed.TheVariants as deed
use Rattle.libyaml_composer.specs.declared.records.place_t.{place_t}
use Rattle.libyaml_composer.specs.Composing.{is_start}
use Rattle.libyaml_composer.specs.DocumentSoFar.{IsRefused}
use Rattle.libyaml_loader.specs.composed.EventComposer.{EventComposer, needs_memory}
use Rattle.libyaml_loader.specs.composed.Telling.{TellsDeed, load_fault}
use Rattle.document_sizes.specs.declared.counted.Counted.{Counted}
use Rattle.document_sizes.specs.declared.counted.Counted.TheVariants as counted
use Rattle.document_sizes.specs.declared.sizes.sizes_t.{sizes_t}
use Rattle.document_sizes.specs.Counting.{bound_of, count_of, counting}
use Rattle.yaml_bounds.specs.declared.bounded_composer.bounded_composer_t.{bounded_composer_t}

-- a bound, and else this number
abbrev pub bound_or : ℕ → Option ℕ → ℕ
bound_or n None = n
bound_or n (Some max) = max

-- the total and the bound before a stream's first event, if there is a bound
abbrev pub size_before : Option ℕ → Option sizes_t
size_before None = None
size_before (Some max) = Some (record { total = 0; max = max })

-- the composer error with this problem, at this mark
abbrev pub worded_fault : List ℕ → yaml_mark_t → Fault
worded_fault problem mark = record no_fault { error = YAML_COMPOSER_ERROR; problem = Some problem; problem_mark = mark }

abbrev pub many_nodes_fault : yaml_mark_t → Fault
many_nodes_fault mark = worded_fault (codes "found too many nodes") mark

abbrev pub large_fault : yaml_mark_t → Fault
large_fault mark = worded_fault (codes "found too many nodes, with aliases written out") mark

abbrev pub endless_fault : yaml_mark_t → Fault
endless_fault mark = worded_fault (codes "found an alias within the node that it names") mark

-- the error where a deed refuses the event: a full list has too many nodes, and else it is that of the load
abbrev pub refused_fault : Deed → EventComposer → Event → Fault
refused_fault deed.FullList c e = many_nodes_fault e.start_mark
refused_fault d c e = load_fault d c e

-- the error of a count that isn't within the bound
abbrev pub count_fault : Counted → yaml_mark_t → Fault
count_fault counted.TooLarge mark = large_fault mark
count_fault counted.Endless mark = endless_fault mark
count_fault _ mark = memory_fault

-- how a deed is counted, where there is a bound: with more room for the numbers of nodes
abbrev pub CountedBy : Option sizes_t → Counted → Deed → yaml_event_type_t → place_t → List ℕ → Option sizes_t → List ℕ → Type 0
CountedBy None a d k p sizes size' sizes' = (a ≡ counted.Within) × (size' ≡ None) × (sizes' ≡ sizes)
CountedBy (Some s) a d k p sizes size' sizes' = (total : ℕ) × (more : List ℕ) × (size' ≡ Some (record s { total = total }))
    × (count_of a total sizes' ≡ counting (bound_of s.max) d (is_start k) p s.total (sizes ++ more))

abbrev pub AnswersTo : Counted → Deed → yaml_event_type_t → place_t → (old new : bounded_composer_t) → Type 0
AnswersTo a d k p old new = CountedBy old.size a d k p old.sizes.items new.size new.sizes.items

-- the composer takes the event, and counts it within the bound
pub record TakesNode (old : bounded_composer_t) (e : Event) (new : bounded_composer_t) : Type 0 where
  pub deed : Deed
  pub place : place_t
  pub tells : TellsDeed old.composer e deed place new.composer
  pub taken : IsRefused deed → ⊥
  pub counted : AnswersTo counted.Within deed (event_type e.content) place old new

-- The count takes memory: at a node that the composer takes, where the expanded size has a bound.
pub record CountTakes (old : bounded_composer_t) (e : Event) : Type 0 where
  pub deed : Deed
  pub place : place_t
  pub composer : EventComposer
  pub tells : TellsDeed old.composer e deed place composer
  pub taken : IsRefused deed → ⊥
  pub node : pos 0 <ℤ place.node
  pub bounded : old.size ≢ None

-- The event is refused: by the composer's deed; or the count says that the document is too large or has no end, or that a number
-- is one that no composer gives; or an allocation failed, where the composer or the count takes memory.
pub data RefusesNode (old : bounded_composer_t) (e : Event) (f : Fault) : Type 0 where
  by_deed : (d : Deed) (p : place_t) (c : EventComposer) → TellsDeed old.composer e d p c → IsRefused d
      → f ≡ refused_fault d old.composer e → RefusesNode old e f
  by_count : (a : Counted) (d : Deed) (p : place_t) (new : bounded_composer_t) → TellsDeed old.composer e d p new.composer
      → (IsRefused d → ⊥) → AnswersTo a d (event_type e.content) p old new → (a ≡ counted.Within → ⊥)
      → f ≡ count_fault a e.start_mark → RefusesNode old e f
  by_memory : f ≡ memory_fault → (needs_memory old.composer.anchors e ≡ true) ⊎ CountTakes old e → RefusesNode old e f
