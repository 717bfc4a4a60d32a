-- Where an event belongs in its document, by what is told of it (docs/DEFINITIONS.md, "Placed events").
use Rattle.std.specs.Prelude.{◌≡◌, ◌∷◌, ◌-◌, ℕ, List, [], Option, None, Some, length, option_map}
use Rattle.libyaml_grammar.specs.grammar.Events.{Event}
use Rattle.libyaml_composer.specs.declared.deed.Deed.{Deed}
use Rattle.libyaml_composer.specs.declared.deed.Deed.TheVariants as deed
use Rattle.libyaml_composer.specs.declared.records.open_t.{open_t}
use Rattle.libyaml_composer.specs.declared.records.place_t.{place_t}
use Rattle.libyaml_composer.specs.DocumentSoFar.{IsRefused}
use Rattle.libyaml_loader.specs.declared.places.yaml_place_t.{yaml_place_t}
use Rattle.libyaml_loader.specs.declared.places.yaml_role_t.{yaml_role_t}
use Rattle.libyaml_loader.specs.declared.places.yaml_role_t.TheVariants.{Root, Item, Key, Value}
use Rattle.libyaml_loader.specs.composed.EventComposer.{EventComposer}
use Rattle.libyaml_loader.specs.composed.Telling.{TellsDeed}

-- what a node or an alias is to its parent; nothing else has a role
abbrev pub role_of : Deed → Option yaml_role_t
role_of deed.Root = Some Root
role_of deed.Item = Some Item
role_of deed.Key = Some Key
role_of deed.Value = Some Value
role_of _ = None

abbrev pub innermost_of : List open_t → Option open_t
innermost_of [] = None
innermost_of (o ∷ s) = Some o

-- as many items or pairs as there are before it: a value's pair has begun with its key
abbrev pub index_in : yaml_role_t → (children : ℕ) → ℕ
index_in Root n = 0
index_in Item n = n
index_in Key n = n
index_in Value n = n - 1

abbrev pub index_by : yaml_role_t → Option open_t → ℕ
index_by r None = 0
index_by r (Some o) = index_in r o.children

-- the place of what is put so, where these collections were open before
abbrev pub place_by : Deed → place_t → List open_t → Option yaml_place_t
place_by d p s = option_map (λ r. record {
  id = p.child;
  parent = p.parent;
  role = r;
  index = index_by r (innermost_of s);
  depth = length s;
}) (role_of d)

-- The composer takes the event, and this is its place, if it has one.
pub record PlacesEvent (old : EventComposer) (e : Event) (place : Option yaml_place_t) (new : EventComposer) : Type 0 where
  pub deed : Deed
  pub put : place_t
  pub tells : TellsDeed old e deed put new
  pub taken : IsRefused deed → ⊥
  pub place_is : place ≡ place_by deed put old.collections.stack
