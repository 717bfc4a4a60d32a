-- What is known of a deed by what it does.
use Rattle.std.proofs.Common.{◌≡◌, ◌∷◌, List, [], ℕ, Option, Bool, true, false, refl, sym, subst}
use Rattle.std.specs.Cmp.Lexicographic.{nat_list_cmp_total}
use Rattle.std.specs.FinMap.{get, get-from_entries}
use Rattle.libyaml_grammar.specs.grammar.Events.{Event}
use Rattle.libyaml_grammar.specs.grammar.Tokens.{Mark}
use Rattle.libyaml_graphs.specs.graphs.GraphParts.{Opening, Part, part_of}
use Rattle.libyaml_graphs.specs.machine.Loader.{no_anchors}
use Rattle.libyaml_composer.specs.declared.deed.Deed.{Deed}
use Rattle.libyaml_composer.specs.declared.deed.Deed.TheVariants as deed
use Rattle.libyaml_composer.specs.declared.records.open_t.{open_t}
use Rattle.libyaml_composer.specs.declared.records.place_t.{place_t}
use Rattle.libyaml_composer.specs.Composing.{Composer, deed_for, deed_in}
use Rattle.libyaml_composer.specs.Numbers.{is_id, is_set}
use Rattle.libyaml_composer.specs.DocumentSoFar.{DocumentSoFar, IsRefused, applied, applied_part, with_child_placed}
use Rattle.libyaml_composer.specs.Represents.{IsCarried, IsClosed, IsPart, PutsNode, Represents}

-- one that refuses is no part
pub not_part : (d : Deed) → IsRefused d → IsPart d → ⊥
not_part deed.UndefinedAlias r k = k
not_part deed.RepeatedAnchor r k = k
not_part deed.FullList r k = k
not_part _ r k = r

pub part_applied : (d : Deed) → IsPart d → (p : place_t) (e : Event) (h : DocumentSoFar)
    → applied_part d p (part_of e) e.end_mark h ≡ applied d p e h
part_applied deed.Passes k p e h = refl
part_applied deed.Root k p e h = refl
part_applied deed.Item k p e h = refl
part_applied deed.Key k p e h = refl
part_applied deed.Value k p e h = refl
part_applied deed.Closes k p e h = refl
part_applied _ k p e h = absurd k

-- a child is put
pub child_put : (s : List open_t) → PutsNode (deed_for s)
child_put [] = tt
child_put (o ∷ s) = go (is_set o.is_mapping) (is_id o.key)
  where
    go : (b w : Bool) → PutsNode (deed_in b w)
    go false w = tt
    go true false = tt
    go true true = tt

pub child_part : (d : Deed) → PutsNode d → IsPart d
child_part deed.Root k = tt
child_part deed.Item k = tt
child_part deed.Key k = tt
child_part deed.Value k = tt
child_part _ k = absurd k

pub child_open : (d : Deed) → PutsNode d → IsClosed d → ⊥
child_open deed.Closes k c = k
child_open _ k c = c

pub child_applied : (d : Deed) → PutsNode d → (p : place_t) (q : Option Part) (m : Mark) (h : DocumentSoFar)
    → with_child_placed d p q h ≡ applied_part d p q m h
child_applied deed.Root k p q m h = refl
child_applied deed.Item k p q m h = refl
child_applied deed.Key k p q m h = refl
child_applied deed.Value k p q m h = refl
child_applied _ k p q m h = absurd k

-- a document without nodes has no anchors
pub none_carried : (a : List ℕ) → IsCarried 0 (get no_anchors a)
none_carried a = subst (IsCarried 0) (sym (get-from_entries nat_list_cmp_total [] a)) tt

-- the record holds however many collections there is room for
pub represents_roomy : (c : Composer) (h : DocumentSoFar) (o : Opening) (room : ℕ) → Represents c h o → Represents (record c { room = room }) h o
represents_roomy c h o room r = record {
  is_within = r.is_within;
  opening = r.opening;
  nodes = r.nodes;
  opens = r.opens;
  carried = r.carried;
}
