-- A child handed to its parent, in the record and in the machine.
use Rattle.std.proofs.Common.{◌≡◌, ◌<◌, ◌≤◌, ◌∷◌, List, [], ℕ, suc, ℤ, pos, length, arith, refl, sym, ap, subst, ◌∙◌, Option, Some, None, Bool, true, false, slice_get, option_map, map, nat_lt, length-append, if◌then◌else◌, true≢false}
use Rattle.std.proofs.lemmas.Int.{ints}
use Rattle.libyaml_types.specs.declared.enums.yaml_node_type_t.{yaml_node_type_t}
use Rattle.libyaml_types.specs.declared.enums.yaml_node_type_t.TheVariants.{YAML_SEQUENCE_NODE, YAML_MAPPING_NODE}
use Rattle.libyaml_documents.specs.Nodes.{IsIdUpTo, changed_at, type_of, with_item, with_pair}
use Rattle.libyaml_documents.specs.declared.node.yaml_node_t.{yaml_node_t}
use Rattle.libyaml_graphs.specs.machine.Loader.{OpenNode, hand, key_after, node_full, parent_full, with_child}
use Rattle.libyaml_graphs.specs.machine.Loader as loader
use Rattle.libyaml_composer.specs.declared.deed.Deed.{Deed}
use Rattle.libyaml_composer.specs.declared.deed.Deed.TheVariants as deed
use Rattle.libyaml_composer.specs.declared.records.open_t.{open_t}
use Rattle.libyaml_composer.specs.declared.records.place_t.{place_t}
use Rattle.libyaml_composer.specs.Composing.{deed_for, deed_in, full_in, holding_top, holding_in, is_list_full, place_in}
use Rattle.libyaml_composer.specs.Numbers.{is_set, is_id}
use Rattle.libyaml_composer.specs.DocumentSoFar.{key_of, open_of, placed}
use Rattle.libyaml_composer.specs.Represents.{FitsParent, IsKeyIn, IsOpenNode, IsOpenBy, Opens, TakesOneMore}
use Rattle.libyaml_composer.proofs.exported.Opens.{changed_same, get_other, get_there, length_changed, opens_other, unchanged}

-- The nodes and the stack after a child, whether its parent's list was full, and what stays: each collection that is open
-- is among the first m nodes.
pub record Handing (most : ℕ) (i : ℤ) (nodes : List yaml_node_t) (total m : ℕ) (s : List OpenNode) (d : Deed) (p : place_t)
    (t : List open_t) (full : Bool) : Type 0 where
  pub nodes_are : placed d p nodes ≡ hand i s nodes
  pub stack_is : map open_of t ≡ loader.handed i s nodes
  pub full_is : parent_full most s nodes ≡ full
  pub opens : Opens total (placed d p nodes) m t
  pub fits : FitsParent d p total nodes
  pub takes : TakesOneMore d s nodes
  pub count : length (placed d p nodes) ≡ length nodes
  pub later : (j : ℕ) → m ≤ j → slice_get (placed d p nodes) j ≡ slice_get nodes j

-- what a parent makes of a child, where this key waits in it: it changes by f, and is then open with so many children
record Taking (most : ℕ) (key new : Option ℤ) (i : ℤ) (full : Bool) (f : yaml_node_t → yaml_node_t) (t : yaml_node_type_t)
    (is_mapping waits : Bool) (n : ℕ) (x : Option yaml_node_t) : Type 0 where
  pub node : option_map f x ≡ option_map (with_child key i) x
  pub key_is : new ≡ key_after key i x
  pub full_is : node_full most key x ≡ full
  pub kind : type_of x ≡ t
  pub opened : IsOpenBy (option_map f x) is_mapping waits n

item_taken : (most : ℕ) (key : Option ℤ) (i : ℤ) (x : Option yaml_node_t) (w : Bool) (n : ℕ) → IsOpenBy x false w n
    → Taking most key key i (nat_lt most (suc n)) (with_item i) YAML_SEQUENCE_NODE false w (suc n) x
item_taken most key i x w n h = grind (arith, length-append)

key_taken : (most : ℕ) (i : ℤ) (x : Option yaml_node_t) (n : ℕ) → IsOpenBy x true false n
    → Taking most None (Some i) i (nat_lt most (suc n)) (λ y. y) YAML_MAPPING_NODE true true (suc n) x
key_taken most i x n h = grind arith

value_taken : (most : ℕ) (k i : ℤ) (x : Option yaml_node_t) (n : ℕ) → IsOpenBy x true true n
    → Taking most (Some k) None i false (with_pair k i) YAML_MAPPING_NODE true false n x
value_taken most k i x n h = grind (arith, length-append)

key_by : (key : ℤ) (w : Bool) → is_id key ≡ w → key_of key ≡ (if w then Some key else None)
key_by key w e = grind arith

-- the flags of an entry
at_flags : (x : Option yaml_node_t) (b c w v : Bool) (n : ℕ) → b ≡ c → w ≡ v → IsOpenBy x c v n → IsOpenBy x b w n
at_flags x b c w v n e g h = rw (e, g) h

module _ (most : ℕ) (i : ℤ) (id : is_id i ≡ true) (nodes : List yaml_node_t) (total m : ℕ) (up : m ≤ total)
    (child : IsIdUpTo total i) (j : ℤ) (k : ℕ) (lt : k < m) (key : ℤ) (n mapping : ℕ) (keyed : IsKeyIn total key)
    (s : List open_t) (rest : Opens total nodes k s) where
  parent : IsIdUpTo total (pos (suc k))
  parent = (omega (arith, ints), omega (arith, ints, lt, up))

  abbrev open_with : (key : ℤ) (n : ℕ) → open_t
  open_with key n = record { node = pos (suc k); key = key; children = n; is_mapping = mapping }

  abbrev place : place_t
  place = place_in j i (open_with key n ∷ s)

  abbrev parents : Option ℤ → List OpenNode
  parents key = record { node = pos (suc k); key = key } ∷ map open_of s

  -- where the parent changes so
  module _ (f : yaml_node_t → yaml_node_t) (d : Deed) (same : placed d place nodes ≡ changed_at k f nodes) where
    hands : (old new : Option ℤ) (full b w : Bool) (t : yaml_node_type_t) (key' : ℤ) (n' : ℕ)
        → Taking most old new i full f t b w n' (slice_get nodes k) → key_of key' ≡ new → is_set mapping ≡ b → is_id key' ≡ w
        → IsKeyIn total key' → FitsParent d place total nodes → TakesOneMore d (parents old) nodes
        → Handing most i nodes total m (parents old) d place (open_with key' n' ∷ s) full
    hands old new full b w t key' n' taken key_is e g known fits takes = record {
      nodes_are = same ∙ changed_same f (with_child old i) nodes k taken.node;
      stack_is = ap parents (key_is ∙ taken.key_is);
      full_is = taken.full_is;
      opens = subst (λ (l : List yaml_node_t). Opens total l m (open_with key' n' ∷ s)) (sym same) (
        k,
        refl,
        lt,
        subst (λ (x : Option yaml_node_t). IsOpenNode x (open_with key' n')) (sym (get_there f nodes k))
            (at_flags _ _ _ _ _ _ e g taken.opened),
        known,
        opens_other f total nodes k k s (omega arith) rest,
      );
      fits = fits;
      takes = takes;
      count = ap length same ∙ length_changed k f nodes;
      later = λ j le. ap (λ (l : List yaml_node_t). slice_get l j) same ∙ get_other f nodes k j (λ e. absurd (omega arith));
    }

  by : (b w : Bool) → is_set mapping ≡ b → is_id key ≡ w → IsOpenBy (slice_get nodes k) b w n
      → Handing most i nodes total m (parents (if w then Some key else None)) (deed_in b w) place
      (holding_in i (open_with key n) b w ∷ s) (full_in most n b w)
  by false w e g h =
      let t = item_taken most (if w then Some key else None) i (slice_get nodes k) w n h in
      hands (with_item i) deed.Item refl _ _ _ _ _ _ key (suc n) t (key_by key w g) e g keyed (t.kind, (parent, child)) t.kind
  by true false e g h =
      hands (λ y. y) deed.Key (unchanged nodes k) _ _ _ _ _ _ i (suc n) (key_taken most i (slice_get nodes k) n h)
      (key_by i true id) e id (λ w. child) tt tt
  by true true e g h =
      let t = value_taken most key i (slice_get nodes k) n h in
      hands (with_pair key i) deed.Value refl _ _ _ _ _ _ (pos 0) n t refl e refl (λ w. absurd (true≢false (sym w)))
      (t.kind, (parent, (child, keyed g))) (t.kind, (key, refl))

pub hands_child : (most : ℕ) (i : ℤ) → is_id i ≡ true → (nodes : List yaml_node_t) (total m : ℕ) → m ≤ total → IsIdUpTo total i
    → (j : ℤ) (s : List open_t) → Opens total nodes m s
    → Handing most i nodes total m (map open_of s) (deed_for s) (place_in j i s) (holding_top i s) (is_list_full most s)
hands_child most i id nodes total m up child j [] h = record {
  nodes_are = refl;
  stack_is = refl;
  full_is = refl;
  opens = tt;
  fits = tt;
  takes = tt;
  count = refl;
  later = λ j le. refl;
}
hands_child most i id nodes total m up child j (o ∷ s) (k, is, lt, here, key, rest) = subst (λ (z : ℤ). Handing most i nodes total m
    (map open_of (record o { node = z } ∷ s)) (deed_for (o ∷ s)) (place_in j i (record o { node = z } ∷ s))
    (holding_top i (record o { node = z } ∷ s)) (is_list_full most (o ∷ s))) (sym is)
    (by most i id nodes total m up child j k lt o.key o.children o.is_mapping key s rest (is_set o.is_mapping) (is_id o.key) refl refl here)
