use Rattle.std.proofs.Common.{◌≡◌, ◌<◌, ℕ, suc, pos, List, All, Option, Some, None, length, map, get_or, refl, sym, subst, ap, ◌∙◌}
use Rattle.std.proofs.lemmas.Option.{slice_get_read}
use Rattle.libyaml_documents.specs.declared.node.yaml_node_t.{yaml_node_t}
use Rattle.libyaml_documents.specs.declared.pairs.yaml_node_pair_t.{yaml_node_pair_t}
use Rattle.libyaml_documents.specs.Nodes.{IsIdUpTo, EveryIdNamesANode, pairs_of}
use Rattle.yaml_keys.specs.declared.duplicate.yaml_duplicate_key_t.{yaml_duplicate_key_t}
use Rattle.yaml_keys.specs.Keys.{AreClasses, IsFirstDuplicate}
use Rattle.yaml_keys.specs.Repeats.{class_at, IsFirstRepeat}
use Rattle.yaml_keys.proofs.Duplicates.{alike, keys_named, none_here, none_at_all, first_here}
use Rattle.yaml_keys.proofs.duplicate.duplicate_key.Goals as goal

-- what is known at a node: the call's arguments by what they are
named_here : (nodes document : List yaml_node_t) (classes numbers : List ℕ) (pairs : List yaml_node_pair_t) (place : ℕ) (node : yaml_node_t)
    → nodes ≡ document → EveryIdNamesANode document → AreClasses nodes classes → numbers ≡ classes → pairs ≡ pairs_of node.content
    → place < length nodes → node ≡ get_or nodes place node
    → All (λ (pair : yaml_node_pair_t). IsIdUpTo (length numbers) pair.key) pairs
named_here nodes document classes numbers pairs place node all ids are same these lt is =
    subst (λ (l : List yaml_node_pair_t). All (λ (pair : yaml_node_pair_t). IsIdUpTo (length numbers) pair.key) l) (sym these)
    (keys_named nodes (length numbers) place node (sym are.count ∙ ap (λ (l : List ℕ). length l) (sym same))
    (subst (λ (l : List yaml_node_t). EveryIdNamesANode l) (sym all) ids) lt is)

repeat_of : (classes numbers : List ℕ) (pairs : List yaml_node_pair_t) (node : yaml_node_t) (r : Option (ℕ × ℕ))
    → numbers ≡ classes → pairs ≡ pairs_of node.content
    → IsFirstRepeat (map (λ (pair : yaml_node_pair_t). class_at numbers pair.key) pairs) r
    → IsFirstRepeat (map (λ (pair : yaml_node_pair_t). class_at classes pair.key) (pairs_of node.content)) r
repeat_of classes numbers pairs node r same these h =
    subst (λ (l : List yaml_node_pair_t). IsFirstRepeat (map (λ (pair : yaml_node_pair_t). class_at classes pair.key) l) r) these
    (subst (λ (l : List ℕ). IsFirstRepeat (map (λ (pair : yaml_node_pair_t). class_at l pair.key) pairs) r) same h)

pub first_repeat-requires : goal.first_repeat-requires
first_repeat-requires c =
    named_here c.nodes-nodes.result.now c.args.document.now.nodes c.in_ok-classes.classes.items c.as_slice.result.now c.pairs.result.now
    c.loop-place.place c.index-nodes-place.result c.nodes-nodes.ensures.all c.nodes-nodes.ensures.ids_in_range
    c.in_ok-classes.ensures c.as_slice.ensures.value c.pairs.ensures c.loop-place-test.true c.index-nodes-place.is

pub returns-in-Some-clause-first : goal.returns-in-Some-clause-first
returns-in-Some-clause-first c =
    let nodes = c.nodes-nodes.result.now in
    let classes = c.in_ok-classes.classes.items in
    let place = c.loop-place.place in
    let node = c.index-nodes-place.result in
    let pairs = pairs_of node.content in
    let at = slice_get_read nodes (length nodes) place node refl c.loop-place-test.true c.index-nodes-place.is in
    let e = c.duplicate_in.ensures in
    let is = alike (pos (suc place)) c.in-Some.first c.in-Some.second c.duplicate_in.result (sym e.mapping) (sym e.pairs.0) (sym e.pairs.1) in
    let ids = named_here nodes c.args.document.now.nodes classes classes pairs place node c.nodes-nodes.ensures.all
    c.nodes-nodes.ensures.ids_in_range c.in_ok-classes.ensures refl refl c.loop-place-test.true c.index-nodes-place.is in
    let said = repeat_of classes c.as_slice.result.now c.pairs.result.now node c.in_ok-first.field-0 c.as_slice.ensures.value c.pairs.ensures
    c.in_ok-first.ensures in
    let found = subst (λ (r : Option (ℕ × ℕ)). IsFirstRepeat (map (λ (pair : yaml_node_pair_t). class_at classes pair.key) pairs) r) c.in-Some.is said in
    let here = first_here nodes classes c.in_ok-classes.ensures place node at c.loop-place.invariant ids c.in-Some.first c.in-Some.second found in
    subst (λ (l : List yaml_node_t). IsFirstDuplicate l (Some c.duplicate_in.result)) c.nodes-nodes.ensures.all
    (subst (λ (d : yaml_duplicate_key_t). IsFirstDuplicate nodes (Some d)) is here)

pub loop-place-preserved : goal.loop-place-preserved
loop-place-preserved c =
    let nodes = c.nodes-nodes.result.now in
    let classes = c.in_ok-classes.classes.items in
    let place = c.loop-place.place in
    let node = c.index-nodes-place.result in
    let pairs = pairs_of node.content in
    let at = slice_get_read nodes (length nodes) place node refl c.loop-place-test.true c.index-nodes-place.is in
    let said = repeat_of classes c.as_slice.result.now c.pairs.result.now node c.in_ok-first.field-0 c.as_slice.ensures.value c.pairs.ensures
    c.in_ok-first.ensures in
    let none = subst (λ (r : Option (ℕ × ℕ)). IsFirstRepeat (map (λ (pair : yaml_node_pair_t). class_at classes pair.key) pairs) r) c.in_default.is said in
    none_here nodes classes c.in_ok-classes.ensures place node at c.loop-place.invariant none

pub returns-clause-first : goal.returns-clause-first
returns-clause-first c =
    subst (λ (l : List yaml_node_t). IsFirstDuplicate l None) c.nodes-nodes.ensures.all
    (none_at_all c.nodes-nodes.result.now c.loop-place.place c.loop-place.invariant c.loop-place-test.false)
