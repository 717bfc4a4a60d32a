-- Ids stay ids of nodes where nodes and children are put after others.
use Rattle.std.proofs.Common.{◌≡◌, ℕ, zero, suc, ◌<◌, ◌≤◌, ℤ, pos, negsuc, List, [], ◌∷◌, ◌++◌, length, set, get_or, refl, ap, sym, subst, arith, length-append, ◌∙◌}
use Rattle.std.proofs.lemmas.Int.{ints}
use Rattle.std.proofs.lemmas.List.Elements.{All-nil, All-push, All-weaker, All-get_or, All-set}
use Rattle.std.proofs.lemmas.List.{length-set}
use Rattle.libyaml_types.specs.declared.enums.yaml_node_type_t.{yaml_node_type_t}
use Rattle.libyaml_types.specs.declared.enums.yaml_node_type_t.TheVariants.{YAML_NO_NODE}
use Rattle.libyaml_documents.specs.declared.node.yaml_node_t.{yaml_node_t}
use Rattle.libyaml_documents.specs.declared.pairs.yaml_node_pair_t.{yaml_node_pair_t}
use Rattle.libyaml_documents.specs.declared.node.unnamed_yaml_node_t_data.{unnamed_yaml_node_t_data}
use Rattle.libyaml_documents.specs.declared.node.unnamed_yaml_node_t_data.TheVariants.{Scalar, Sequence, Mapping}
use Rattle.libyaml_documents.specs.Nodes.{ids_of, ids_of_pairs, IsIdUpTo, EveryIdNamesANode, node_type, type_of, type_at, KeepsTypes, changed_at, item_after, pair_after}
use Rattle.libyaml_documents.specs.Documents.{Document, AreNodes, most_nodes, with_changed_node}
use Rattle.std.specs.Prelude.{Bool, true, false, cond, slice_get, All}

-- the ids of a node name one of n nodes
abbrev pub AllIds : ℕ → yaml_node_t → Type 0
AllIds n node = All (IsIdUpTo n) (ids_of node.content)

pub AllIds-more : (n m : ℕ) (node : yaml_node_t) → n ≤ m → AllIds n node → AllIds m node
AllIds-more n m node le h = All-weaker (IsIdUpTo n) (IsIdUpTo m) (λ id k. (k.0, omega (arith, ints)))
    (ids_of node.content) h

-- a node without children after the others
pub EveryIdNamesANode-push : (nodes : List yaml_node_t) (node : yaml_node_t) → ids_of node.content ≡ []
    → EveryIdNamesANode nodes
    → EveryIdNamesANode (nodes ++ node ∷ [])
EveryIdNamesANode-push nodes node none h =
    let more : length nodes ≤ length (nodes ++ node ∷ []) = grind (arith, length-append) in
    All-push (AllIds (length (nodes ++ node ∷ []))) nodes node
    (All-weaker (AllIds (length nodes)) (AllIds (length (nodes ++ node ∷ [])))
    (λ old k. AllIds-more (length nodes) (length (nodes ++ node ∷ [])) old more k)
    nodes h)
    (subst (All (IsIdUpTo (length (nodes ++ node ∷ [])))) (sym none) (All-nil (IsIdUpTo (length (nodes ++ node ∷ [])))))

-- what holds of the nodes of a document, where its list grew or stayed
pub AreNodes-push : (grown : Bool) (nodes new : List yaml_node_t) (node : yaml_node_t)
    → new ≡ cond grown (nodes ++ node ∷ []) nodes → length nodes < most_nodes
    → ids_of node.content ≡ [] → AreNodes nodes → AreNodes new
AreNodes-push false nodes new node is room none h = subst AreNodes (sym is) h
AreNodes-push true nodes new node is room none h =
    subst AreNodes (sym is) (record {
      ids = EveryIdNamesANode-push nodes node none h.ids;
      count = grind (arith, length-append);
    })

-- a node changed at its place
pub changed_at-set : (n : ℕ) (f : yaml_node_t → yaml_node_t) (nodes : List yaml_node_t) (d : yaml_node_t)
    → changed_at n f nodes ≡ set nodes n (f (get_or nodes n d))
changed_at-set n f [] d = refl
changed_at-set zero f (node ∷ nodes) d = refl
changed_at-set (suc n) f (node ∷ nodes) d = ap (λ r. node ∷ r) (changed_at-set n f nodes d)

-- one more child keeps the ids in range
pub with_item-keeps : (n : ℕ) (id : ℤ) (content : unnamed_yaml_node_t_data) → IsIdUpTo n id
    → All (IsIdUpTo n) (ids_of content)
    → All (IsIdUpTo n) (ids_of (item_after id content))
with_item-keeps n id (Scalar s) k h = h
with_item-keeps n id (Sequence s) k h = All-push (IsIdUpTo n) s.items id h k
with_item-keeps n id (Mapping m) k h = h

pub ids_of_pairs-push : (pairs : List yaml_node_pair_t) (p : yaml_node_pair_t)
    → ids_of_pairs (pairs ++ p ∷ []) ≡ (ids_of_pairs pairs ++ p.key ∷ []) ++ p.value ∷ []
ids_of_pairs-push [] p = refl
ids_of_pairs-push (first ∷ pairs) p = ap (λ (ids : List ℤ). first.key ∷ first.value ∷ ids) (ids_of_pairs-push pairs p)

pub with_pair-keeps : (n : ℕ) (p : yaml_node_pair_t) (content : unnamed_yaml_node_t_data) → IsIdUpTo n p.key
    → IsIdUpTo n p.value
    → All (IsIdUpTo n) (ids_of content) → All (IsIdUpTo n) (ids_of (pair_after p content))
with_pair-keeps n p (Scalar s) k v h = h
with_pair-keeps n p (Sequence s) k v h = h
with_pair-keeps n p (Mapping m) k v h =
    subst (All (IsIdUpTo n)) (sym (ids_of_pairs-push m.pairs p))
    (All-push (IsIdUpTo n) (ids_of_pairs m.pairs ++ p.key ∷ []) p.value
    (All-push (IsIdUpTo n) (ids_of_pairs m.pairs) p.key h k) v)

-- what holds of the nodes of a document, where the changed node was written at its place
pub AreNodes-set : (n : ℕ) (f : yaml_node_t → yaml_node_t) (nodes : List yaml_node_t) (old new : yaml_node_t)
    → n < length nodes → old ≡ get_or nodes n old
    → new ≡ f old → ((node : yaml_node_t) → AllIds (length nodes) node → AllIds (length nodes) (f node))
    → AreNodes nodes → AreNodes (set nodes n new)
AreNodes-set n f nodes old new inside old_is new_is keeps h =
    let old_ids : AllIds (length nodes) old = subst (AllIds (length nodes)) (sym old_is)
    (All-get_or (AllIds (length nodes)) nodes n old inside h.ids) in
    let new_ids : AllIds (length nodes) new = subst (AllIds (length nodes)) (sym new_is) (keeps old old_ids) in
    record {
      ids = subst (λ (m : ℕ). All (AllIds m) (set nodes n new)) (sym (length-set nodes n new))
          (All-set (AllIds (length nodes)) nodes n new new_ids h.ids);
      count = subst (λ (m : ℕ). m ≤ most_nodes) (sym (length-set nodes n new)) h.count;
    }

-- a document in which a node was changed at its place
pub with_changed_node-set : (d now : Document) (id : ℤ) (n : ℕ) (f : yaml_node_t → yaml_node_t)
    (old new : yaml_node_t) → d ≡ now → id ≡ pos (suc n)
    → old ≡ get_or d.nodes n old → new ≡ f old → record d { nodes = set d.nodes n new } ≡ with_changed_node now id f
with_changed_node-set d now id n f old new now_is id_is old_is new_is =
    ap (λ (nodes : List yaml_node_t). record d { nodes = nodes })
    (ap (λ (node : yaml_node_t). set d.nodes n node) (new_is ∙ ap f old_is)
    ∙ sym (changed_at-set n f d.nodes old))
    ∙ ap (λ (i : ℤ). with_changed_node d i f) (sym id_is)
    ∙ ap (λ (e : Document). with_changed_node e id f) now_is

-- the types of nodes, where one more node follows the others
pub slice_get-push_old : (nodes : List yaml_node_t) (node : yaml_node_t) (n : ℕ) → n < length nodes
    → slice_get (nodes ++ node ∷ []) n ≡ slice_get nodes n
slice_get-push_old [] node n h = absurd (omega arith)
slice_get-push_old (first ∷ nodes) node zero h = refl
slice_get-push_old (first ∷ nodes) node (suc n) h = slice_get-push_old nodes node n (omega arith)

pub KeepsTypes-push : (nodes : List yaml_node_t) (node : yaml_node_t) → KeepsTypes nodes (nodes ++ node ∷ [])
KeepsTypes-push nodes node (negsuc n) h = refl
KeepsTypes-push nodes node (pos zero) h = refl
KeepsTypes-push nodes node (pos (suc n)) h = ap type_of (slice_get-push_old nodes node n (omega (arith, ints)))

-- the same, where one node was changed and keeps its type
pub type-changed_at : (n k : ℕ) (f : yaml_node_t → yaml_node_t) (nodes : List yaml_node_t)
    → ((node : yaml_node_t) → node_type (f node).content ≡ node_type node.content)
    → type_of (slice_get (changed_at n f nodes) k) ≡ type_of (slice_get nodes k)
type-changed_at n k f [] keeps = refl
type-changed_at zero zero f (node ∷ nodes) keeps = keeps node
type-changed_at zero (suc k) f (node ∷ nodes) keeps = refl
type-changed_at (suc n) zero f (node ∷ nodes) keeps = refl
type-changed_at (suc n) (suc k) f (node ∷ nodes) keeps = type-changed_at n k f nodes keeps

pub KeepsTypes-pushed : (grown : Bool) (nodes new : List yaml_node_t) (node : yaml_node_t)
    → new ≡ cond grown (nodes ++ node ∷ []) nodes → KeepsTypes nodes new
KeepsTypes-pushed false nodes new node is = subst (KeepsTypes nodes) (sym is) (λ id h. refl)
KeepsTypes-pushed true nodes new node is = subst (KeepsTypes nodes) (sym is) (KeepsTypes-push nodes node)

pub KeepsTypes-changed_at : (n : ℕ) (f : yaml_node_t → yaml_node_t) (nodes : List yaml_node_t)
    → ((node : yaml_node_t) → node_type (f node).content ≡ node_type node.content) → KeepsTypes nodes (changed_at n f nodes)
KeepsTypes-changed_at n f nodes keeps (negsuc k) h = refl
KeepsTypes-changed_at n f nodes keeps (pos zero) h = refl
KeepsTypes-changed_at n f nodes keeps (pos (suc k)) h = type-changed_at n k f nodes keeps

pub KeepsTypes-set : (n : ℕ) (f : yaml_node_t → yaml_node_t) (nodes : List yaml_node_t) (old new : yaml_node_t)
    → old ≡ get_or nodes n old → new ≡ f old
    → ((node : yaml_node_t) → node_type (f node).content ≡ node_type node.content) → KeepsTypes nodes (set nodes n new)
KeepsTypes-set n f nodes old new old_is new_is keeps =
    subst (KeepsTypes nodes) (changed_at-set n f nodes old ∙ ap (λ (node : yaml_node_t). set nodes n node)
    (ap f (sym old_is) ∙ sym new_is))
    (KeepsTypes-changed_at n f nodes keeps)

pub item_after-type : (id : ℤ) (content : unnamed_yaml_node_t_data)
    → node_type (item_after id content) ≡ node_type content
item_after-type id (Scalar s) = refl
item_after-type id (Sequence s) = refl
item_after-type id (Mapping m) = refl

pub pair_after-type : (p : yaml_node_pair_t) (content : unnamed_yaml_node_t_data)
    → node_type (pair_after p content) ≡ node_type content
pair_after-type p (Scalar s) = refl
pair_after-type p (Sequence s) = refl
pair_after-type p (Mapping m) = refl

-- the place of a node that has a type
pub inside-type : (nodes : List yaml_node_t) (n : ℕ) (t : yaml_node_type_t) → (YAML_NO_NODE ≡ t → ⊥)
    → type_of (slice_get nodes n) ≡ t → n < length nodes
inside-type [] n t some h = absurd (some h)
inside-type (node ∷ nodes) zero t some h = omega arith
inside-type (node ∷ nodes) (suc n) t some h = let e = inside-type nodes n t some h in omega (arith, e)

pub inside-type_at : (d now : Document) (id : ℤ) (n : ℕ) (t : yaml_node_type_t) → d ≡ now → id ≡ pos (suc n)
    → (YAML_NO_NODE ≡ t → ⊥) → type_at now.nodes id ≡ t
    → n < length d.nodes
inside-type_at d now id n t now_is id_is some h =
    inside-type d.nodes n t some
    (subst (λ (e : Document). type_of (slice_get e.nodes n) ≡ t) (sym now_is)
    (subst (λ (i : ℤ). type_at now.nodes i ≡ t) id_is h))
