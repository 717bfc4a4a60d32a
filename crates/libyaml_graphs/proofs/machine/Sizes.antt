-- How long the lists of what is built are: a pair counts from its key on.
use Rattle.std.proofs.Common.{◌≡◌, ℕ, zero, suc, ℤ, pos, List, [], ◌∷◌, ◌++◌, length, nat_lt, le-ltb, zero-le, refl, ap, ◌∙◌, Option, Some, None, Bool, false, arith}
use Rattle.std.specs.Prelude.{slice_get, ◌||◌}
use Rattle.std.proofs.lemmas.Bool.{or_parts}
use Rattle.std.proofs.Math.Bool.{or-false}
use Rattle.libyaml_types.specs.declared.enums.yaml_mapping_style_t.{yaml_mapping_style_t}
use Rattle.libyaml_grammar.specs.grammar.Tokens.{Mark}
use Rattle.libyaml_documents.specs.declared.node.unnamed_yaml_node_t_data.{unnamed_yaml_node_t_data}
use Rattle.libyaml_documents.specs.declared.node.unnamed_yaml_node_t_data.TheVariants.{Scalar, Sequence, Mapping}
use Rattle.libyaml_documents.specs.declared.node.yaml_node_t.{yaml_node_t}
use Rattle.libyaml_documents.specs.declared.pairs.yaml_node_pair_t.{yaml_node_pair_t}
use Rattle.libyaml_graphs.specs.loads.Bounds.{entries, list_sizes, one_above, pairs_begun}
use Rattle.libyaml_graphs.specs.graphs.Graphs.{Start, items, pairs}
use Rattle.libyaml_graphs.specs.machine.Loader.{Anchors, content_full, content_and_child, key_after_child, list_full, node_full, parent_full}
use Rattle.libyaml_graphs.specs.graphs.GraphParts.{Part, alias_part, children, end_part, leaf_part, anchored_node_start, start_part, with_children}
use Rattle.libyaml_graphs.proofs.machine.Built.{AllHas, BeginsEmpty, Built, Has, Held, bare, build, change, end_at, end_top, grown_key, held_graph, hold, hold_top, nodes_in, paired}
use Rattle.libyaml_graphs.proofs.machine.Following.{key_append, key_in, loader_of, stack_of}

-- the entries of a node's list, with the key that waits
abbrev pub begun : Option ℤ → unnamed_yaml_node_t_data → ℕ
begun k (Scalar s) = 0
begun k (Sequence s) = length s.items
begun None (Mapping s) = length s.pairs
begun (Some k) (Mapping s) = suc (length s.pairs)

abbrev pub sizes : List Held → List ℕ
sizes [] = []
sizes (h ∷ hs) = begun h.key h.node.content ∷ sizes hs

pub either_none : (a b : Bool) → a ≡ false → a || b ≡ b
either_none a b e = ap (λ (x : Bool). (x || b)) e

pub none_below : (n : ℕ) → nat_lt n 0 ≡ false
none_below n = le-ltb n 0 zero-le

-- one child more
one_item : (is : List ℤ) (i : ℤ) → length (is ++ i ∷ []) ≡ suc (length is)
one_item [] i = refl
one_item (j ∷ is) i = ap (λ (n : ℕ). suc n) (one_item is i)

one_pair : (ps : List yaml_node_pair_t) (p : yaml_node_pair_t) → length (ps ++ p ∷ []) ≡ suc (length ps)
one_pair [] p = refl
one_pair (q ∷ ps) p = ap (λ (n : ℕ). suc n) (one_pair ps p)

content_grows : (n i : ℕ) (k : Option ℤ) (c : unnamed_yaml_node_t_data) → nat_lt n (begun k c) ≡ false
    → nat_lt n (begun (key_after_child k (pos i) c) (content_and_child k (pos i) c)) ≡ content_full n k c
content_grows n i k c h = grind (arith, one_item, one_pair)

change_grows : (p n i : ℕ) (hs : List Held) → one_above n (sizes hs) ≡ false
    → one_above n (sizes (change p (hold i) hs)) ≡ node_full n (key_in p hs) (slice_get (nodes_in hs) p)
change_grows p n i [] e = refl
change_grows zero n i (h ∷ hs) e = grind (arith, or_parts, or-false, content_grows)
change_grows (suc p) n i (h ∷ hs) e =
    let k : (nat_lt n (begun h.key h.node.content) ≡ false) × (one_above n (sizes hs) ≡ false) = or_parts _ _ e in
    either_none _ _ k.0 ∙ change_grows p n i hs k.1

hold_grows : (s : List ℕ) (n i : ℕ) (hs : List Held) → one_above n (sizes hs) ≡ false
    → one_above n (sizes (hold_top i s hs)) ≡ parent_full n (stack_of s hs) (nodes_in hs)
hold_grows s n i hs e = grind (arith, change_grows)

end_sizes : (p : ℕ) (m : Mark) (hs : List Held) → sizes (change p (end_at m) hs) ≡ sizes hs
end_sizes p m [] = refl
end_sizes zero m (h ∷ hs) = refl
end_sizes (suc p) m (h ∷ hs) = ap (λ (l : List ℕ). begun h.key h.node.content ∷ l) (end_sizes p m hs)

ended_grows : (s : List ℕ) (m : Mark) (n : ℕ) (hs : List Held) → one_above n (sizes hs) ≡ false
    → one_above n (sizes (end_top m s hs)) ≡ false
ended_grows s m n hs e = grind (arith, end_sizes)

-- a node without children has no entries
no_entries : (c : unnamed_yaml_node_t_data) → with_children [] c ≡ c → begun None c ≡ 0
no_entries c e = grind arith

more_grows : (n : ℕ) (hs : List Held) (x : yaml_node_t) → begun None x.content ≡ 0 → one_above n (sizes hs) ≡ false
    → one_above n (sizes (hs ++ bare x ∷ [])) ≡ false
more_grows n [] x e h = ap (λ (i : ℕ). (nat_lt n i || false)) e ∙ ap (λ (b : Bool). (b || false)) (none_below n)
more_grows n (y ∷ hs) x e h =
    let k : (nat_lt n (begun y.key y.node.content) ≡ false) × (one_above n (sizes hs) ≡ false) = or_parts _ _ h in
    either_none _ _ k.0 ∙ more_grows n hs x e k.1

full_append : (p n : ℕ) (k : Option ℤ) (hs : List Held) (x : yaml_node_t) → Has p hs
    → node_full n k (slice_get (nodes_in (hs ++ bare x ∷ [])) p) ≡ node_full n k (slice_get (nodes_in hs) p)
full_append p n k [] x h = absurd h
full_append zero n k (y ∷ hs) x h = refl
full_append (suc p) n k (y ∷ hs) x h = full_append p n k hs x h

parent_append : (s : List ℕ) (n : ℕ) (hs : List Held) (x : yaml_node_t) → AllHas s hs
    → parent_full n (stack_of s (hs ++ bare x ∷ [])) (nodes_in (hs ++ bare x ∷ [])) ≡ parent_full n (stack_of s hs)
    (nodes_in hs)
parent_append [] n hs x h = refl
parent_append (p ∷ s) n hs x h = grind (arith, key_append, full_append)

node_grows : (n i : ℕ) (x : yaml_node_t) (b : Built) → with_children [] x.content ≡ x.content
    → AllHas b.places b.held → one_above n (sizes b.held) ≡ false
    → one_above n (sizes (hold_top i b.places (b.held ++ bare x ∷ []))) ≡ parent_full n (stack_of b.places b.held)
    (nodes_in b.held)
node_grows n i x b e h s = grind (arith, hold_grows, more_grows, no_entries, parent_append)

-- with a part a list is too long exactly where the parent's was full
pub list_grows : (p : Part) (n : ℕ) (es : List Start) (b : Built) (xs : Anchors) → BeginsEmpty p
    → AllHas b.places b.held → one_above n (sizes b.held) ≡ false
    → one_above n (sizes (build es p b).held) ≡ list_full n (loader_of b xs) p
list_grows p n es b xs e h s = grind (arith, hold_grows, node_grows, ended_grows)

-- the lists of a graph with the keys that wait in it
suc_begun : (k : Option ℤ) (p : yaml_node_pair_t) (ps : List yaml_node_pair_t) (s : yaml_mapping_style_t)
    → begun k (paired s (p ∷ ps)) ≡ suc (begun k (paired s ps))
suc_begun k p ps s = grind arith

pairs_left : (l : List yaml_node_pair_t) (js : List ℕ) (s : yaml_mapping_style_t)
    → begun (grown_key None (paired s l) js) (paired s (pairs js)) ≡ pairs_begun js
pairs_left l [] s = refl
pairs_left l (k ∷ []) s = refl
pairs_left l (k ∷ v ∷ js) s =
    let p : yaml_node_pair_t = record { key = pos k; value = pos v } in
    suc_begun (grown_key None (paired s (l ++ p ∷ [])) js) p (pairs js) s
    ∙ ap (λ (n : ℕ). suc n) (pairs_left (l ++ p ∷ []) js s)

length_items : (is : List ℕ) → length (items is) ≡ length is
length_items [] = refl
length_items (i ∷ is) = ap (λ (n : ℕ). suc n) (length_items is)

key_left : (is : List ℕ) (c : unnamed_yaml_node_t_data) → with_children [] c ≡ c
    → begun (grown_key None c is) (with_children is c) ≡ entries c is
key_left is c e = grind (arith, length_items, pairs_left)

abbrev pub AllBegin : List Part → Type 0
AllBegin [] = Unit {0}
AllBegin (p ∷ P) = BeginsEmpty p × AllBegin P

pub graph_sizes : (P : List Part) (es : List Start) (n : ℕ) → AllBegin P
    → one_above n (sizes (held_graph es P)) ≡ one_above n (list_sizes es P)
graph_sizes [] es n e = refl
graph_sizes (alias_part a m ∷ P) es n e = graph_sizes P es n e.1
graph_sizes (leaf_part a x ∷ P) es n e =
    ap (λ (i : ℕ). (nat_lt n i || (one_above n (sizes (held_graph (anchored_node_start a x ∷ es) P)))))
    (no_entries x.content e.0)
    ∙ (either_none _ _ (none_below n) ∙ graph_sizes P (anchored_node_start a x ∷ es) n e.1)
graph_sizes (start_part a x ∷ P) es n e =
    grind (
      arith,
      held_graph (anchored_node_start a x ∷ es) P,
      key_left (children 0 (anchored_node_start a x ∷ es) P) x.content e.0,
      graph_sizes P (anchored_node_start a x ∷ es) n e.1,
    )
graph_sizes (end_part m ∷ P) es n e = graph_sizes P es n e.1
