-- The nodes so far begin those of half a document, and those of each document that a load gives which goes on.
use Rattle.std.proofs.Common.{◌≡◌, ◌++◌, ◌∷◌, ◌∙◌, ℕ, zero, suc, ℤ, pos, negsuc, List, [], Option, None, Some, Bool, true, false, Ok, Err, append-nil, append_assoc, length, nat_lt, refl, sym, ap, subst}
use Rattle.std.specs.FinMap.{get}
use Rattle.libyaml_types.specs.Fault.{Fault}
use Rattle.libyaml_grammar.specs.grammar.Events.{Event}
use Rattle.libyaml_grammar.specs.grammar.Tokens.{Mark}
use Rattle.libyaml_grammar.specs.runs.Runs.{Ending, Ends, Fails}
use Rattle.libyaml_documents.specs.Documents.{Document}
use Rattle.libyaml_documents.specs.LoadedNodes.{with_end}
use Rattle.libyaml_documents.specs.Nodes.{changed_at, with_changed}
use Rattle.libyaml_documents.specs.declared.node.unnamed_yaml_node_t_data.{unnamed_yaml_node_t_data}
use Rattle.libyaml_documents.specs.declared.node.unnamed_yaml_node_t_data.TheVariants.{Scalar, Sequence, Mapping}
use Rattle.libyaml_documents.specs.declared.node.yaml_node_t.{yaml_node_t}
use Rattle.libyaml_documents.specs.declared.pairs.yaml_node_pair_t.{yaml_node_pair_t}
use Rattle.libyaml_graphs.specs.graphs.GraphParts.{Closing, Opening, Part, alias_part, closing_of, end_part, leaf_part, part_of, start_part}
use Rattle.libyaml_graphs.specs.graphs.Graphs.{AnchoredNode}
use Rattle.libyaml_graphs.specs.loads.Bounds.{bounded_loads}
use Rattle.libyaml_graphs.specs.loads.Leads.{Leads, whole_then}
use Rattle.libyaml_graphs.specs.loads.Loads.{Load, document, end_of_document, last_load}
use Rattle.libyaml_graphs.specs.machine.Loader.{Loader, Loading, OpenNode, Registered, State, between, bounded_option, bounded_part, closed_by, content_and_child, failed, going, hand, if_child_fits, if_going, known, load_from, load_part, on_alias, on_node, register, registered, unless_full}
use Rattle.libyaml_graphs.specs.machine.Loader.{with_child, within, list_full, nodes_full}
use Rattle.libyaml_loader.specs.loads.HalfDocument.{IsHalf, bounded_parts, closed_at, ending_parts}
use Rattle.libyaml_loader.specs.loads.SharedNodes.{ContentBegins, NodeSoFar, NodesBegin, nodes_so_far}

content_same : (c : unnamed_yaml_node_t_data) → ContentBegins c c
content_same (Scalar s) = refl
content_same (Sequence s) = ([], ap (λ (l : List ℤ). Sequence (record s { items = l })) (sym (append-nil s.items)))
content_same (Mapping s) = ([], ap (λ (l : List yaml_node_pair_t). Mapping (record s { pairs = l })) (sym (append-nil s.pairs)))

content_on : (a b c : unnamed_yaml_node_t_data) → ContentBegins a b → ContentBegins b c → ContentBegins a c
content_on (Scalar s) b c e h = subst (λ (z : unnamed_yaml_node_t_data). ContentBegins z c) e h
content_on (Sequence s) b c (m, e) h =
    let (n, f) = subst (λ (z : unnamed_yaml_node_t_data). ContentBegins z c) e h in
    (m ++ n, f ∙ ap (λ (l : List ℤ). Sequence (record s { items = l })) (append_assoc s.items m n))
content_on (Mapping s) b c (m, e) h =
    let (n, f) = subst (λ (z : unnamed_yaml_node_t_data). ContentBegins z c) e h in
    (m ++ n, f ∙ ap (λ (l : List yaml_node_pair_t). Mapping (record s { pairs = l })) (append_assoc s.pairs m n))

node_same : (x : yaml_node_t) → NodeSoFar x x
node_same x = record { tag = refl; start = refl; content = content_same x.content }

node_on : (x y z : yaml_node_t) → NodeSoFar x y → NodeSoFar y z → NodeSoFar x z
node_on x y z a b = record {
  tag = b.tag ∙ a.tag;
  start = b.start ∙ a.start;
  content = content_on x.content y.content z.content a.content b.content;
}

same : (l : List yaml_node_t) → NodesBegin l l
same [] = tt
same (x ∷ l) = (node_same x, same l)

on : (a b c : List yaml_node_t) → NodesBegin a b → NodesBegin b c → NodesBegin a c
on [] b c g h = tt
on (x ∷ a) [] c g h = absurd g
on (x ∷ a) (y ∷ b) [] g h = absurd h
on (x ∷ a) (y ∷ b) (z ∷ c) g h = (node_on x y z g.0 h.0, on a b c g.1 h.1)

more : (l r : List yaml_node_t) → NodesBegin l (l ++ r)
more [] r = tt
more (x ∷ l) r = (node_same x, more l r)

-- a node is changed
module _ (f : yaml_node_t → yaml_node_t) (grows : (x : yaml_node_t) → NodeSoFar x (f x)) where
  at : (n : ℕ) (l : List yaml_node_t) → NodesBegin l (changed_at n f l)
  at n [] = tt
  at zero (x ∷ l) = (grows x, same l)
  at (suc n) (x ∷ l) = (node_same x, at n l)

  changed : (i : ℤ) (l : List yaml_node_t) → NodesBegin l (with_changed i f l)
  changed (negsuc n) l = same l
  changed (pos zero) l = same l
  changed (pos (suc n)) l = at n l

child_content : (k : Option ℤ) (i : ℤ) (c : unnamed_yaml_node_t_data) → ContentBegins c (content_and_child k i c)
child_content k i (Scalar s) = refl
child_content k i (Sequence s) = (i ∷ [], refl)
child_content None i (Mapping s) = content_same (Mapping s)
child_content (Some k) i (Mapping s) = (record { key = k; value = i } ∷ [], refl)

child : (k : Option ℤ) (i : ℤ) (x : yaml_node_t) → NodeSoFar x (with_child k i x)
child k i x = record { tag = refl; start = refl; content = child_content k i x.content }

ended : (m : Mark) (x : yaml_node_t) → NodeSoFar x (with_end m x)
ended m x = record { tag = refl; start = refl; content = content_same x.content }

handed_on : (i : ℤ) (s : List OpenNode) (l : List yaml_node_t) → NodesBegin l (hand i s l)
handed_on i [] l = same l
handed_on i (o ∷ s) l = changed (with_child o.key i) (child o.key i) o.node l

closed : (m : Mark) (s : List OpenNode) (l : List yaml_node_t) → NodesBegin l (closed_by m s l)
closed m [] l = same l
closed m (o ∷ s) l = changed (with_end m) (ended m) o.node l

-- the loader goes on
abbrev Grows : Loader → Loading → Type 0
Grows l (going k) = NodesBegin l.nodes k.nodes
Grows l (failed f) = Unit {0}

unless : (l : Loader) (b : Bool) (o : Loading) → Grows l o → Grows l (unless_full b o)
unless l true o h = tt
unless l false o h = h

fitting : (l : Loader) (b : Bool) (o : Loading) → Grows l o → Grows l (if_child_fits b o)
fitting l b (failed f) h = tt
fitting l b (going k) h = unless l b (going k) h

alias : (l : Loader) (m : Mark) (c : Option AnchoredNode) → Grows l (on_alias c m l)
alias l m None = tt
alias l m (Some c) = handed_on (pos c.id) l.stack l.nodes

node : (l : Loader) (x : yaml_node_t) (opens : List OpenNode) (r : Registered) → Grows l (on_node r x opens l)
node l x opens (known m) = tt
node l x opens (registered xs) = on l.nodes (l.nodes ++ x ∷ []) _ (more l.nodes (x ∷ []))
    (handed_on (pos (suc (length l.nodes))) l.stack (l.nodes ++ x ∷ []))

one_part : (l : Loader) (p : Part) → Grows l (load_part l p)
one_part l (alias_part a m) = alias l m (get l.anchors a)
one_part l (leaf_part a x) = node l x [] (register a (suc (length l.nodes)) x.start_mark l.anchors)
one_part l (start_part a x)
    = node l x (record { node = pos (suc (length l.nodes)); key = None } ∷ []) (register a (suc (length l.nodes)) x.start_mark l.anchors)
one_part l (end_part n) = closed n l.stack l.nodes

bounded : (n : ℕ) (l : Loader) (p : Part) → Grows l (bounded_part n l p)
bounded n l p = unless l (nodes_full n l p) _ (fitting l (list_full n l p) (load_part l p) (one_part l p))

optional : (n : ℕ) (l : Loader) (p : Option Part) → Grows l (bounded_option n l p)
optional n l None = same l.nodes
optional n l (Some p) = bounded n l p

-- and further
then : (l : Loader) (o : Loading) (f : Loader → Loading) → Grows l o → ((k : Loader) → Grows k (f k)) → Grows l (if_going failed o f)
then l (failed x) f g h = tt
then l (going k) f g h = go (f k) (h k)
  where
    go : (o : Loading) → Grows k o → Grows l o
    go (failed x) i = tt
    go (going j) i = on l.nodes k.nodes j.nodes g i

all_parts : (n : ℕ) (l : Loader) (p : List Part) → Grows l (bounded_parts n l p)
all_parts n l [] = same l.nodes
all_parts n l (p ∷ r) = then l (bounded_part n l p) (λ k. bounded_parts n k r) (bounded n l p) (λ k. all_parts n k r)

all_closed : (n : ℕ) (m : Mark) (s : List OpenNode) (l : Loader) → Grows l (closed_at n m s l)
all_closed n m [] l = same l.nodes
all_closed n m (o ∷ s) l = then l (bounded_parts n l (ending_parts (nat_lt (length l.nodes) n) m o.key)) (closed_at n m s)
    (all_parts n l (ending_parts (nat_lt (length l.nodes) n) m o.key)) (all_closed n m s)

pub half_begins : (n : ℕ) (m : Mark) (here : State) (d : Document) → IsHalf n m here (Some d) → NodesBegin (nodes_so_far here) d.nodes
half_begins n m between d h = tt
half_begins n m (within o l) d (k, closes, is)
    = subst (λ (x : Document). NodesBegin l.nodes x.nodes) (sym is) (subst (Grows l) closes (all_closed n m l.stack l))

-- a load from there
of_load : (n : ℕ) (o : Opening) (l : Loader) (r : List Event) (x : Ending) (d : Document) → load_from n (within o l) r x ≡ Ok d
    → (d.nodes ≡ [] → ⊥) → NodesBegin l.nodes d.nodes
of_load n o l [] Ends d e whole = absurd (whole (go e))
  where
    go : last_load Ends ≡ Ok d → d.nodes ≡ []
    go e = cc
of_load n o l [] (Fails f) d e whole = absurd cc
of_load n o l (e ∷ r) x d is whole = by (closing_of e) (λ k i. of_load n o k r x d i whole) is
  where
    Later : Type 0
    Later = (k : Loader) → load_from n (within o k) r x ≡ Ok d → NodesBegin k.nodes d.nodes

    further : (a : Loading) → Grows l a → Later
        → ◌≡◌ {A = Load} (if_going (λ (f : Fault). Err f) a (λ (k : Loader). load_from n (within o k) r x)) (Ok d)
        → NodesBegin l.nodes d.nodes
    further (failed f) g h i = absurd cc
    further (going k) g h i = on l.nodes k.nodes d.nodes g (h k i)

    same_document : (y : Document) → ◌≡◌ {A = Load} (Ok y) (Ok d) → y ≡ d
    same_document y i = cc

    by : (c : Option Closing) → Later → ◌≡◌ {A = Load} (elim c [
      | Some c ↦ Ok (document o l.nodes c)
      | None ↦ if_going (λ (f : Fault). Err f) (bounded_option n l (part_of e)) (λ (k : Loader). load_from n (within o k) r x)
    ]) (Ok d) → NodesBegin l.nodes d.nodes
    by (Some c) h i = subst (λ (y : Document). NodesBegin l.nodes y.nodes) (same_document (document o l.nodes c) i) (same l.nodes)
    by None h i = further (bounded_option n l (part_of e)) (optional n l (part_of e)) h i

first_load : (c : Option Closing) (a : Load) (l others : List Load) (d : Document) → whole_then c a l ≡ Ok d ∷ others → a ≡ Ok d
first_load c (Err f) l others d e = absurd cc
first_load None (Ok y) l others d e = cc
first_load (Some c) (Ok y) l others d e = cc

pub whole_begins : (n : ℕ) (taken rest : List Event) (here : State) (x : Ending) (d : Document) (others : List Load)
    → Leads n between taken [] here → bounded_loads n (taken ++ rest) x ≡ Ok d ∷ others → (d.nodes ≡ [] → ⊥)
    → NodesBegin (nodes_so_far here) d.nodes
whole_begins n taken rest between x d others leads e whole = tt
whole_begins n taken rest (within o l) x d others leads e whole
    = of_load n o l rest x d (first_load (end_of_document rest) (load_from n (within o l) rest x) _ others d
    (sym (leads.loads rest x) ∙ e)) whole
