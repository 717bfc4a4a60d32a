-- A graph as it is built, part by part: the nodes so far, each with the key that waits in it, and the places of those that
-- are open, the innermost first.
use Rattle.std.proofs.Common.{◌≡◌, ℕ, zero, suc, ℤ, pos, List, [], ◌∷◌, ◌++◌, length, refl, sym, ap, ◌∙◌, append_assoc, append-nil, Option, None, arith}
use Rattle.libyaml_types.specs.declared.enums.yaml_mapping_style_t.{yaml_mapping_style_t}
use Rattle.libyaml_types.specs.declared.enums.yaml_sequence_style_t.{yaml_sequence_style_t}
use Rattle.libyaml_grammar.specs.grammar.Tokens.{Mark}
use Rattle.libyaml_documents.specs.LoadedNodes.{with_end}
use Rattle.libyaml_documents.specs.declared.node.unnamed_yaml_node_t_data.{unnamed_yaml_node_t_data}
use Rattle.libyaml_documents.specs.declared.node.unnamed_yaml_node_t_data.TheVariants.{Scalar, Sequence, Mapping}
use Rattle.libyaml_documents.specs.declared.node.unnamed_yaml_node_t_data_scalar.{unnamed_yaml_node_t_data_scalar}
use Rattle.libyaml_documents.specs.declared.node.yaml_node_t.{yaml_node_t}
use Rattle.libyaml_documents.specs.declared.pairs.yaml_node_pair_t.{yaml_node_pair_t}
use Rattle.libyaml_graphs.specs.graphs.Graphs.{Start, anchored_node, id_or, items, pairs}
use Rattle.libyaml_graphs.specs.machine.Loader.{content_and_child, key_after_child, with_child}
use Rattle.libyaml_graphs.specs.graphs.GraphParts.{Part, alias_part, following, children, end_in, end_part, ended, graph, leaf_part, anchored_node_start, start_part, with_children}

pub record Held : Type 0 where
  pub node : yaml_node_t
  pub key : Option ℤ

abbrev pub bare : yaml_node_t → Held
bare x = record { node = x; key = None }

abbrev pub nodes_in : List Held → List yaml_node_t
nodes_in [] = []
nodes_in (h ∷ hs) = h.node ∷ nodes_in hs

abbrev pub change : ℕ → (Held → Held) → List Held → List Held
change p f [] = []
change zero f (h ∷ hs) = f h ∷ hs
change (suc p) f (h ∷ hs) = h ∷ change p f hs

-- a child, and an end
abbrev pub hold : ℕ → Held → Held
hold i h = record { node = with_child h.key (pos i) h.node; key = key_after_child h.key (pos i) h.node.content }

abbrev pub end_at : Mark → Held → Held
end_at m h = record { node = with_end m h.node; key = h.key }

abbrev pub hold_top : ℕ → List ℕ → List Held → List Held
hold_top i [] hs = hs
hold_top i (p ∷ s) hs = change p (hold i) hs

abbrev pub end_top : Mark → List ℕ → List Held → List Held
end_top m [] hs = hs
end_top m (p ∷ s) hs = change p (end_at m) hs

abbrev pub below : List ℕ → List ℕ
below [] = []
below (p ∷ s) = s

pub record Built : Type 0 where
  pub places : List ℕ
  pub held : List Held

abbrev pub unbuilt : Built
unbuilt = record { places = []; held = [] }

-- one part more, where es are the starts before it
abbrev pub build : List Start → Part → Built → Built
build es (alias_part a m) b = record { places = b.places; held = hold_top (id_or (anchored_node a es)) b.places b.held }
build es (leaf_part a x) b =
    record { places = b.places; held = hold_top (suc (length es)) b.places (b.held ++ bare x ∷ []) }
build es (start_part a x) b =
    record { places = length b.held ∷ b.places; held = hold_top (suc (length es)) b.places (b.held ++ bare x ∷ []) }
build es (end_part n) b = record { places = below b.places; held = end_top n b.places b.held }

-- each place is one of the list
abbrev pub Has : ℕ → List Held → Type 0
Has p [] = ⊥
Has zero (h ∷ hs) = Unit {0}
Has (suc p) (h ∷ hs) = Has p hs

abbrev pub AllOf : (ℕ → Type 0) → List ℕ → Type 0
AllOf P [] = Unit {0}
AllOf P (p ∷ s) = P p × AllOf P s

pub all_of : (P Q : ℕ → Type 0) (s : List ℕ) → ((p : ℕ) → P p → Q p) → AllOf P s → AllOf Q s
all_of P Q [] f h = tt
all_of P Q (p ∷ s) f h = (f p h.0, all_of P Q s f h.1)

abbrev pub AllHas : List ℕ → List Held → Type 0
AllHas s hs = AllOf (λ p. Has p hs) s

pub has_append : (p : ℕ) (hs r : List Held) → Has p hs → Has p (hs ++ r)
has_append p [] r h = absurd h
has_append zero (x ∷ hs) r h = tt
has_append (suc p) (x ∷ hs) r h = has_append p hs r h

has_change : (p q : ℕ) (f : Held → Held) (hs : List Held) → Has p hs → Has p (change q f hs)
has_change p q f [] h = h
has_change zero zero f (x ∷ hs) h = tt
has_change zero (suc q) f (x ∷ hs) h = tt
has_change (suc p) zero f (x ∷ hs) h = h
has_change (suc p) (suc q) f (x ∷ hs) h = has_change p q f hs h

pub has_last : (hs : List Held) (x : Held) → Has (length hs) (hs ++ x ∷ [])
has_last [] x = tt
has_last (y ∷ hs) x = has_last hs x

pub all_append : (s : List ℕ) (hs r : List Held) → AllHas s hs → AllHas s (hs ++ r)
all_append s hs r h = all_of (λ p. Has p hs) (λ p. Has p (hs ++ r)) s (λ p k. has_append p hs r k) h

pub all_change : (s : List ℕ) (q : ℕ) (f : Held → Held) (hs : List Held) → AllHas s hs → AllHas s (change q f hs)
all_change s q f hs h = all_of (λ p. Has p hs) (λ p. Has p (change q f hs)) s (λ p k. has_change p q f hs k) h

pub all_hold : (s t : List ℕ) (i : ℕ) (hs : List Held) → AllHas s hs → AllHas s (hold_top i t hs)
all_hold s t i hs h = grind (arith, all_change)

pub all_end : (n : Mark) (s : List ℕ) (hs : List Held) → AllHas s hs → AllHas (below s) (end_top n s hs)
all_end n s hs h = grind (arith, all_change)

change_append : (p : ℕ) (f : Held → Held) (hs r : List Held) → Has p hs → change p f (hs ++ r) ≡ change p f hs ++ r
change_append p f [] r h = absurd h
change_append zero f (x ∷ hs) r h = refl
change_append (suc p) f (x ∷ hs) r h = ap (λ (l : List Held). x ∷ l) (change_append p f hs r h)

change_last : (f : Held → Held) (hs : List Held) (x : Held) → change (length hs) f (hs ++ x ∷ []) ≡ hs ++ f x ∷ []
change_last f [] x = refl
change_last f (y ∷ hs) x = ap (λ (l : List Held). y ∷ l) (change_last f hs x)

change_change : (p : ℕ) (f g : Held → Held) (hs : List Held)
    → change p f (change p g hs) ≡ change p (λ (x : Held). f (g x)) hs
change_change p f g [] = refl
change_change zero f g (x ∷ hs) = refl
change_change (suc p) f g (x ∷ hs) = ap (λ (l : List Held). x ∷ l) (change_change p f g hs)

change_same : (p : ℕ) (f g : Held → Held) (hs : List Held) → ((x : Held) → f x ≡ g x) → change p f hs ≡ change p g hs
change_same p f g hs e = grind arith

change_not : (p : ℕ) (f : Held → Held) (hs : List Held) → ((x : Held) → f x ≡ x) → change p f hs ≡ hs
change_not p f [] e = refl
change_not zero f (x ∷ hs) e = ap (λ (y : Held). y ∷ hs) (e x)
change_not (suc p) f (x ∷ hs) e = ap (λ (l : List Held). x ∷ l) (change_not p f hs e)

length_change : (p : ℕ) (f : Held → Held) (hs : List Held) → length (change p f hs) ≡ length hs
length_change p f [] = refl
length_change zero f (x ∷ hs) = refl
length_change (suc p) f (x ∷ hs) = ap (λ (n : ℕ). suc n) (length_change p f hs)

pub length_hold : (i : ℕ) (s : List ℕ) (hs : List Held) → length (hold_top i s hs) ≡ length hs
length_hold i s hs = grind (arith, length_change)

pub length_end : (n : Mark) (s : List ℕ) (hs : List Held) → length (end_top n s hs) ≡ length hs
length_end n s hs = grind (arith, length_change)

pub length_more : (hs : List Held) (x : Held) → length (hs ++ x ∷ []) ≡ suc (length hs)
length_more [] x = refl
length_more (y ∷ hs) x = ap (λ (n : ℕ). suc n) (length_more hs x)

hold_append : (i : ℕ) (s : List ℕ) (hs r : List Held) → AllHas s hs → hold_top i s (hs ++ r) ≡ hold_top i s hs ++ r
hold_append i s hs r h = grind (arith, change_append)

-- a change at each place, by how many collections are open within it
abbrev pub applied : List ℕ → (ℕ → Held → Held) → List Held → List Held
applied [] f hs = hs
applied (p ∷ s) f hs = applied s (λ (d : ℕ). f (suc d)) (change p (f 0) hs)

applied_same : (s : List ℕ) (f g : ℕ → Held → Held) (hs : List Held) → ((d : ℕ) (x : Held) → f d x ≡ g d x)
    → applied s f hs ≡ applied s g hs
applied_same s f g hs e = grind arith

pub applied_not : (s : List ℕ) (f : ℕ → Held → Held) (hs : List Held) → ((d : ℕ) (x : Held) → f d x ≡ x)
    → applied s f hs ≡ hs
applied_not [] f hs e = refl
applied_not (p ∷ s) f hs e = cc (change_not p (f 0) hs (e 0), applied_not s (λ (d : ℕ). f (suc d)) hs (λ d x. e (suc d) x))

applied_append : (s : List ℕ) (f : ℕ → Held → Held) (hs r : List Held) → AllHas s hs
    → applied s f (hs ++ r) ≡ applied s f hs ++ r
applied_append [] f hs r h = refl
applied_append (p ∷ s) f hs r h =
    cc (change_append p (f 0) hs r h.0, applied_append s (λ (d : ℕ). f (suc d)) (change p (f 0) hs) r (all_change s p (f 0) hs h.1))

-- a child handed over now, or with the rest
applied_hold : (i : ℕ) (s : List ℕ) (f g : ℕ → Held → Held) (hs : List Held) → ((x : Held) → f 0 (hold i x) ≡ g 0 x)
    → ((d : ℕ) (x : Held) → f (suc d) x ≡ g (suc d) x) → applied s f (hold_top i s hs) ≡ applied s g hs
applied_hold i s f g hs e h = grind (arith, change_change, change_same, applied_same)

-- children, one after the other: what a node holds after them, and the key that waits then
abbrev pub grown : Option ℤ → unnamed_yaml_node_t_data → List ℕ → unnamed_yaml_node_t_data
grown k c [] = c
grown k c (i ∷ is) = grown (key_after_child k (pos i) c) (content_and_child k (pos i) c) is

abbrev pub grown_key : Option ℤ → unnamed_yaml_node_t_data → List ℕ → Option ℤ
grown_key k c [] = k
grown_key k c (i ∷ is) = grown_key (key_after_child k (pos i) c) (content_and_child k (pos i) c) is

abbrev listed : yaml_sequence_style_t → List ℤ → unnamed_yaml_node_t_data
listed s l = Sequence (record { items = l; style = s })

abbrev pub paired : yaml_mapping_style_t → List yaml_node_pair_t → unnamed_yaml_node_t_data
paired s l = Mapping (record { pairs = l; style = s })

add_items : (l : List ℤ) (js : List ℕ) (s : yaml_sequence_style_t) → grown None (listed s l) js ≡ listed s (l ++ items js)
add_items l [] s = ap (listed s) (sym (append-nil l))
add_items l (j ∷ js) s = add_items (l ++ pos j ∷ []) js s ∙ ap (listed s) (append_assoc l (pos j ∷ []) (items js))

add_pairs : (l : List yaml_node_pair_t) (js : List ℕ) (s : yaml_mapping_style_t)
    → grown None (paired s l) js ≡ paired s (l ++ pairs js)
add_pairs l [] s = ap (paired s) (sym (append-nil l))
add_pairs l (k ∷ []) s = ap (paired s) (sym (append-nil l))
add_pairs l (k ∷ v ∷ js) s =
    add_pairs (l ++ record { key = pos k; value = pos v } ∷ []) js s
    ∙ ap (paired s) (append_assoc l (record { key = pos k; value = pos v } ∷ []) (pairs js))

grown_scalar : (b : unnamed_yaml_node_t_data_scalar) (k : Option ℤ) (is : List ℕ) → grown k (Scalar b) is ≡ Scalar b
grown_scalar b k [] = refl
grown_scalar b k (i ∷ is) = grown_scalar b k is

grown_empty : (c : unnamed_yaml_node_t_data) (is : List ℕ) → grown None (with_children [] c) is ≡ with_children is c
grown_empty c is = grind (arith, grown_scalar, add_items, add_pairs)

-- of a node that begins without children
pub grown_from : (c : unnamed_yaml_node_t_data) (is : List ℕ) → with_children [] c ≡ c
    → grown None c is ≡ with_children is c
grown_from c is e = ap (λ (d : unnamed_yaml_node_t_data). grown None d is) (sym e) ∙ grown_empty c is

-- what the rest P of a document makes of an open node
abbrev pub rested : List Start → List Part → ℕ → Held → Held
rested es P d h = record {
  node = record {
    tag = h.node.tag;
    content = grown h.key h.node.content (children d es P);
    start_mark = h.node.start_mark;
    end_mark
        = end_in d h.node.end_mark P;
  };
  key = grown_key h.key h.node.content (children d es P);
}

-- the graph with the keys that wait in it at the end
abbrev pub held_graph : List Start → List Part → List Held
held_graph es [] = []
held_graph es (alias_part a m ∷ r) = held_graph es r
held_graph es (leaf_part a x ∷ r) = bare x ∷ held_graph (anchored_node_start a x ∷ es) r
held_graph es (start_part a x ∷ r)
    = record {
      node = ended (children 0 (anchored_node_start a x ∷ es) r) (end_in 0 x.end_mark r) x;
      key =
          grown_key None x.content (children 0 (anchored_node_start a x ∷ es) r);
    }
    ∷ held_graph (anchored_node_start a x ∷ es) r
held_graph es (end_part n ∷ r) = held_graph es r

pub graph_nodes : (P : List Part) (es : List Start) → nodes_in (held_graph es P) ≡ graph es P
graph_nodes [] es = refl
graph_nodes (alias_part a m ∷ P) es = graph_nodes P es
graph_nodes (leaf_part a x ∷ P) es = ap (λ (l : List yaml_node_t). x ∷ l) (graph_nodes P (anchored_node_start a x ∷ es))
graph_nodes (start_part a x ∷ P) es
    = ap (λ (l : List yaml_node_t). ended (children 0 (anchored_node_start a x ∷ es) P) (end_in 0 x.end_mark P) x ∷ l)
    (graph_nodes P (anchored_node_start a x ∷ es))
graph_nodes (end_part n ∷ P) es = graph_nodes P es

-- the whole graph, from what is built so far and the rest
abbrev pub finished : List Start → List Part → Built → List Held
finished es P b = applied b.places (rested es P) b.held ++ held_graph es P

-- a node begins without children
abbrev pub BeginsEmpty : Part → Type 0
BeginsEmpty (alias_part a m) = Unit {0}
BeginsEmpty (leaf_part a x) = with_children [] x.content ≡ x.content
BeginsEmpty (start_part a x) = with_children [] x.content ≡ x.content
BeginsEmpty (end_part n) = Unit {0}

leaf_finished : (a : Option (List ℕ)) (x : yaml_node_t) (es : List Start) (P : List Part) (b : Built)
    → AllHas b.places b.held
    → finished (anchored_node_start a x ∷ es) P (build es (leaf_part a x) b) ≡ finished es (leaf_part a x ∷ P) b
leaf_finished a x es P b h =
    let F : ℕ → Held → Held = rested (anchored_node_start a x ∷ es) P in
    let G : ℕ → Held → Held = rested es (leaf_part a x ∷ P) in
    let R : List Held = held_graph (anchored_node_start a x ∷ es) P in
    ap (λ (l : List Held). l ++ R)
    (applied_hold (suc (length es)) b.places F G (b.held ++ bare x ∷ []) (λ y. refl) (λ d y. refl)
    ∙ applied_append b.places G b.held (bare x ∷ []) h)
    ∙ append_assoc (applied b.places G b.held) (bare x ∷ []) R

abbrev with_content : yaml_node_t → Mark → Option ℤ → unnamed_yaml_node_t_data → Held
with_content x n k c = record {
  node = record { tag = x.tag; content = c; start_mark = x.start_mark; end_mark = n };
  key = k;
}

start_finished : (a : Option (List ℕ)) (x : yaml_node_t) (es : List Start) (P : List Part) (b : Built)
    → with_children [] x.content ≡ x.content
    → AllHas b.places b.held → finished (anchored_node_start a x ∷ es) P (build es (start_part a x) b) ≡ finished es
    (start_part a x ∷ P) b
start_finished a x es P b e h =
    grind (arith, hold_append, length_hold, change_last, applied_append, all_hold, applied_hold, grown_from, append_assoc)

end_finished : (n : Mark) (es : List Start) (P : List Part) (b : Built)
    → finished es P (build es (end_part n) b) ≡ finished es (end_part n ∷ P) b
end_finished n es P b = grind arith

-- a part built, or left to the rest, makes the same graph
pub build_finished : (p : Part) (es : List Start) (P : List Part) (b : Built) → BeginsEmpty p → AllHas b.places b.held
    → finished (following p es) P (build es p b) ≡ finished es (p ∷ P) b
build_finished (alias_part a m) es P b e h
    = ap (λ (l : List Held). l ++ held_graph es P)
    (applied_hold (id_or (anchored_node a es)) b.places (rested es P) (rested es (alias_part a m ∷ P)) b.held (λ x. refl)
    (λ d x. refl))
build_finished (leaf_part a x) es P b e h = leaf_finished a x es P b h
build_finished (start_part a x) es P b e h = start_finished a x es P b e h
build_finished (end_part n) es P b e h = end_finished n es P b

pub finished_none : (es : List Start) (b : Built) → finished es [] b ≡ b.held
finished_none es b = grind (arith, append-nil, applied_not)
