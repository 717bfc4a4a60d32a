-- The loader follows the graph as it is built: its nodes are those built, and its stack is the open places with the
-- keys that wait there.
use Rattle.std.proofs.Common.{◌≡◌, ℕ, zero, suc, ℤ, pos, List, [], ◌∷◌, ◌++◌, length, refl, sym, ap, ◌∙◌, Option, Some, None, true, false, arith}
use Rattle.std.specs.Prelude.{slice_get}
use Rattle.std.specs.Cmp.Lexicographic.{nat_list_cmp_total}
use Rattle.std.specs.FinMap.{get, get-from_entries}
use Rattle.libyaml_types.specs.Fault.{Fault}
use Rattle.libyaml_grammar.specs.grammar.Tokens.{Mark}
use Rattle.libyaml_grammar.proofs.exported.TextMaps.{inserted}
use Rattle.libyaml_documents.specs.LoadedNodes.{with_end}
use Rattle.libyaml_documents.specs.Nodes.{changed_at}
use Rattle.libyaml_documents.specs.declared.node.yaml_node_t.{yaml_node_t}
use Rattle.libyaml_graphs.specs.graphs.ComposerFaults.{alias_fault, anchor_fault, composer_part_fault, repeated_anchor}
use Rattle.libyaml_graphs.specs.graphs.Graphs.{AnchoredNode, Start, anchored_node, carries, id_or}
use Rattle.libyaml_graphs.specs.machine.Loader.{Anchors, Loader, Loading, OpenNode, Registered, closed_by, failed, going, hand, handed, key_after, known, load_part, no_anchors, on_alias, on_node, outer, register, registered, with_child}
use Rattle.libyaml_graphs.specs.graphs.GraphParts.{Part, alias_part, following, end_part, leaf_part, anchored_node_start, start_part}
use Rattle.libyaml_graphs.proofs.machine.Built.{AllHas, AllOf, Built, Has, Held, all_append, all_end, all_hold, all_of, bare, below, build, change, end_at, end_top, has_last, hold, hold_top, length_end, length_hold, length_more, nodes_in, unbuilt}

-- the key that waits at a place, and a stack of places with their keys
abbrev pub key_in : ℕ → List Held → Option ℤ
key_in p [] = None
key_in zero (h ∷ hs) = h.key
key_in (suc p) (h ∷ hs) = key_in p hs

abbrev pub stack_of : List ℕ → List Held → List OpenNode
stack_of [] hs = []
stack_of (p ∷ s) hs = record { node = pos (suc p); key = key_in p hs } ∷ stack_of s hs

abbrev pub loader_of : Built → Anchors → Loader
loader_of b xs = record { nodes = nodes_in b.held; stack = stack_of b.places b.held; anchors = xs }

-- the places of a stack fall
abbrev pub Less : ℕ → ℕ → Type 0
Less q zero = ⊥
Less zero (suc p) = Unit {0}
Less (suc q) (suc p) = Less q p

abbrev pub AllLess : List ℕ → ℕ → Type 0
AllLess s p = AllOf (λ q. Less q p) s

abbrev pub Falls : List ℕ → Type 0
Falls [] = Unit {0}
Falls (p ∷ s) = AllLess s p × Falls s

has_less : (p : ℕ) (hs : List Held) → Has p hs → Less p (length hs)
has_less p [] h = h
has_less zero (x ∷ hs) h = tt
has_less (suc p) (x ∷ hs) h = has_less p hs h

all_less : (s : List ℕ) (hs : List Held) → AllHas s hs → AllLess s (length hs)
all_less s hs h = all_of (λ p. Has p hs) (λ p. Less p (length hs)) s (λ p k. has_less p hs k) h

-- a change at one place leaves the key of each other as it is
key_below : (q p : ℕ) (f : Held → Held) (hs : List Held) → Less q p → key_in q (change p f hs) ≡ key_in q hs
key_below q zero f hs h = absurd h
key_below q (suc p) f [] h = refl
key_below zero (suc p) f (x ∷ hs) h = refl
key_below (suc q) (suc p) f (x ∷ hs) h = key_below q p f hs h

key_above : (q p : ℕ) (f : Held → Held) (hs : List Held) → Less p q → key_in q (change p f hs) ≡ key_in q hs
key_above zero p f hs h = absurd h
key_above (suc q) p f [] h = refl
key_above (suc q) zero f (x ∷ hs) h = refl
key_above (suc q) (suc p) f (x ∷ hs) h = key_above q p f hs h

key_ended : (q p : ℕ) (m : Mark) (hs : List Held) → key_in q (change p (end_at m) hs) ≡ key_in q hs
key_ended q p m [] = refl
key_ended zero zero m (x ∷ hs) = refl
key_ended (suc q) zero m (x ∷ hs) = refl
key_ended zero (suc p) m (x ∷ hs) = refl
key_ended (suc q) (suc p) m (x ∷ hs) = key_ended q p m hs

pub key_append : (p : ℕ) (hs r : List Held) → Has p hs → key_in p (hs ++ r) ≡ key_in p hs
key_append p [] r h = absurd h
key_append zero (x ∷ hs) r h = refl
key_append (suc p) (x ∷ hs) r h = key_append p hs r h

key_last : (hs : List Held) (x : Held) → key_in (length hs) (hs ++ x ∷ []) ≡ x.key
key_last [] x = refl
key_last (y ∷ hs) x = key_last hs x

-- a stack whose keys are the same
stack_alike : (s : List ℕ) (hs ks : List Held) → AllOf (λ q. key_in q hs ≡ key_in q ks) s → stack_of s hs ≡ stack_of s ks
stack_alike [] hs ks h = refl
stack_alike (q ∷ s) hs ks h = cc (stack_alike s hs ks h.1)

stack_below : (s : List ℕ) (p : ℕ) (f : Held → Held) (hs : List Held) → AllLess s p
    → stack_of s (change p f hs) ≡ stack_of s hs
stack_below s p f hs h = stack_alike s (change p f hs) hs (all_of (λ q. Less q p) _ s (λ q l. key_below q p f hs l) h)

stack_ended : (s : List ℕ) (p : ℕ) (m : Mark) (hs : List Held) → stack_of s (change p (end_at m) hs) ≡ stack_of s hs
stack_ended s p m hs = stack_alike s (change p (end_at m) hs) hs (every s)
  where
    every : (t : List ℕ) → AllOf (λ q. key_in q (change p (end_at m) hs) ≡ key_in q hs) t
    every [] = tt
    every (q ∷ t) = (key_ended q p m hs, every t)

stack_append : (s : List ℕ) (hs r : List Held) → AllHas s hs → stack_of s (hs ++ r) ≡ stack_of s hs
stack_append s hs r h = stack_alike s (hs ++ r) hs (all_of (λ p. Has p hs) _ s (λ p k. key_append p hs r k) h)

pub nodes_append : (hs r : List Held) → nodes_in (hs ++ r) ≡ nodes_in hs ++ nodes_in r
nodes_append [] r = refl
nodes_append (h ∷ hs) r = ap (λ (l : List yaml_node_t). h.node ∷ l) (nodes_append hs r)

pub nodes_length : (hs : List Held) → length (nodes_in hs) ≡ length hs
nodes_length [] = refl
nodes_length (h ∷ hs) = ap (λ (n : ℕ). suc n) (nodes_length hs)

-- a child handed over: the nodes and the stack are those of what is built
hold_nodes : (p i : ℕ) (hs : List Held) → changed_at p (with_child (key_in p hs) (pos i)) (nodes_in hs) ≡ nodes_in
    (change p (hold i) hs)
hold_nodes p i [] = refl
hold_nodes zero i (h ∷ hs) = refl
hold_nodes (suc p) i (h ∷ hs) = ap (λ (l : List yaml_node_t). h.node ∷ l) (hold_nodes p i hs)

hold_key : (p i : ℕ) (hs : List Held) → key_after (key_in p hs) (pos i) (slice_get (nodes_in hs) p) ≡ key_in p
    (change p (hold i) hs)
hold_key p i [] = refl
hold_key zero i (h ∷ hs) = refl
hold_key (suc p) i (h ∷ hs) = hold_key p i hs

hand_built : (i : ℕ) (s : List ℕ) (hs : List Held) → hand (pos i) (stack_of s hs) (nodes_in hs) ≡ nodes_in (hold_top i s hs)
hand_built i s hs = grind (arith, hold_nodes)

handed_built : (i : ℕ) (s : List ℕ) (hs : List Held) → Falls s
    → handed (pos i) (stack_of s hs) (nodes_in hs) ≡ stack_of s (hold_top i s hs)
handed_built i s hs h = grind (arith, hold_key, stack_below)

end_nodes : (p : ℕ) (m : Mark) (hs : List Held)
    → changed_at p (with_end m) (nodes_in hs) ≡ nodes_in (change p (end_at m) hs)
end_nodes p m [] = refl
end_nodes zero m (h ∷ hs) = refl
end_nodes (suc p) m (h ∷ hs) = ap (λ (l : List yaml_node_t). h.node ∷ l) (end_nodes p m hs)

close_built : (m : Mark) (s : List ℕ) (hs : List Held)
    → closed_by m (stack_of s hs) (nodes_in hs) ≡ nodes_in (end_top m s hs)
close_built m s hs = grind (arith, end_nodes)

outer_built : (m : Mark) (s : List ℕ) (hs : List Held) → outer (stack_of s hs) ≡ stack_of (below s) (end_top m s hs)
outer_built m s hs = grind (arith, stack_ended)

-- what is built after the starts es of a document
pub record BuiltRight (es : List Start) (b : Built) : Type 0 where
  pub size : length b.held ≡ length es
  pub there : AllHas b.places b.held
  pub falls : Falls b.places

pub stands_unbuilt : BuiltRight [] unbuilt
stands_unbuilt = record { size = refl; there = tt; falls = tt }

below_falls : (s : List ℕ) → Falls s → Falls (below s)
below_falls s h = grind arith

pub build_stands : (p : Part) (es : List Start) (b : Built) → BuiltRight es b → BuiltRight (following p es) (build es p b)
build_stands (alias_part a m) es b s
    = record {
      size = length_hold (id_or (anchored_node a es)) b.places b.held ∙ s.size;
      there
          = all_hold b.places b.places (id_or (anchored_node a es)) b.held s.there;
      falls = s.falls;
    }
build_stands (leaf_part a x) es b s = grind (arith, length_hold, length_more, all_hold, all_append)
build_stands (start_part a x) es b s = record {
  size = length_hold (suc (length es)) b.places (b.held ++ bare x ∷ [])
      ∙ (length_more b.held (bare x) ∙ ap (λ (n : ℕ). suc n) s.size);
  there = all_hold (length b.held ∷ b.places) b.places (suc (length es)) (b.held ++ bare x ∷ []) (
    has_last b.held (bare x),
    all_append b.places b.held (bare x ∷ []) s.there,
  );
  falls = (all_less b.places b.held s.there, s.falls);
}
build_stands (end_part n) es b s
    = record {
      size = length_end n b.places b.held ∙ s.size;
      there = all_end n b.places b.held s.there;
      falls =
          below_falls b.places s.falls;
    }

-- the loader after each part
loader_same : (nodes ms : List yaml_node_t) (s t : List OpenNode) (xs : Anchors) → nodes ≡ ms → s ≡ t
    → ◌≡◌ {A = Loader} (record { nodes = nodes; stack = s; anchors = xs }) (record { nodes = ms; stack = t; anchors = xs })
loader_same nodes ms s t xs e h = grind arith

-- a node that is put after the others and handed to its parent, with what the stack is then
put_with : {A : Type 0} (f : ℤ → List OpenNode → List yaml_node_t → A) (x : yaml_node_t) (es : List Start) (b : Built)
    → BuiltRight es b
    → f (pos (suc (length (nodes_in b.held)))) (stack_of b.places b.held) (nodes_in b.held ++ x ∷ [])
    ≡ f (pos (suc (length es))) (stack_of b.places (b.held ++ bare x ∷ [])) (nodes_in (b.held ++ bare x ∷ []))
put_with f x es b s = grind (arith, nodes_length, stack_append, nodes_append)

put_nodes : (x : yaml_node_t) (es : List Start) (b : Built) → BuiltRight es b
    → hand (pos (suc (length (nodes_in b.held)))) (stack_of b.places b.held) (nodes_in b.held ++ x ∷ [])
    ≡ nodes_in (hold_top (suc (length es)) b.places (b.held ++ bare x ∷ []))
put_nodes x es b s = put_with hand x es b s ∙ hand_built (suc (length es)) b.places (b.held ++ bare x ∷ [])

put_stack : (x : yaml_node_t) (es : List Start) (b : Built) → BuiltRight es b
    → handed (pos (suc (length (nodes_in b.held)))) (stack_of b.places b.held) (nodes_in b.held ++ x ∷ [])
    ≡ stack_of b.places (hold_top (suc (length es)) b.places (b.held ++ bare x ∷ []))
put_stack x es b s = put_with handed x es b s ∙ handed_built (suc (length es)) b.places (b.held ++ bare x ∷ []) s.falls

new_key : (i : ℕ) (s : List ℕ) (hs : List Held) (x : yaml_node_t) → AllHas s hs
    → key_in (length hs) (hold_top i s (hs ++ bare x ∷ [])) ≡ None
new_key i s hs x h = grind (arith, key_last, key_above, has_less)

opened_stack : (x : yaml_node_t) (es : List Start) (b : Built) → BuiltRight es b
    → ◌≡◌ {A = List OpenNode} (record { node = pos (suc (length (nodes_in b.held))); key = None }
    ∷ handed (pos (suc (length (nodes_in b.held)))) (stack_of b.places b.held) (nodes_in b.held ++ x ∷ []))
    (stack_of (length b.held ∷ b.places) (hold_top (suc (length es)) b.places (b.held ++ bare x ∷ [])))
opened_stack x es b s = grind (arith, put_stack, nodes_length, new_key)

-- the map of anchors has the anchored nodes
abbrev pub Agrees : List Start → Anchors → Type 0
Agrees es xs = (a : List ℕ) → get xs a ≡ anchored_node a es

pub none_known : Agrees [] no_anchors
none_known a = get-from_entries nat_list_cmp_total [] a

-- with the anchor of a node of this id
abbrev pub with_anchor : Option (List ℕ) → ℕ → Mark → List Start → List ℕ → Option AnchoredNode
with_anchor b i m es a = elim (carries b a) [ true ↦ Some (record { id = i; mark = m }) | false ↦ anchored_node a es ]

abbrev Meets : Registered → (Anchors → Type 0) → Mark → Option Fault → Type 0
Meets (known k) P m f = f ≡ Some (repeated_anchor k m)
Meets (registered xs) P m f = (f ≡ None) × P xs

registers : (b : Option (List ℕ)) (i : ℕ) (m : Mark) (es : List Start) (xs : Anchors) → Agrees es xs
    → Meets (register b i m xs) (λ (ys : Anchors). (a : List ℕ) → get ys a ≡ with_anchor b i m es a) m (anchor_fault es b m)
registers None i m es xs h = (refl, h)
registers (Some b) i m es xs h = grind (arith, inserted)

-- What a part does: it fails as the composer does, or the loader goes on with what is built.
abbrev pub Follows : Loading → Option Fault → List Start → Built → Type 0
Follows (failed f) w es b = w ≡ Some f
Follows (going k) w es b = (w ≡ None) × ((ys : Anchors) × (k ≡ loader_of b ys) × Agrees es ys)

alias_follows : (a : List ℕ) (m : Mark) (es : List Start) (b : Built) (xs : Anchors) → BuiltRight es b → Agrees es xs
    → Follows (load_part (loader_of b xs) (alias_part a m)) (alias_fault (anchored_node a es) m) es (build es (alias_part a m) b)
alias_follows a m es b xs s h = go (get xs a) (h a)
  where
    go : (c : Option AnchoredNode) → c ≡ anchored_node a es
        → Follows (on_alias c m (loader_of b xs)) (alias_fault (anchored_node a es) m) es (build es (alias_part a m) b)
    go None e = ap (λ (c : Option AnchoredNode). alias_fault c m) (sym e)
    go (Some c) e = (
      ap (λ (d : Option AnchoredNode). alias_fault d m) (sym e),
      (
        xs,
        loader_same _ _ _ _ xs
            (hand_built c.id b.places b.held ∙ ap (λ (d : Option AnchoredNode). nodes_in (hold_top (id_or d) b.places b.held)) e)
            (handed_built c.id b.places b.held s.falls
            ∙ ap (λ (d : Option AnchoredNode). stack_of b.places (hold_top (id_or d) b.places b.held)) e),
        h,
      ),
    )

node_follows : (b : Option (List ℕ)) (x : yaml_node_t) (opens : List OpenNode) (es : List Start) (c d : Built)
    (xs : Anchors) → BuiltRight es c → Agrees es xs
    → hand (pos (suc (length (nodes_in c.held)))) (stack_of c.places c.held) (nodes_in c.held ++ x ∷ []) ≡ nodes_in d.held
    → opens ++ handed (pos (suc (length (nodes_in c.held)))) (stack_of c.places c.held) (nodes_in c.held ++ x ∷ [])
    ≡ stack_of d.places d.held
    → Follows (on_node (register b (suc (length (nodes_in c.held))) x.start_mark xs) x opens (loader_of c xs))
    (anchor_fault es b x.start_mark)
    (anchored_node_start b x ∷ es) d
node_follows b x opens es c d xs s h nodes stack = go (register b (suc (length (nodes_in c.held))) x.start_mark xs)
    (registers b (suc (length (nodes_in c.held))) x.start_mark es xs h)
  where
    go : (g : Registered) → Meets g (λ (ys : Anchors). (a : List ℕ)
        → get ys a ≡ with_anchor b (suc (length (nodes_in c.held))) x.start_mark es a) x.start_mark
        (anchor_fault es b x.start_mark)
        → Follows (on_node g x opens (loader_of c xs)) (anchor_fault es b x.start_mark) (anchored_node_start b x ∷ es) d
    go (known k) q = q
    go (registered ys) q = (
      q.0,
      (
        ys,
        loader_same _ _ _ _ ys nodes stack,
        λ a. q.1 a ∙ ap (λ (i : ℕ). with_anchor b (suc i) x.start_mark es a) (nodes_length c.held ∙ s.size),
      ),
    )

pub part_follows : (p : Part) (es : List Start) (b : Built) (xs : Anchors) → BuiltRight es b → Agrees es xs
    → Follows (load_part (loader_of b xs) p) (composer_part_fault es p) (following p es) (build es p b)
part_follows (alias_part a m) es b xs s h = alias_follows a m es b xs s h
part_follows (leaf_part a x) es b xs s h = grind (arith, node_follows, put_nodes, put_stack)
part_follows (start_part a x) es b xs s h = grind (arith, node_follows, put_nodes, opened_stack)
part_follows (end_part n) es b xs s h = search (arith, loader_same, close_built, outer_built)
