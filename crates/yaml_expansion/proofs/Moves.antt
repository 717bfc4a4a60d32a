-- A walk's moves: each keeps what its marks say, and leaves fewer steps.
use Rattle.std.proofs.Common.{◌≡◌, ℕ, zero, suc, ◌+◌, ◌-◌, ◌<◌, ◌≤◌, ℤ, pos, List, [], ◌∷◌, ◌++◌, length, get_or, set, take, replicate, Some, None, All, slice_get, refl, ap, sym, subst, arith, ◌∙◌, add-one}
use Rattle.std.proofs.Math.Seq.{take-suc}
use Rattle.std.proofs.lemmas.List.{length-set, length-replicate, take_all}
use Rattle.std.proofs.lemmas.List.Elements.{All-get_or}
use Rattle.std.proofs.lemmas.Option.{slice_get_within, get_or_from_slice_get, slice_get-get_or}
use Rattle.libyaml_documents.specs.declared.node.yaml_node_t.{yaml_node_t}
use Rattle.libyaml_documents.specs.Nodes.{ids_of, IsIdUpTo, EveryIdNamesANode}
use Rattle.yaml_expansion.specs.declared.size.Size.{Size}
use Rattle.yaml_expansion.specs.declared.walk.Mark.{Mark}
use Rattle.yaml_expansion.specs.declared.walk.Mark.TheVariants.{New, Open, Done}
use Rattle.yaml_expansion.specs.Expansion.{TreesHave, none, ids_at, ids_of_node, IsCyclicAt, HasExpandedSize}
use Rattle.yaml_expansion.specs.Sizes.{bounded}
use Rattle.yaml_expansion.specs.Walks.{IsRight, times, times_open, Walks, steps_left, work}
use Rattle.yaml_expansion.proofs.Trees.{together, of_one}
use Rattle.yaml_expansion.proofs.Walks.{at_set, marked_inside, once, not_at_all, times-push, way-push, way-pop, on_way, comes_back, held, work-set}

-- the ids of the node at a place
pub ids_here : (nodes : List yaml_node_t) (place : ℕ) (node : yaml_node_t) → place < length nodes → node ≡ get_or nodes place node
    → ids_at nodes (pos (suc place)) ≡ ids_of node.content
ids_here [] place node lt e = absurd (omega arith)
ids_here (x ∷ nodes) zero node lt e = ap (λ (y : yaml_node_t). ids_of y.content) (sym e)
ids_here (x ∷ nodes) (suc place) node lt e = ids_here nodes place node (omega arith) e

-- each of them names a node
pub ids_name : (nodes : List yaml_node_t) (place : ℕ) → EveryIdNamesANode nodes → place < length nodes
    → All (IsIdUpTo (length nodes)) (ids_at nodes (pos (suc place)))
ids_name [] place h lt = absurd (omega arith)
ids_name (x ∷ rest) place h lt =
    let nodes = x ∷ rest in
    let node = get_or nodes place x in
    let same : slice_get nodes place ≡ Some node = slice_get-get_or nodes place x lt in
    subst (All (IsIdUpTo (length nodes))) (sym (ap ids_of_node same))
    (All-get_or (λ (y : yaml_node_t). All (IsIdUpTo (length nodes)) (ids_of y.content)) nodes place x lt h)

pub id_names : (nodes : List yaml_node_t) (place number : ℕ) (id : ℤ) → EveryIdNamesANode nodes
    → slice_get (ids_at nodes (pos (suc place))) number ≡ Some id → place < length nodes → IsIdUpTo (length nodes) id
id_names nodes place number id h e lt =
    let ids = ids_at nodes (pos (suc place)) in
    subst (IsIdUpTo (length nodes)) (get_or_from_slice_get ids number id id e)
    (All-get_or (IsIdUpTo (length nodes)) ids number id (slice_get_within ids number id e) (ids_name nodes place h lt))

all_new : (n k : ℕ) → get_or (replicate n New) k New ≡ New
all_new zero k = refl
all_new (suc n) zero = refl
all_new (suc n) (suc k) = all_new n k

slice_get_end : (ids : List ℤ) (n : ℕ) → slice_get ids n ≡ None → length ids ≤ n
slice_get_end [] n e = omega arith
slice_get_end (x ∷ ids) zero e = absurd (cc)
slice_get_end (x ∷ ids) (suc n) e = let r = slice_get_end ids n e in omega (arith, r)

pub root_tree : (nodes : List yaml_node_t) (n place : ℕ) → place < length nodes → TreesHave nodes (pos 1 ∷ []) n → HasExpandedSize nodes n
root_tree [] n place lt t = absurd (omega arith)
root_tree (x ∷ nodes) n place lt t = t

pub nothing_in : (xs : List ℕ) → length xs ≡ 0 → xs ≡ []
nothing_in [] e = refl
nothing_in (x ∷ xs) e = absurd (omega (arith, e))

-- the mark of the node that a walk is at
at_most_one : (mark : Mark) → times_open mark ≤ 1
at_most_one mark = grind arith

pub open_here : (nodes : List yaml_node_t) (max : ℕ) (marks : List Mark) (above : List ℕ) (place : ℕ) → Walks nodes max marks above place
    → times_open (get_or marks place New) ≡ 1
open_here nodes max marks above place w =
    let p = times-push place above place in
    let y = once place in
    let o = w.opened place in
    let m = at_most_one (get_or marks place New) in
    omega (arith, p, y, o, m)

module _ (nodes : List yaml_node_t) (max : ℕ) where
  pub begins : (marks : List Mark) (above : List ℕ) (size : Size) → marks ≡ replicate (length nodes) New → above ≡ []
      → 0 < length nodes → size ≡ bounded max 1 → Walks nodes max (set marks 0 (Open 0 size)) above 0
  begins marks above size is root some s =
      let n = length nodes in
      let within : 0 < length (replicate n New) = omega (arith, length-replicate n New) in
      subst (λ (l : List Mark). Walks nodes max (set l 0 (Open 0 size)) above 0) (sym is)
      (subst (λ (a : List ℕ). Walks nodes max (set (replicate n New) 0 (Open 0 size)) a 0) (sym root) (record {
        count = length-set (replicate n New) 0 (Open 0 size) ∙ length-replicate n New;
        inside = some;
        right = at_set (IsRight nodes max) (replicate n New) 0 (Open 0 size) within
            (λ k ne. subst (IsRight nodes max k) (sym (all_new n k)) tt)
            (0, none, s, omega arith);
        way = refl;
        opened = at_set (λ (k : ℕ) (m : Mark). times k (0 ∷ []) ≡ times_open m) (replicate n New) 0 (Open 0 size) within
            (λ k ne.
            let z = not_at_all 0 k ne in
            let u : times_open (get_or (replicate n New) k New) ≡ 0 = ap times_open (all_new n k) in
            omega (arith, z, u))
            (let y = once 0 in omega (arith, y));
      }))

  pub descends : (marks : List Mark) (above : List ℕ) (place c number : ℕ) (size : Size) → Walks nodes max marks above place
      → slice_get (ids_at nodes (pos (suc place))) number ≡ Some (pos (suc c)) → c < length nodes → get_or marks c New ≡ New
      → size ≡ bounded max 1 → Walks nodes max (set marks c (Open 0 size)) (above ++ place ∷ []) c
  descends marks above place c number size w child lt unseen s =
      let line = above ++ place ∷ [] in
      let within : c < length marks = omega (arith, w.count) in
      record {
        count = length-set marks c (Open 0 size) ∙ w.count;
        inside = lt;
        right = at_set (IsRight nodes max) marks c (Open 0 size) within (λ k ne. w.right k) (0, none, s, omega arith);
        way = way-push nodes above place c w.way (held nodes (pos (suc place)) (pos (suc c)) number child);
        opened = at_set (λ (k : ℕ) (m : Mark). times k (line ++ c ∷ []) ≡ times_open m) marks c (Open 0 size) within
            (λ k ne.
            let p = times-push k line c in
            let z = not_at_all c k ne in
            let o = w.opened k in
            omega (arith, p, z, o))
            (let p = times-push c line c in
            let y = once c in
            let o = w.opened c in
            let u : times_open (get_or marks c New) ≡ 0 = ap times_open unseen in
            omega (arith, p, y, o, u));
      }

  pub moved : (marks now : List Mark) (above down : List ℕ) (place to : ℕ) → now ≡ marks → down ≡ above → to ≡ place
      → Walks nodes max marks above place → Walks nodes max now down to
  moved marks now above down place to m a p w = rw (m, a, p) w

  pub advances : (marks : List Mark) (above : List ℕ) (place c next : ℕ) (size below sum : Size) → Walks nodes max marks above place
      → get_or marks place New ≡ Open next size → slice_get (ids_at nodes (pos (suc place))) next ≡ Some (pos (suc c))
      → get_or marks c New ≡ Done below
      → ((m n : ℕ) → size ≡ bounded max m → below ≡ bounded max n → sum ≡ bounded max (m + n))
      → Walks nodes max (set marks place (Open (next + 1) sum)) above place
  advances marks above place c next size below sum w this child that add =
      let ids = ids_at nodes (pos (suc place)) in
      let within : place < length marks = omega (arith, w.count, w.inside) in
      let mine = subst (IsRight nodes max place) this (w.right place) in
      let its = subst (IsRight nodes max c) that (w.right c) in
      let lt : next < length ids = slice_get_within ids next (pos (suc c)) child in
      let more : take (next + 1) ids ≡ take next ids ++ pos (suc c) ∷ [] =
      rw add-one (take-suc ids next (pos (suc c)) lt
      ∙ ap (λ (x : ℤ). take next ids ++ x ∷ []) (get_or_from_slice_get ids next (pos (suc c)) (pos (suc c)) child)) in
      record {
        count = length-set marks place (Open (next + 1) sum) ∙ w.count;
        inside = w.inside;
        right = at_set (IsRight nodes max) marks place (Open (next + 1) sum) within (λ k ne. w.right k) (
          mine.0 + its.0,
          subst (λ (l : List ℤ). TreesHave nodes l (mine.0 + its.0)) (sym more)
              (together nodes (take next ids) (pos (suc c) ∷ []) mine.0 its.0 mine.1 its.1),
          add (suc mine.0) its.0 mine.2 its.2 ∙ ap (bounded max) (omega arith),
          omega (arith, lt),
        );
        way = w.way;
        opened = at_set (λ (k : ℕ) (m : Mark). times k (above ++ place ∷ []) ≡ times_open m) marks place (Open (next + 1) sum) within
            (λ k ne. w.opened k) (w.opened place ∙ ap times_open this);
      }

  -- the tree of a node whose ids are all measured
  measured : (marks : List Mark) (above : List ℕ) (place next : ℕ) (size : Size) → Walks nodes max marks above place
      → get_or marks place New ≡ Open next size → slice_get (ids_at nodes (pos (suc place))) next ≡ None
      → (n : ℕ) × TreesHave nodes (pos (suc place) ∷ []) n × (size ≡ bounded max n)
  measured marks above place next size w this end =
      let ids = ids_at nodes (pos (suc place)) in
      let mine = subst (IsRight nodes max place) this (w.right place) in
      let all : take next ids ≡ ids = take_all next ids (slice_get_end ids next end) in (
        suc mine.0,
        of_one nodes (pos (suc place)) mine.0 (subst (λ (l : List ℤ). TreesHave nodes l mine.0) all mine.1),
        mine.2,
      )

  pub leaves : (marks : List Mark) (front : List ℕ) (p place next : ℕ) (size : Size)
      → Walks nodes max marks (front ++ p ∷ []) place
      → get_or marks place New ≡ Open next size → slice_get (ids_at nodes (pos (suc place))) next ≡ None
      → Walks nodes max (set marks place (Done size)) front p
  leaves marks front p place next size w this end =
      let within : place < length marks = omega (arith, w.count, w.inside) in
      let now = set marks place (Done size) in
      let opened : (k : ℕ) → times k (front ++ p ∷ []) ≡ times_open (get_or now k New) =
      at_set (λ (k : ℕ) (m : Mark). times k (front ++ p ∷ []) ≡ times_open m) marks place (Done size) within
      (λ k ne.
      let q = times-push k (front ++ p ∷ []) place in
      let z = not_at_all place k ne in
      let o = w.opened k in
      omega (arith, q, z, o))
      (let q = times-push place (front ++ p ∷ []) place in
      let y = once place in
      let o = w.opened place in
      let u : times_open (get_or marks place New) ≡ 1 = ap times_open this in
      omega (arith, q, y, o, u)) in
      let here_p : 0 < times_open (get_or now p New) =
      (let q = times-push p front p in
      let y = once p in
      let o = opened p in
      omega (arith, q, y, o)) in
      let inside = marked_inside now p here_p in
      record {
        count = length-set marks place (Done size) ∙ w.count;
        inside = omega (arith, inside, w.count, length-set marks place (Done size));
        right = at_set (IsRight nodes max) marks place (Done size) within (λ k ne. w.right k)
            (measured marks (front ++ p ∷ []) place next size w this end);
        way = way-pop nodes front p place w.way;
        opened = opened;
      }

  pub ends : (marks : List Mark) (place next : ℕ) (size : Size) → Walks nodes max marks [] place
      → get_or marks place New ≡ Open next size → slice_get (ids_at nodes (pos (suc place))) next ≡ None
      → (n : ℕ) × HasExpandedSize nodes n × (size ≡ bounded max n)
  ends marks place next size w this end =
      let r = measured marks [] place next size w this end in
      (r.0, root_tree nodes r.0 place w.inside (subst (λ (x : ℕ). TreesHave nodes (pos (suc x) ∷ []) r.0) w.way r.1), r.2)

  pub cycles : (marks : List Mark) (above : List ℕ) (place c number next : ℕ) (size : Size) → Walks nodes max marks above place
      → slice_get (ids_at nodes (pos (suc place))) number ≡ Some (pos (suc c)) → get_or marks c New ≡ Open next size
      → IsCyclicAt nodes (pos (suc c))
  cycles marks above place c number next size w child that =
      let o = w.opened c in
      let u : times_open (get_or marks c New) ≡ 1 = ap times_open that in
      let way = on_way nodes c above place w.way (omega (arith, o, u)) in (
        (omega (arith, w.inside), way.0),
        comes_back nodes (pos (suc c)) (pos (suc place)) way.1 (held nodes (pos (suc place)) (pos (suc c)) number child),
      )

  -- the steps that are left after each
  fewer : (marks : List Mark) (above : List ℕ) (place k : ℕ) (mark : Mark) → Walks nodes max marks above place → k < length nodes
      → steps_left (length (ids_at nodes (pos (suc k)))) mark < steps_left (length (ids_at nodes (pos (suc k)))) (get_or marks k New)
      → work nodes (set marks k mark) < work nodes marks
  fewer marks above place k mark w lt less =
      let e = work-set nodes marks k mark w.count lt in
      omega (arith, e, less)

  pub fewer_below : (marks : List Mark) (above : List ℕ) (place c : ℕ) (size : Size) → Walks nodes max marks above place
      → c < length nodes → get_or marks c New ≡ New → work nodes (set marks c (Open 0 size)) < work nodes marks
  fewer_below marks above place c size w lt unseen =
      fewer marks above place c (Open 0 size) w lt
      (let u : steps_left (length (ids_at nodes (pos (suc c)))) (get_or marks c New) ≡ length (ids_at nodes (pos (suc c))) + 2 =
      ap (steps_left (length (ids_at nodes (pos (suc c))))) unseen in
      omega (arith, u))

  pub fewer_here : (marks : List Mark) (above : List ℕ) (place next : ℕ) (size sum : Size) (id : ℤ) → Walks nodes max marks above place
      → get_or marks place New ≡ Open next size → slice_get (ids_at nodes (pos (suc place))) next ≡ Some id
      → work nodes (set marks place (Open (next + 1) sum)) < work nodes marks
  fewer_here marks above place next size sum id w this child =
      fewer marks above place place (Open (next + 1) sum) w w.inside
      (let ids = ids_at nodes (pos (suc place)) in
      let lt = slice_get_within ids next id child in
      let u : steps_left (length ids) (get_or marks place New) ≡ length ids + 1 - next = ap (steps_left (length ids)) this in
      omega (arith, u, lt))

  pub fewer_left : (marks : List Mark) (above : List ℕ) (place next : ℕ) (size sum : Size) → Walks nodes max marks above place
      → get_or marks place New ≡ Open next size → work nodes (set marks place (Done sum)) < work nodes marks
  fewer_left marks above place next size sum w this =
      fewer marks above place place (Done sum) w w.inside
      (let ids = ids_at nodes (pos (suc place)) in
      let mine = subst (IsRight nodes max place) this (w.right place) in
      let u : steps_left (length ids) (get_or marks place New) ≡ length ids + 1 - next = ap (steps_left (length ids)) this in
      omega (arith, u, mine.3))
