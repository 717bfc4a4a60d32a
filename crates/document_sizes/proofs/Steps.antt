-- What an event does to the nodes and the stack keeps the numbers those of the trees.
use Rattle.std.proofs.Common.{◌≡◌, ◌+◌, ◌-◌, ◌<◌, ◌≤◌, ◌∷◌, ◌++◌, ◌∙◌, ℕ, suc, ℤ, pos, List, [], length, map, Option, Some, refl, sym, ap, subst, arith, slice_get, append-nil, length-append}
use Rattle.libyaml_grammar.specs.grammar.Tokens.{Mark}
use Rattle.libyaml_documents.specs.LoadedNodes.{with_end}
use Rattle.libyaml_documents.specs.Nodes.{changed_at, ids_of, with_changed}
use Rattle.libyaml_documents.specs.declared.node.yaml_node_t.{yaml_node_t}
use Rattle.libyaml_composer.specs.declared.records.open_t.{open_t}
use Rattle.libyaml_composer.specs.Composing.{deed_for, open_with_child, holding_top, place_in}
use Rattle.libyaml_composer.specs.DocumentSoFar.{placed}
use Rattle.libyaml_composer.specs.Represents.{IsKeyIn, IsOpenNode, Opens}
use Rattle.yaml_expansion.specs.Expansion.{ids_at, ids_of_node}
use Rattle.document_sizes.specs.RunLaws.{held_so_far}
use Rattle.document_sizes.proofs.Trees.{State, Opened, Keeps, Says, with_child, new_at, says_alias, says_scalar, says_root, says_open, says_root_open, says_closed}
use Rattle.libyaml_composer.proofs.exported.Opens.{get_among, get_last, get_there, length_changed}
use Rattle.document_sizes.proofs.Holding.{Hands, after, closed_others, hands, index_of, opened_of, opened_same, same_ids, top_after}

abbrev pub state_of : List yaml_node_t → (ℕ → Option ℕ) → State
state_of nodes g = record { held = ids_at nodes; size = g; nodes = length nodes }

two : {x y : Opened} {xs ys : List Opened} → x ≡ y → xs ≡ ys → x ∷ xs ≡ y ∷ ys
two e f = cc

-- the open collections after an alias
pub alias_opened : (most n : ℕ) (nodes : List yaml_node_t) (o : open_t) (s : List open_t) (j : ℕ) → Opens most nodes n (o ∷ s)
    → map (opened_of (placed (deed_for (o ∷ s)) (place_in (pos 0) (pos (suc j)) (o ∷ s)) nodes)) (holding_top (pos (suc j)) (o ∷ s))
    ≡ with_child (opened_of nodes o) (pos (suc j)) ∷ map (opened_of nodes) s
alias_opened most n nodes o s j (k, is, lt, here, key, rest) =
    let r = hands nodes (pos 0) (pos (suc j)) refl o s k most is here in
    two (top_after nodes (pos 0) (pos (suc j)) refl o s k most is here)
    (opened_same most nodes (after nodes (pos 0) (pos (suc j)) refl o s) k s rest (λ q l. r.others q (λ e. omega arith)))

module _ (limit : ℕ) where
  abbrev pub SaysOf : List yaml_node_t → List open_t → (ℕ → Option ℕ) → ℕ → Type 0
  SaysOf nodes s g total = Says limit (state_of nodes g) (map (opened_of nodes) s) total

  keeps_by : (nodes later : List yaml_node_t) (g g' : ℕ → Option ℕ) → length nodes ≤ length later
      → ((j : ℕ) → j < length nodes → (size : ℕ) → g j ≡ Some size → size < limit → g' j ≡ g j)
      → ((j size : ℕ) → j < length nodes → g j ≡ Some size → size < limit → slice_get later j ≡ slice_get nodes j)
      → Keeps limit (state_of nodes g) (state_of later g')
  keeps_by nodes later g g' le sizes same id h = grind arith

  -- an open node is none that has ended
  apart : (g : ℕ → Option ℕ) (j k size before : ℕ) → g j ≡ Some size → size < limit → g k ≡ Some (limit + before) → j ≡ k → ⊥
  apart g j k size before at small at_open is = grind arith

  pub start_of : (nodes : List yaml_node_t) (g : ℕ → Option ℕ) (o : open_t) (s : List open_t) (total k : ℕ) → o.node ≡ pos (suc k)
      → SaysOf nodes (o ∷ s) g total → (before : ℕ) × (g k ≡ Some (limit + before))
  start_of nodes g o s total k is h = grind arith

  -- an alias
  pub alias_says : (most n : ℕ) (nodes : List yaml_node_t) (o : open_t) (s : List open_t) (g : ℕ → Option ℕ) (total j size : ℕ)
      → Opens most nodes n (o ∷ s) → j < length nodes → g j ≡ Some size → size < limit → SaysOf nodes (o ∷ s) g total
      → SaysOf (placed (deed_for (o ∷ s)) (place_in (pos 0) (pos (suc j)) (o ∷ s)) nodes) (holding_top (pos (suc j)) (o ∷ s)) g
      (total + size)
  alias_says most n nodes o s g total j size (k, is, lt, here, key, rest) there at small h =
      let i : ℤ = pos (suc j) in
      let r = hands nodes (pos 0) i refl o s k most is here in
      let start = start_of nodes g o s total k is h in
      let keeps : Keeps limit (state_of nodes g) (state_of (after nodes (pos 0) i refl o s) g)
      = keeps_by nodes (after nodes (pos 0) i refl o s) g g (omega (arith, r.count)) (λ q l z e m. refl)
      (λ q z l e m. r.others q (apart g q k z start.0 e m start.1)) in
      subst (λ (l : List Opened). Says limit (state_of (after nodes (pos 0) i refl o s) g) l (total + size))
      (sym (alias_opened most n nodes o s j (k, is, lt, here, key, rest)))
      (says_alias limit (state_of nodes g) (state_of (after nodes (pos 0) i refl o s) g) keeps (λ q. refl) r.count
      (opened_of nodes o) (map (opened_of nodes) s) total j size there at small h)

  -- a node after the others, without children
  module _ (nodes : List yaml_node_t) (x : yaml_node_t) (empty : ids_of x.content ≡ []) (g g' : ℕ → Option ℕ)
      (sizes : (j : ℕ) → j < length nodes → g' j ≡ g j) (total : ℕ) where
    abbrev id : ℤ
    id = pos (suc (length nodes))

    abbrev grown : List yaml_node_t
    grown = nodes ++ x ∷ []

    longer : length grown ≡ suc (length nodes)
    longer = omega (arith, length-append nodes (x ∷ []))

    no_ids : (l : List yaml_node_t) → slice_get l (length nodes) ≡ slice_get grown (length nodes) → ids_at l id ≡ []
    no_ids l e = ap ids_of_node (e ∙ get_last nodes x) ∙ empty

    new_same : (l : List yaml_node_t) → ids_at l id ≡ [] → (m : ℕ)
        → opened_of l (record { node = id; key = pos 0; children = 0; is_mapping = m }) ≡ new_at (length nodes)
    new_same l e m = grind arith

    -- the root
    none_before : length nodes ≡ 0 → SaysOf nodes [] g total → total ≡ 0
    none_before no_nodes h = grind arith

    root_keeps : Keeps limit (state_of nodes g) (state_of grown g')
    root_keeps = keeps_by nodes grown g g' (omega (arith, longer)) (λ q l z e m. sizes q l) (λ q z l e m. get_among nodes (x ∷ []) q l)

    pub root_says : 1 < limit → g' (length nodes) ≡ Some 1 → length nodes ≡ 0 → SaysOf nodes [] g total → SaysOf grown [] g' (total + 1)
    root_says one at no_nodes h = says_root limit (state_of nodes g) (state_of grown g') root_keeps sizes longer one at (no_ids grown refl)
        total no_nodes (none_before no_nodes h) h

    -- a child
    module _ (most k : ℕ) (o : open_t) (s : List open_t) (is : o.node ≡ pos (suc k)) (lt : k < length nodes)
        (here : IsOpenNode (slice_get nodes k) o) (key : IsKeyIn most o.key) (rest : Opens most nodes k s) (h : SaysOf nodes (o ∷ s) g total) where
      here_grown : IsOpenNode (slice_get grown k) o
      here_grown = subst (λ (y : Option yaml_node_t). IsOpenNode y o) (sym (get_among nodes (x ∷ []) k lt)) here

      abbrev later : List yaml_node_t
      later = after grown id id refl o s

      r : Hands grown id id refl o s k most is here_grown later (open_with_child id o)
      r = hands grown id id refl o s k most is here_grown

      count : length later ≡ suc (length nodes)
      count = let e = r.count in omega (arith, e, longer)

      others : (q : ℕ) → q < length nodes → (q ≡ k → ⊥) → slice_get later q ≡ slice_get nodes q
      others q l e = r.others q e ∙ get_among nodes (x ∷ []) q l

      new_empty : ids_at later id ≡ []
      new_empty = no_ids later (r.others (length nodes) (λ e. omega arith))

      child_keeps : Keeps limit (state_of nodes g) (state_of later g')
      child_keeps = grind (arith, start_of, keeps_by, count, others, apart)

      top_same : opened_of later (open_with_child id o) ≡ with_child (opened_of nodes o) id
      top_same = top_after grown id id refl o s k most is here_grown
          ∙ ap (λ (p : Opened). with_child p id) (one_same (opened_same most nodes grown (suc k) (o ∷ [])
          (k, is, omega arith, here, key, tt) (λ q l. get_among nodes (x ∷ []) q (omega arith))))
        where
          one_same : {a b : Opened} → a ∷ [] ≡ b ∷ [] → a ≡ b
          one_same e = cc

      rest_same : map (opened_of later) s ≡ map (opened_of nodes) s
      rest_same = opened_same most nodes later k s rest (λ q l. others q (omega arith) (λ e. omega arith))

      pub scalar_says : 1 < limit → g' (length nodes) ≡ Some 1 → SaysOf later (holding_top id (o ∷ s)) g' (total + 1)
      scalar_says one at = subst (λ (l : List Opened). Says limit (state_of later g') l (total + 1)) (sym (two top_same rest_same))
          (says_scalar limit (state_of nodes g) (state_of later g') child_keeps sizes count one at new_empty
          (opened_of nodes o) (map (opened_of nodes) s) total h)

      pub open_says : (m : ℕ) → g' (length nodes) ≡ Some (limit + total)
          → SaysOf later (record { node = id; key = pos 0; children = 0; is_mapping = m } ∷ holding_top id (o ∷ s)) g' (total + 1)
      open_says m at = subst (λ (l : List Opened). Says limit (state_of later g') l (total + 1))
          (sym (two (new_same later new_empty m) (two top_same rest_same)))
          (says_open limit (state_of nodes g) (state_of later g') child_keeps sizes count total at
          (opened_of nodes o) (map (opened_of nodes) s) h)

    pub root_open_says : (m : ℕ) → g' (length nodes) ≡ Some (limit + total) → length nodes ≡ 0 → SaysOf nodes [] g total
        → SaysOf grown (record { node = id; key = pos 0; children = 0; is_mapping = m } ∷ []) g' (total + 1)
    root_open_says m at no_nodes h = subst (λ (l : List Opened). Says limit (state_of grown g') l (total + 1))
        (sym (two (new_same grown (no_ids grown refl) m) refl))
        (says_root_open limit (state_of nodes g) (state_of grown g') root_keeps sizes longer total at no_nodes (none_before no_nodes h) h)

  -- the end of the innermost open collection
  module _ (nodes : List yaml_node_t) (g g' : ℕ → Option ℕ) (total before : ℕ) (most k : ℕ) (o : open_t) (s : List open_t)
      (is : o.node ≡ pos (suc k)) (lt : k < length nodes) (rest : Opens most nodes k s) (waits : o.key ≡ pos 0)
      (sizes : (j : ℕ) → (j ≡ k → ⊥) → g' j ≡ g j) (at : g k ≡ Some (limit + before)) (new : g' k ≡ Some (total - before))
      (small : total - before < limit) (m : Mark) where
    abbrev closed : List yaml_node_t
    closed = with_changed o.node (with_end m) nodes

    closed_is : closed ≡ changed_at k (with_end m) nodes
    closed_is = ap (λ (z : ℤ). with_changed z (with_end m) nodes) is

    closed_count : length closed ≡ length nodes
    closed_count = ap length closed_is ∙ length_changed k (with_end m) nodes

    holds : ids_at closed (pos (suc k)) ≡ held_so_far nodes o
    holds = grind (arith, closed_is, get_there, same_ids, append-nil)

    pub closed_says : SaysOf nodes (o ∷ s) g total → SaysOf closed s g' total
    closed_says h =
        let place : index_of o.node ≡ k = ap index_of is in
        subst (λ (l : List Opened). Says limit (state_of closed g') l total)
        (sym (opened_same most nodes closed k s rest (λ q l. closed_others nodes m o.node k is q (λ e. omega arith))))
        (says_closed limit (state_of nodes g) (state_of closed g')
        (keeps_by nodes closed g g' (omega (arith, closed_count)) (λ q l z e m. sizes q (apart g q k z before e m at))
        (λ q z l e w. closed_others nodes m o.node k is q (apart g q k z before e w at)))
        closed_count (opened_of nodes o) (map (opened_of nodes) s) total before
        (λ j e. sizes j (λ f. e (f ∙ sym place)))
        (ap (λ (q : ℕ). ids_at closed (pos (suc q))) place ∙ holds)
        (ap g place ∙ at) (ap g' place ∙ new) small h)
