-- What nodes hold after an event they hold first before it.
use Rattle.std.proofs.Common.{◌≡◌, ◌≤◌, ◌<◌, ◌∷◌, ◌++◌, ◌∙◌, ◌⊎◌, ℕ, zero, suc, ℤ, pos, negsuc, List, [], length, Option, Bool, true, inl, inr, refl, sym, ap, subst, arith, slice_get, append_assoc, append-nil, length-append}
use Rattle.std.proofs.lemmas.Bool.{cases_order}
use Rattle.std.proofs.lemmas.Option.{slice_get_past}
use Rattle.std.specs.List.{AllByRecursion}
use Rattle.libyaml_grammar.specs.grammar.Tokens.{Mark}
use Rattle.libyaml_documents.specs.LoadedNodes.{with_end}
use Rattle.libyaml_documents.specs.Nodes.{changed_at, with_changed}
use Rattle.libyaml_documents.specs.declared.node.yaml_node_t.{yaml_node_t}
use Rattle.libyaml_graphs.specs.graphs.GraphParts.{Opening, Part}
use Rattle.libyaml_composer.specs.declared.deed.Deed.{Deed}
use Rattle.libyaml_composer.specs.declared.records.open_t.{open_t}
use Rattle.libyaml_composer.specs.declared.records.place_t.{place_t}
use Rattle.libyaml_composer.specs.Composing.{Composer, Told, deed_for, open_with_child, holding_top, new_id, place_in, waiting_in}
use Rattle.libyaml_composer.specs.DocumentSoFar.{DocumentSoFar, applied_part, nodes_made}
use Rattle.libyaml_composer.specs.Numbers.{is_id, is_set}
use Rattle.libyaml_composer.specs.Represents.{IsOpenNode, Opens, Represents}
use Rattle.libyaml_composer.proofs.exported.Opens.{get_among, get_there, length_changed, opens_more}
use Rattle.yaml_expansion.specs.Expansion.{ids_at, ids_of_node}
use Rattle.document_sizes.specs.Runs.{LosesNothing}
use Rattle.document_sizes.specs.RunLaws.{Continues, StartsWith, held_so_far, key_waiting}
use Rattle.document_sizes.proofs.Events.{child_nodes}
use Rattle.document_sizes.proofs.Holding.{after, closed_others, hands, same_ids}
use Rattle.document_sizes.proofs.Views.{View, alias, begins, closes, passes, scalar}

starts_less : (ids more all : List ℤ) → StartsWith (ids ++ more) all → StartsWith ids all
starts_less ids more all (rest, e) = (more ++ rest, e ∙ append_assoc ids more rest)

module _ (later : List yaml_node_t) where
  abbrev KeysOn : List yaml_node_t → List open_t → Type 0
  KeysOn nodes s = AllByRecursion (λ o. StartsWith (held_so_far nodes o) (ids_at later o.node)) s

  -- collections that no change reaches
  keys_same : (nodes changed : List yaml_node_t) (most m : ℕ) (s : List open_t) → Opens most nodes m s
      → ((j : ℕ) → j < m → slice_get changed j ≡ slice_get nodes j) → KeysOn changed s → KeysOn nodes s
  keys_same nodes changed most m [] h same k = tt
  keys_same nodes changed most m (p ∷ r) (j, at, lt, there, key, rest) same k = (
    subst (λ (l : List ℤ). StartsWith l (ids_at later p.node)) (held_same (same j lt)) k.0,
    keys_same nodes changed most j r rest (λ i l. same i (omega arith)) k.1,
  )
    where
      held_same : slice_get changed j ≡ slice_get nodes j → held_so_far changed p ≡ held_so_far nodes p
      held_same e = ap (λ (l : List ℤ). l ++ key_waiting (is_set p.is_mapping) (is_id p.key) p.key)
          (ap (λ (y : ℤ). ids_at changed y) at ∙ (ap ids_of_node e ∙ sym (ap (λ (y : ℤ). ids_at nodes y) at)))

  -- a child in the innermost open collection
  module _ (nodes : List yaml_node_t) (n i : ℤ) (some : is_id i ≡ true) (o : open_t) (s : List open_t) (most k : ℕ)
      (is : o.node ≡ pos (suc k)) (here : IsOpenNode (slice_get nodes k) o) (rest : Opens most nodes k s)
      (g : Continues (after nodes n i some o s) (open_with_child i o ∷ s) later) where
    top : StartsWith (held_so_far nodes o) (ids_at later o.node)
    top =
        let r = hands nodes n i some o s k most is here in
        starts_less (held_so_far nodes o) (i ∷ []) (ids_at later o.node)
        (subst (λ (l : List ℤ). StartsWith l (ids_at later o.node)) r.top
        (subst (λ (z : ℤ). StartsWith (held_so_far (after nodes n i some o s) (open_with_child i o)) (ids_at later z)) r.node g.holds_keys.0))

    same_place : (j : ℕ) → j ≡ k → StartsWith (ids_at nodes (pos (suc j))) (ids_at later (pos (suc j)))
    same_place j e = subst (λ (z : ℤ). StartsWith (ids_at nodes z) (ids_at later z)) (is ∙ ap (λ (q : ℕ). pos (suc q)) (sym e))
        (starts_less (ids_at nodes o.node) (key_waiting (is_set o.is_mapping) (is_id o.key) o.key) (ids_at later o.node) top)

    other_place : (j : ℕ) → (j ≡ k → ⊥) → StartsWith (ids_at nodes (pos (suc j))) (ids_at later (pos (suc j)))
    other_place j e =
        let r = hands nodes n i some o s k most is here in
        subst (λ (x : Option yaml_node_t). StartsWith (ids_of_node x) (ids_at later (pos (suc j)))) (r.others j e) (g.holds (pos (suc j)))

    holds_before : (id : ℤ) → StartsWith (ids_at nodes id) (ids_at later id)
    holds_before (pos zero) = g.holds (pos zero)
    holds_before (negsuc q) = g.holds (negsuc q)
    holds_before (pos (suc j)) = elim (cases_order j k) [
      | inl e ↦ same_place j e
      | inr other ↦ other_place j (apart other)
    ]
      where
        apart : (j < k) ⊎ (k < j) → j ≡ k → ⊥
        apart other e = elim other [ inl l ↦ omega arith | inr l ↦ omega arith ]

    child_before : Continues nodes (o ∷ s) later
    child_before =
        let r = hands nodes n i some o s k most is here in
        let a : length (after nodes n i some o s) ≤ length later = g.count in
        record {
          count = omega (arith, a, r.count);
          holds = holds_before;
          holds_keys = (top, keys_same nodes (after nodes n i some o s) most k s rest (λ q l. r.others q (λ e. omega arith)) g.holds_keys.1);
        }

  -- nodes after the others
  module _ (nodes more : List yaml_node_t) (most m : ℕ) (s : List open_t) (opens : Opens most nodes m s) (le : m ≤ length nodes)
      (g : Continues (nodes ++ more) s later) where
    fewer_hold : (id : ℤ) → StartsWith (ids_at nodes id) (ids_at later id)
    fewer_hold (pos zero) = g.holds (pos zero)
    fewer_hold (negsuc q) = g.holds (negsuc q)
    fewer_hold (pos (suc j)) = elim (cases_order j (length nodes)) [
      | inl e ↦ beyond (omega arith)
      | inr (inl l) ↦ subst (λ (x : Option yaml_node_t). StartsWith (ids_of_node x) (ids_at later (pos (suc j))))
          (get_among nodes more j l) (g.holds (pos (suc j)))
      | inr (inr l) ↦ beyond (omega arith)
    ]
      where
        beyond : length nodes ≤ j → StartsWith (ids_at nodes (pos (suc j))) (ids_at later (pos (suc j)))
        beyond past = subst (λ (x : Option yaml_node_t). StartsWith (ids_of_node x) (ids_at later (pos (suc j))))
            (sym (slice_get_past nodes j past)) (ids_at later (pos (suc j)), refl)

    fewer_before : Continues nodes s later
    fewer_before =
        let a : length (nodes ++ more) ≤ length later = g.count in
        record {
          count = omega (arith, a, length-append nodes more);
          holds = fewer_hold;
          holds_keys = keys_same nodes (nodes ++ more) most m s opens (λ j l. get_among nodes more j (omega arith)) g.holds_keys;
        }

  -- the end of the innermost open collection, in which no key waits
  module _ (nodes : List yaml_node_t) (most k : ℕ) (o : open_t) (s : List open_t) (is : o.node ≡ pos (suc k)) (rest : Opens most nodes k s)
      (waits : o.key ≡ pos 0) (m : Mark) (g : Continues (with_changed o.node (with_end m) nodes) s later) where
    abbrev closed : List yaml_node_t
    closed = with_changed o.node (with_end m) nodes

    closed_is : closed ≡ changed_at k (with_end m) nodes
    closed_is = ap (λ (z : ℤ). with_changed z (with_end m) nodes) is

    there : ids_of_node (slice_get closed k) ≡ ids_of_node (slice_get nodes k)
    there = ap (λ (l : List yaml_node_t). ids_of_node (slice_get l k)) closed_is
        ∙ (ap ids_of_node (get_there (with_end m) nodes k) ∙ same_ids m (slice_get nodes k))

    open_holds : (id : ℤ) → StartsWith (ids_at nodes id) (ids_at later id)
    open_holds (pos zero) = g.holds (pos zero)
    open_holds (negsuc q) = g.holds (negsuc q)
    open_holds (pos (suc j)) = subst (λ (l : List ℤ). StartsWith l (ids_at later (pos (suc j)))) (same j) (g.holds (pos (suc j)))
      where
        same : (j : ℕ) → ids_at closed (pos (suc j)) ≡ ids_at nodes (pos (suc j))
        same j = elim (cases_order j k) [
          | inl e ↦ ap (λ (q : ℕ). ids_of_node (slice_get closed q)) e ∙ (there ∙ sym (ap (λ (q : ℕ). ids_of_node (slice_get nodes q)) e))
          | inr (inl l) ↦ ap ids_of_node (closed_others nodes m o.node k is j (λ e. omega arith))
          | inr (inr l) ↦ ap ids_of_node (closed_others nodes m o.node k is j (λ e. omega arith))
        ]

    no_key : key_waiting (is_set o.is_mapping) (is_id o.key) o.key ≡ []
    no_key = grind arith

    closed_before : Continues nodes (o ∷ s) later
    closed_before =
        let a : length closed ≤ length later = g.count in
        let b : length closed ≡ length nodes = ap length closed_is ∙ length_changed k (with_end m) nodes in
        record {
          count = omega (arith, a, b);
          holds = open_holds;
          holds_keys = (
            subst (λ (l : List ℤ). StartsWith l (ids_at later o.node))
                (sym (ap (λ (l : List ℤ). ids_at nodes o.node ++ l) no_key ∙ append-nil (ids_at nodes o.node))) (open_holds o.node),
            keys_same nodes closed most k s rest (λ q l. closed_others nodes m o.node k is q (λ e. omega arith)) g.holds_keys,
          );
        }

  -- an event that the composer takes
  module _ (c : Composer) (h : DocumentSoFar) (opening : Opening) (stands : Represents c h opening) (q : Option Part) (start : Bool)
      (m : Mark) where
    abbrev OpensNow : List open_t → Type 0
    OpensNow s = Opens (length h.nodes) h.nodes (length h.nodes) s

    abbrev nodes_after : Deed → place_t → List yaml_node_t
    nodes_after d p = (applied_part d p q m h).nodes

    alias_before : (s : List open_t) (j : ℕ) → j < length h.nodes → OpensNow s → LosesNothing (deed_for s) c
        → Continues (nodes_after (deed_for s) (place_in (pos 0) (pos (suc j)) s)) (holding_top (pos (suc j)) s) later
        → Continues h.nodes s later
    alias_before [] j lt opens all g = let f : c.nodes ≡ 0 = all in let n : c.nodes ≡ length h.nodes = stands.nodes in absurd (omega arith)
    alias_before (o ∷ s) j lt (k, is, l, here, key, rest) all g =
        child_before h.nodes (pos 0) (pos (suc j)) refl o s (length h.nodes) k is here rest
        (subst (λ (l : List yaml_node_t). Continues l (holding_top (pos (suc j)) (o ∷ s)) later)
        (child_nodes (o ∷ s) (place_in (pos 0) (pos (suc j)) (o ∷ s)) q m h) g)

    abbrev grown : List yaml_node_t
    grown = h.nodes ++ nodes_made q

    node_before : (s : List open_t) → OpensNow s
        → Continues (nodes_after (deed_for s) (place_in (new_id c) (new_id c) s)) (holding_top (new_id c) s) later
        → Continues h.nodes s later
    node_before [] opens g = fewer_before h.nodes (nodes_made q) (length h.nodes) (length h.nodes) [] tt (omega arith)
        (subst (λ (l : List yaml_node_t). Continues l [] later) (child_nodes [] (place_in (new_id c) (new_id c) []) q m h) g)
    node_before (o ∷ s) (k, is, lt, here, key, rest) g =
        fewer_before h.nodes (nodes_made q) (length h.nodes) (length h.nodes) (o ∷ s) (k, is, lt, here, key, rest) (omega arith)
        (child_before grown (new_id c) (new_id c) refl o s (length h.nodes) k is
        (subst (λ (y : Option yaml_node_t). IsOpenNode y o) (sym (get_among h.nodes (nodes_made q) k lt)) here)
        (opens_more (length h.nodes) h.nodes (nodes_made q) k s (omega arith) rest)
        (subst (λ (l : List yaml_node_t). Continues l (holding_top (new_id c) (o ∷ s)) later)
        (child_nodes (o ∷ s) (place_in (new_id c) (new_id c) (o ∷ s)) q m h) g))

    pub before : (t : Told) → View c h q start t → LosesNothing t.deed c
        → Continues (nodes_after t.deed t.place) t.composer.stack later → Continues h.nodes c.stack later
    before t (alias j lt) all g = alias_before c.stack j lt stands.opens all g
    before t (scalar a x empty is starts) all g = node_before c.stack stands.opens g
    before t (begins a x kind empty is starts) all g = node_before c.stack stands.opens
        (record { count = g.count; holds = g.holds; holds_keys = g.holds_keys.1 })
    before t (closes o s end is) all g =
        let opens = subst OpensNow is stands.opens in
        subst (λ (l : List open_t). Continues h.nodes l later) (sym is)
        (closed_before h.nodes (length h.nodes) opens.0 o s opens.1 opens.5 (sym (ap waiting_in is) ∙ all) m g)
    before t (passes p) all g = g
