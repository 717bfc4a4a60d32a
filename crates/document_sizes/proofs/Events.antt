-- What an event that is counted makes of the numbers.
use Rattle.std.proofs.Common.{◌≡◌, ◌+◌, ◌-◌, ◌<◌, ◌≤◌, ◌∷◌, ◌++◌, ◌∙◌, ℕ, suc, ℤ, pos, List, [], length, Option, Some, Bool, true, false, refl, sym, ap, subst, arith, slice_get, if◌then◌else◌, ◌==◌, eq-eqb}
use Rattle.std.specs.Prelude.{slice_set}
use Rattle.libyaml_grammar.specs.grammar.Tokens.{Mark}
use Rattle.libyaml_documents.specs.Nodes.{ids_of}
use Rattle.libyaml_documents.specs.declared.node.yaml_node_t.{yaml_node_t}
use Rattle.libyaml_graphs.specs.graphs.GraphParts.{Part}
use Rattle.libyaml_composer.specs.declared.deed.Deed.{Deed}
use Rattle.libyaml_composer.specs.declared.deed.Deed.TheVariants as deed
use Rattle.libyaml_composer.specs.declared.records.open_t.{open_t}
use Rattle.libyaml_composer.specs.declared.records.place_t.{place_t}
use Rattle.libyaml_composer.specs.Composing.{Composer, deed_for, holding_top, place_in}
use Rattle.libyaml_composer.specs.Numbers.{is_id}
use Rattle.libyaml_composer.specs.DocumentSoFar.{DocumentSoFar, applied_part, nodes_made, placed, with_made_node}
use Rattle.libyaml_composer.specs.Represents.{Opens}
use Rattle.libyaml_composer.proofs.exported.Deeds.{child_applied, child_put}
use Rattle.document_sizes.specs.declared.counted.Counted.{Counted}
use Rattle.document_sizes.specs.declared.counted.Counted.TheVariants as counted
use Rattle.document_sizes.specs.Counting.{at_child, bound_of, count_of, counting, new_number, size_at}
use Rattle.document_sizes.specs.Runs.{LosesNothing}
use Rattle.document_sizes.proofs.Inverse.{limit, alias_within, alias_large, node_within, set_there, set_other, set_count, size_there}
use Rattle.document_sizes.proofs.Steps.{SaysOf, alias_says, closed_says, open_says, root_open_says, root_says, scalar_says, start_of}

pub bound_small : (max : ℕ) → bound_of max < limit
bound_small max = omega arith

-- a child, by what is around it
pub child_nodes : (s : List open_t) (p : place_t) (q : Option Part) (m : Mark) (h : DocumentSoFar)
    → (applied_part (deed_for s) p q m h).nodes ≡ placed (deed_for s) p (with_made_node (is_id p.node) p.node q h).nodes
child_nodes s p q m h = ap (λ (g : DocumentSoFar). g.nodes) (sym (child_applied (deed_for s) (child_put s) p q m h))

pub counting_child : (s : List open_t) (max : ℕ) (start : Bool) (p : place_t) (total : ℕ) (sizes : List ℕ)
    → counting max (deed_for s) start p total sizes ≡ at_child max (is_id p.node) start p total sizes
counting_child s max start p total sizes = grind arith

abbrev pub get_in : List ℕ → ℕ → Option ℕ
get_in sizes k = slice_get sizes k

says_moved : (nodes nodes' : List yaml_node_t) (s : List open_t) (g : ℕ → Option ℕ) (total total' : ℕ) → nodes' ≡ nodes
    → total' ≡ total → SaysOf limit nodes s g total → SaysOf limit nodes' s g total'
says_moved nodes nodes' s g total total' e f h = grind arith

-- a number beside those that there are
pub beside : (ℕ → Option ℕ) → (k size : ℕ) → ℕ → Option ℕ
beside g k size j = if j == k then Some size else g j

beside_there : (g : ℕ → Option ℕ) (k size : ℕ) → beside g k size k ≡ Some size
unfolding beside
beside_there g k size = ap (λ (b : Bool). if b then Some size else g k) (eq-eqb k k refl)

beside_other : (g : ℕ → Option ℕ) (k size j : ℕ) → j < k → beside g k size j ≡ g j
unfolding beside
beside_other g k size j lt = grind arith

module _ (max : ℕ) (c : Composer) (h : DocumentSoFar) (total : ℕ) (sizes : List ℕ) (q : Option Part) (start : Bool) (m : Mark)
    (count : c.nodes ≡ length h.nodes) (room : c.nodes ≤ length sizes) (bound : total ≤ bound_of max) where
  abbrev pub OpensNow : List open_t → Type 0
  OpensNow s = Opens (length h.nodes) h.nodes (length h.nodes) s

  abbrev pub SaysNow : List open_t → Type 0
  SaysNow s = SaysOf limit h.nodes s (get_in sizes) total

  -- what holds after an event that was counted
  abbrev pub Next : List yaml_node_t → List open_t → (nodes : ℕ) → ℕ → List ℕ → Type 0
  Next nodes s n total' sizes' = (n ≤ length sizes') × (total' ≤ bound_of max) × SaysOf limit nodes s (get_in sizes') total'

  -- and after one that makes the tree too large
  abbrev pub Larger : List yaml_node_t → List open_t → Type 0
  Larger nodes s = (g : ℕ → Option ℕ) × (total' : ℕ) × SaysOf limit nodes s g total' × (bound_of max < total')

  abbrev pub nodes_after : Deed → place_t → List yaml_node_t
  nodes_after d p = (applied_part d p q m h).nodes

  abbrev pub aliased : List open_t → ℕ → place_t
  aliased s j = place_in (pos 0) (pos (suc j)) s

  -- an alias
  pub alias_next : (s : List open_t) (j total' : ℕ) (sizes' : List ℕ) → j < length h.nodes → OpensNow s → SaysNow s → LosesNothing (deed_for s) c
      → count_of counted.Within total' sizes' ≡ counting (bound_of max) (deed_for s) start (aliased s j) total sizes
      → Next (nodes_after (deed_for s) (aliased s j)) (holding_top (pos (suc j)) s) c.nodes total' sizes'
  alias_next [] j total' sizes' lt opens says all e = let f : c.nodes ≡ 0 = all in absurd (omega arith)
  alias_next (o ∷ s) j total' sizes' lt opens says all e =
      let r = alias_within (bound_of max) total sizes total' sizes' (size_at sizes (pos (suc j)))
      (e ∙ counting_child (o ∷ s) (bound_of max) start (aliased (o ∷ s) j) total sizes) in (
        subst (λ (l : List ℕ). c.nodes ≤ length l) (sym r.4) room,
        r.5,
        subst (λ (l : List ℕ). SaysOf limit (nodes_after (deed_for (o ∷ s)) (aliased (o ∷ s) j)) (holding_top (pos (suc j)) (o ∷ s)) (get_in l) total')
            (sym r.4) (says_moved _ _ (holding_top (pos (suc j)) (o ∷ s)) (get_in sizes) (total + r.0) total'
            (child_nodes (o ∷ s) (aliased (o ∷ s) j) q m h) r.3
            (alias_says limit (length h.nodes) (length h.nodes) h.nodes o s (get_in sizes) total j r.0 opens lt
            (size_there sizes j r.0 r.1) r.2 says)),
      )

  pub alias_larger : (s : List open_t) (j total' : ℕ) (sizes' : List ℕ) → j < length h.nodes → OpensNow s → SaysNow s → LosesNothing (deed_for s) c
      → count_of counted.TooLarge total' sizes' ≡ counting (bound_of max) (deed_for s) start (aliased s j) total sizes
      → Larger (nodes_after (deed_for s) (aliased s j)) (holding_top (pos (suc j)) s)
  alias_larger [] j total' sizes' lt opens says all e = let f : c.nodes ≡ 0 = all in absurd (omega arith)
  alias_larger (o ∷ s) j total' sizes' lt opens says all e =
      let r = alias_large (bound_of max) total sizes total' sizes' (size_at sizes (pos (suc j)))
      (e ∙ counting_child (o ∷ s) (bound_of max) start (aliased (o ∷ s) j) total sizes) in (
        get_in sizes,
        total + r.0,
        says_moved _ _ (holding_top (pos (suc j)) (o ∷ s)) (get_in sizes) (total + r.0) (total + r.0)
            (child_nodes (o ∷ s) (aliased (o ∷ s) j) q m h) refl
            (alias_says limit (length h.nodes) (length h.nodes) h.nodes o s (get_in sizes) total j r.0 opens lt
            (size_there sizes j r.0 r.1) r.2 says),
        r.3,
      )

  -- a node
  abbrev pub id : ℤ
  id = pos (suc (length h.nodes))

  module _ (x : yaml_node_t) (empty : ids_of x.content ≡ []) (made : nodes_made q ≡ x ∷ []) where
    node_nodes : (s : List open_t) → nodes_after (deed_for s) (place_in id id s)
        ≡ placed (deed_for s) (place_in id id s) (h.nodes ++ x ∷ [])
    node_nodes s = grind arith

    -- the numbers after it
    module _ (g : ℕ → Option ℕ) (same : (j : ℕ) → j < length h.nodes → g j ≡ get_in sizes j) where
      scalar_by : (s : List open_t) → OpensNow s → SaysNow s → LosesNothing (deed_for s) c → g (length h.nodes) ≡ Some 1
          → SaysOf limit (nodes_after (deed_for s) (place_in id id s)) (holding_top id s) g (total + 1)
      scalar_by [] opens says all at = says_moved _ _ [] g (total + 1) (total + 1) (node_nodes []) refl
          (root_says limit h.nodes x empty (get_in sizes) g same total (omega arith) at (sym count ∙ all) says)
      scalar_by (o ∷ s) (k, is, lt, here, key, rest) says all at = says_moved _ _ (holding_top id (o ∷ s)) g (total + 1) (total + 1)
          (node_nodes (o ∷ s)) refl
          (scalar_says limit h.nodes x empty (get_in sizes) g same total (length h.nodes) k o s is lt here key rest says (omega arith) at)

      abbrev pub inner : ℕ → open_t
      inner kind = record { node = id; key = pos 0; children = 0; is_mapping = kind }

      open_by : (s : List open_t) (kind : ℕ) → OpensNow s → SaysNow s → LosesNothing (deed_for s) c
          → g (length h.nodes) ≡ Some (limit + total)
          → SaysOf limit (nodes_after (deed_for s) (place_in id id s)) (inner kind ∷ holding_top id s) g (total + 1)
      open_by [] kind opens says all at = says_moved _ _ (inner kind ∷ []) g (total + 1) (total + 1) (node_nodes []) refl
          (root_open_says limit h.nodes x empty (get_in sizes) g same total kind at (sym count ∙ all) says)
      open_by (o ∷ s) kind (k, is, lt, here, key, rest) says all at = says_moved _ _ (inner kind ∷ holding_top id (o ∷ s)) g (total + 1)
          (total + 1) (node_nodes (o ∷ s)) refl
          (open_says limit h.nodes x empty (get_in sizes) g same total (length h.nodes) k o s is lt here key rest says kind at)

    node_next : (s : List open_t) (total' : ℕ) (sizes' : List ℕ)
        → count_of counted.Within total' sizes' ≡ counting (bound_of max) (deed_for s) start (place_in id id s) total sizes
        → (suc c.nodes ≤ length sizes') × (total' ≤ bound_of max) × (total' ≡ total + 1)
        × (sizes' ≡ slice_set sizes (length h.nodes) (new_number start total)) × (length h.nodes < length sizes)
    node_next s total' sizes' e = grind (arith, node_within, counting_child, set_count)

    pub scalar_next : (s : List open_t) (total' : ℕ) (sizes' : List ℕ) → OpensNow s → SaysNow s → LosesNothing (deed_for s) c → start ≡ false
        → count_of counted.Within total' sizes' ≡ counting (bound_of max) (deed_for s) start (place_in id id s) total sizes
        → Next (nodes_after (deed_for s) (place_in id id s)) (holding_top id s) (suc c.nodes) total' sizes'
    scalar_next s total' sizes' opens says all starts e =
        let r = node_next s total' sizes' e in
        let number : new_number start total ≡ 1 = ap (λ (b : Bool). new_number b total) starts in
        let at : get_in (slice_set sizes (length h.nodes) (new_number start total)) (length h.nodes) ≡ Some 1
        = set_there sizes (length h.nodes) (new_number start total) r.4 ∙ ap (λ (n : ℕ). Some n) number in (
          r.0,
          r.1,
          subst (λ (l : List ℕ). SaysOf limit (nodes_after (deed_for s) (place_in id id s)) (holding_top id s) (get_in l) total')
              (sym r.3) (says_moved _ _ (holding_top id s) (get_in (slice_set sizes (length h.nodes) (new_number start total))) (total + 1) total' refl r.2
              (scalar_by (get_in (slice_set sizes (length h.nodes) (new_number start total)))
              (λ j lt. set_other sizes (length h.nodes) (new_number start total) j (λ f. omega arith)) s opens says all at)),
        )

    pub open_next : (s : List open_t) (kind total' : ℕ) (sizes' : List ℕ) → OpensNow s → SaysNow s → LosesNothing (deed_for s) c → start ≡ true
        → count_of counted.Within total' sizes' ≡ counting (bound_of max) (deed_for s) start (place_in id id s) total sizes
        → Next (nodes_after (deed_for s) (place_in id id s)) (record { node = id; key = pos 0; children = 0; is_mapping = kind } ∷ holding_top id s)
        (suc c.nodes) total' sizes'
    open_next s kind total' sizes' opens says all starts e =
        let r = node_next s total' sizes' e in
        let number : new_number start total ≡ limit + total = ap (λ (b : Bool). new_number b total) starts in
        let at : get_in (slice_set sizes (length h.nodes) (new_number start total)) (length h.nodes) ≡ Some (limit + total)
        = set_there sizes (length h.nodes) (new_number start total) r.4 ∙ ap (λ (n : ℕ). Some n) number in (
          r.0,
          r.1,
          subst (λ (l : List ℕ). SaysOf limit (nodes_after (deed_for s) (place_in id id s))
              (record { node = id; key = pos 0; children = 0; is_mapping = kind } ∷ holding_top id s) (get_in l) total')
              (sym r.3) (says_moved _ _ (record { node = id; key = pos 0; children = 0; is_mapping = kind } ∷ holding_top id s)
              (get_in (slice_set sizes (length h.nodes) (new_number start total))) (total + 1) total' refl r.2
              (open_by (get_in (slice_set sizes (length h.nodes) (new_number start total)))
              (λ j lt. set_other sizes (length h.nodes) (new_number start total) j (λ f. omega arith)) s kind opens says all at)),
        )

    node_larger : (s : List open_t) (total' : ℕ) (sizes' : List ℕ)
        → count_of counted.TooLarge total' sizes' ≡ counting (bound_of max) (deed_for s) start (place_in id id s) total sizes
        → bound_of max < total + 1
    node_larger s total' sizes' e = grind arith

    pub scalar_larger : (s : List open_t) (total' : ℕ) (sizes' : List ℕ) → OpensNow s → SaysNow s → LosesNothing (deed_for s) c
        → count_of counted.TooLarge total' sizes' ≡ counting (bound_of max) (deed_for s) start (place_in id id s) total sizes
        → Larger (nodes_after (deed_for s) (place_in id id s)) (holding_top id s)
    scalar_larger s total' sizes' opens says all e = (
      beside (get_in sizes) (length h.nodes) 1,
      total + 1,
      scalar_by (beside (get_in sizes) (length h.nodes) 1) (beside_other (get_in sizes) (length h.nodes) 1) s opens says all
          (beside_there (get_in sizes) (length h.nodes) 1),
      node_larger s total' sizes' e,
    )

    pub open_larger : (s : List open_t) (kind total' : ℕ) (sizes' : List ℕ) → OpensNow s → SaysNow s → LosesNothing (deed_for s) c
        → count_of counted.TooLarge total' sizes' ≡ counting (bound_of max) (deed_for s) start (place_in id id s) total sizes
        → Larger (nodes_after (deed_for s) (place_in id id s)) (record { node = id; key = pos 0; children = 0; is_mapping = kind } ∷ holding_top id s)
    open_larger s kind total' sizes' opens says all e = (
      beside (get_in sizes) (length h.nodes) (limit + total),
      total + 1,
      open_by (beside (get_in sizes) (length h.nodes) (limit + total)) (beside_other (get_in sizes) (length h.nodes) (limit + total)) s kind
          opens says all (beside_there (get_in sizes) (length h.nodes) (limit + total)),
      node_larger s total' sizes' e,
    )

  -- the end of a collection
  module _ (o : open_t) (s : List open_t) (opens : OpensNow (o ∷ s)) (says : SaysNow (o ∷ s)) where
    abbrev pub ending : place_t
    ending = record { node = pos 0; child = pos 0; parent = o.node; key = pos 0 }

    pub ended_by : (a : Counted) (total' : ℕ) (sizes' : List ℕ) → (a ≡ counted.Bad → ⊥)
        → count_of a total' sizes' ≡ counting (bound_of max) deed.Closes start ending total sizes
        → (before : ℕ) → get_in sizes opens.0 ≡ Some (limit + before)
        → (a ≡ counted.Within) × (total' ≡ total) × (sizes' ≡ slice_set sizes opens.0 (total - before))
    ended_by a total' sizes' good e before at = grind arith

    pub closed_answers : (a : Counted) (total' : ℕ) (sizes' : List ℕ) → (a ≡ counted.Bad → ⊥)
        → count_of a total' sizes' ≡ counting (bound_of max) deed.Closes start ending total sizes → a ≡ counted.Within
    closed_answers a total' sizes' good e = grind arith

    pub closed_next : (total' : ℕ) (sizes' : List ℕ) → o.key ≡ pos 0
        → count_of counted.Within total' sizes' ≡ counting (bound_of max) deed.Closes start ending total sizes
        → Next (nodes_after deed.Closes ending) s c.nodes total' sizes'
    closed_next total' sizes' waits e =
        let start_at = start_of limit h.nodes (get_in sizes) o s total opens.0 opens.1 says in
        let before : ℕ = start_at.0 in
        let k : ℕ = opens.0 in
        let lt : k < length h.nodes = opens.2 in
        let r = ended_by counted.Within total' sizes' (λ f. cc) e before start_at.1 in
        let small : total - before < limit = let b = bound_small max in omega (arith, b) in
        let same_count : length sizes' ≡ length sizes = ap length r.2 ∙ set_count sizes k (total - before) in (
          omega arith,
          let f : total' ≡ total = r.1 in omega arith,
          subst (λ (l : List ℕ). SaysOf limit (nodes_after deed.Closes ending) s (get_in l) total') (sym r.2)
              (says_moved _ _ s (get_in (slice_set sizes k (total - before))) total total' refl r.1
              (closed_says limit h.nodes (get_in sizes) (get_in (slice_set sizes k (total - before))) total before (length h.nodes) k o s
              opens.1 lt opens.5 waits (λ j f. set_other sizes k (total - before) j f) start_at.1
              (set_there sizes k (total - before) (omega arith)) small m says)),
        )
