use Rattle.std.proofs.Common.{◌≡◌, ◌==◌, false, ℤ, pos, suc, List, [], ◌∷◌, length, refl, ap, subst, sym, ◌∙◌, arith, eqb-true}
use Rattle.libyaml_documents.specs.declared.node.yaml_node_t.{yaml_node_t}
use Rattle.yaml_expansion.specs.Expansion.{HasExpandedSize, IsCyclicAt, TreesHave, first, ids_at, none}
use Rattle.yaml_expansion.proofs.measure.measure.Goals as goal

nothing_to_copy : (nodes : List yaml_node_t) → length nodes ≡ 0 → HasExpandedSize nodes 0
nothing_to_copy [] e = none
nothing_to_copy (node ∷ nodes) e = absurd (omega (arith, e))

-- the tree of a root that holds no id
one_alone : (nodes these : List yaml_node_t) → nodes ≡ these → false ≡ (length nodes == 0) → ids_at nodes (pos 1) ≡ [] → HasExpandedSize these 1
one_alone [] these n some alone = absurd (cc)
one_alone (node ∷ nodes) these n some alone =
    subst (λ (l : List yaml_node_t). HasExpandedSize l 1) n
    (first (pos 1) [] 0 0 (subst (λ (l : List ℤ). TreesHave (node ∷ nodes) l 0) (sym alone) none) none)

met : (nodes these : List yaml_node_t) (id this : ℤ) → nodes ≡ these → id ≡ this → IsCyclicAt nodes id
    → IsCyclicAt these this
met nodes these id this n i h =
    subst (λ (l : List yaml_node_t). IsCyclicAt l this) n
    (subst (λ (x : ℤ). IsCyclicAt nodes x) i h)

pub returns-then-is_empty-clause-size : goal.returns-then-is_empty-clause-size
returns-then-is_empty-clause-size c =
    let none_of : length c.nodes-nodes.result.now ≡ 0 = eqb-true _ _ (sym c.if-is_empty.ensures) in
    let nodes_none : length c.args.document.now.nodes ≡ 0 = ap (λ (l : List yaml_node_t). length l) (sym c.nodes-nodes.ensures.all) ∙ none_of in
    (nothing_to_copy c.args.document.now.nodes nodes_none, omega arith)

pub returns-in-Meets-clause-cyclic : goal.returns-in-Meets-clause-cyclic
returns-in-Meets-clause-cyclic c = λ id is.
    let said = rw c.in-Meets.is at c.in_ok-step.ensures.said in
    let same : pos (suc c.in-Meets.place) ≡ id = cc in
    met c.nodes-nodes.result.now c.args.document.now.nodes (pos (suc c.in-Meets.place)) id c.nodes-nodes.ensures.all same
    said.1

pub returns-then-max-lt1-clause-too_large : goal.returns-then-max-lt1-clause-too_large
returns-then-max-lt1-clause-too_large c = λ _.
    let alone = c.if-is_alone.ensures.0 refl in
    (1, one_alone c.nodes-nodes.result.now c.args.document.now.nodes c.nodes-nodes.ensures.all c.if-is_empty.ensures alone, c.if-max-lt1.true)

pub returns-else-max-lt1-clause-size : goal.returns-else-max-lt1-clause-size
returns-else-max-lt1-clause-size c =
    let alone = c.if-is_alone.ensures.0 refl in
    (one_alone c.nodes-nodes.result.now c.args.document.now.nodes c.nodes-nodes.ensures.all c.if-is_empty.ensures alone, c.if-max-lt1.false)
