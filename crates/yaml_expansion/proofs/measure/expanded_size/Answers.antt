use Rattle.std.proofs.Common.{◌≡◌, ◌⊎◌, ℕ, ℤ, ◌<◌, ◌≤◌, List, Result, Ok, Err, inl, inr, refl, ap, arith}
use Rattle.std.specs.Prelude.{IfOk, IsErrOf}
use Rattle.libyaml_documents.specs.declared.node.yaml_node_t.{yaml_node_t}
use Rattle.yaml_expansion.specs.declared.error.yaml_expansion_error_t.{yaml_expansion_error_t}
use Rattle.yaml_expansion.specs.declared.error.yaml_expansion_error_t.TheVariants.{Cyclic, TooLarge, Memory}
use Rattle.yaml_expansion.specs.Expansion.{HasExpandedSize, IsCyclic, IsCyclicAt, root_of}
use Rattle.yaml_expansion.proofs.OneOfBoth.{not_both}
use Rattle.yaml_expansion.proofs.Trees.{one_size}
use Rattle.yaml_expansion.proofs.measure.expanded_size.Goals as goal

-- each result has its reason, and no two reasons hold of one document
record Said (nodes : List yaml_node_t) (max : ℕ) (r : Result ℕ yaml_expansion_error_t) : Type 0 where
  size : IfOk r (λ size. HasExpandedSize nodes size × (size ≤ max))
  too_large : IsErrOf r TooLarge → (size : ℕ) × HasExpandedSize nodes size × (max < size)
  cyclic : (id : ℤ) → IsErrOf r (Cyclic id) → IsCyclicAt nodes id

module _ (nodes : List yaml_node_t) (max : ℕ) where
  small : (r : Result ℕ yaml_expansion_error_t) → Said nodes max r → (size : ℕ) → HasExpandedSize nodes size → size ≤ max
      → (r ≡ Ok size) ⊎ IsErrOf r Memory
  small (Ok n) said size t le =
      inl (ap (λ (x : ℕ). Ok x) (one_size nodes (root_of nodes) n size said.size.0 t))
  small (Err (Cyclic id)) said size t le = absurd (not_both nodes size t (id, said.cyclic id refl))
  small (Err TooLarge) said size t le =
      let large = said.too_large refl in
      absurd (omega (arith, large.2, one_size nodes (root_of nodes) large.0 size large.1 t))
  small (Err Memory) said size t le = inr refl

  large : (r : Result ℕ yaml_expansion_error_t) → Said nodes max r → (size : ℕ) → HasExpandedSize nodes size → max < size
      → IsErrOf r TooLarge ⊎ IsErrOf r Memory
  large (Ok n) said size t lt =
      absurd (omega (arith, said.size.1, one_size nodes (root_of nodes) n size said.size.0 t))
  large (Err (Cyclic id)) said size t lt = absurd (not_both nodes size t (id, said.cyclic id refl))
  large (Err TooLarge) said size t lt = inl refl
  large (Err Memory) said size t lt = inr refl

  endless : (r : Result ℕ yaml_expansion_error_t) → Said nodes max r → IsCyclic nodes
      → ((id : ℤ) × IsErrOf r (Cyclic id)) ⊎ IsErrOf r Memory
  endless r said c = grind (arith, not_both)

pub returns-clause-where_small : goal.returns-clause-where_small
returns-clause-where_small c =
    let said = c.measure.ensures in
    small c.args.document.now.nodes c.args.max c.measure.result
    (record { size = said.size; too_large = said.too_large; cyclic = said.cyclic })

pub returns-clause-where_large : goal.returns-clause-where_large
returns-clause-where_large c =
    let said = c.measure.ensures in
    large c.args.document.now.nodes c.args.max c.measure.result
    (record { size = said.size; too_large = said.too_large; cyclic = said.cyclic })

pub returns-clause-where_cyclic : goal.returns-clause-where_cyclic
returns-clause-where_cyclic c =
    let said = c.measure.ensures in
    endless c.args.document.now.nodes c.args.max c.measure.result
    (record { size = said.size; too_large = said.too_large; cyclic = said.cyclic })
