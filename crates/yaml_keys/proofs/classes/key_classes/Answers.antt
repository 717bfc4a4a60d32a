use Rattle.std.proofs.Common.{◌≡◌, ◌⊎◌, inl, inr, ◌<◌, ◌≤◌, ◌+◌, ℕ, List, [], ◌∷◌, ◌++◌, length, get_or, sym, subst, ap, ◌∙◌, arith, length-append}
use Rattle.std.proofs.lemmas.Bool.{cases_lt}
use Rattle.std.proofs.Math.ListN.{get_or-append}
use Rattle.std.proofs.Math.Seq.{get_or-append_seam}
use Rattle.libyaml_documents.specs.declared.node.yaml_node_t.{yaml_node_t}
use Rattle.yaml_keys.specs.Keys.{IsFirstSame}
use Rattle.yaml_keys.proofs.classes.key_classes.Goals as goal

one_more : (nodes : List yaml_node_t) (n x : ℕ) (xs ys : List ℕ) → length xs ≡ n → ys ≡ xs ++ x ∷ []
    → ((place : ℕ) → place < n → IsFirstSame nodes place (get_or xs place 0)) → IsFirstSame nodes n x
    → (place : ℕ) → place < n + 1 → IsFirstSame nodes place (get_or ys place 0)
one_more nodes n x xs ys count is each last place lt =
    subst (λ (l : List ℕ). IsFirstSame nodes place (get_or l place 0)) (sym is) (at (cases_lt place n))
  where
    at : (place < n) ⊎ (n ≤ place) → IsFirstSame nodes place (get_or (xs ++ x ∷ []) place 0)
    at (inl before) =
        subst (λ (y : ℕ). IsFirstSame nodes place y) (sym (get_or-append xs (x ∷ []) 0 place (omega (arith, before, count)))) (each place before)
    at (inr later) =
        let here : length xs ≡ place = omega (arith, lt, later, count) in
        let same : n ≡ place = omega (arith, lt, later) in
        subst (λ (k : ℕ). IsFirstSame nodes k (get_or (xs ++ x ∷ []) k 0)) here
        (subst (λ (k : ℕ). IsFirstSame nodes k (get_or (xs ++ x ∷ []) (length xs) 0)) (same ∙ sym here)
        (subst (λ (y : ℕ). IsFirstSame nodes n y) (sym (get_or-append_seam xs x [] 0)) last))

pub loop-place-preserved : goal.loop-place-preserved
loop-place-preserved c =
    let nodes = c.args.nodes.now in
    let i = c.loop-place.invariant in
    let pushed = c.in_ok-push.ensures.items in
    record {
      firsts = c.in_ok-class.ensures.firsts;
      count = ap (λ (l : List ℕ). length l) pushed ∙ length-append c.loop-place.classes.items (c.in_ok-class.class ∷ []) ∙ omega (arith, i.count);
      each = one_more nodes c.loop-place.place c.in_ok-class.class c.loop-place.classes.items c.push.new.self.items i.count pushed
          i.each c.in_ok-class.ensures.class;
    }
