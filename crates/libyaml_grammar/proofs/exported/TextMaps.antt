-- Maps whose keys are texts.
use Rattle.std.proofs.Common.{◌≡◌, ℕ, List, Some, Bool, cond, nat_cmp, sym, ap, ◌∙◌}
use Rattle.std.specs.Prelude.{bytes_eq}
use Rattle.std.specs.Ordering.{eq_by_cmp}
use Rattle.std.specs.Cmp.Lexicographic.{slice_cmp, texts_ties, nat_list_eq_equiv, nat_list_cmp_total}
use Rattle.std.specs.FinMap.{FinMap, get, insert, get-insert}

pub same_keys : (q g : List ℕ) → eq_by_cmp (slice_cmp nat_cmp) q g ≡ bytes_eq g q
same_keys q g = sym (texts_ties q g) ∙ nat_list_eq_equiv.symm q g

pub inserted : {A : Type 0} (xs : FinMap (slice_cmp nat_cmp) A) (g : List ℕ) (x : A) (h : List ℕ)
    → get (insert xs g x) h ≡ cond (bytes_eq g h) (Some x) (get xs h)
inserted xs g x h = get-insert nat_list_cmp_total xs g x h ∙ ap (λ (u : Bool). cond u (Some x) (get xs h)) (same_keys h g)
