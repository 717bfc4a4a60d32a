-- The map of anchors, by its entries.
use Rattle.std.proofs.Common.{◌≡◌, ◌≤ℤ◌, arith, ℤ, pos, ℕ, List, [], ◌∷◌, Option, Some, Bool, cond, nat_cmp, String, string_bytes, refl, ap, sym, ◌∙◌}
use Rattle.std.specs.Cmp.{eq_by_cmp_equiv}
use Rattle.std.specs.Cmp.Lexicographic.{slice_cmp, nat_list_cmp_total}
use Rattle.std.specs.BTreeMap.{BTreeMap, is_at, get_by_text, UpdatesBy}
use Rattle.std.specs.Map.{lookup}
use Rattle.std.specs.Option.{option_map}
use Rattle.std.specs.Str.{bytes_eq}
use Rattle.std.specs.String.{string_cmp}
use Rattle.std.specs.FinMap.{find, get, insert, get-from_entries, get-insert, same_map}
use Rattle.std.proofs.lemmas.Map.Lookups.{exact_bytes}
use Rattle.std.proofs.lemmas.Map.Text.{btree_map_updates_text, is_eq-slice_cmp}
use Rattle.libyaml_loader.specs.declared.ids.AnchoredNode.{AnchoredNode}
use Rattle.libyaml_loader.specs.document.Anchors.{anchors_of, anchored_nodes_of}
use Rattle.libyaml_loader.specs.document.Ids.{anchored_node_of, magnitude}

choose : (b : Bool) (c : AnchoredNode) (o : Option AnchoredNode)
    → cond b (Some (anchored_node_of c)) (option_map anchored_node_of o) ≡ option_map anchored_node_of (cond b (Some c) o)
choose b c o = grind arith

module _ {Y : Type 0} where
  find_anchored_node : (es : List (String Y × AnchoredNode)) (q : List ℕ)
      → find (slice_cmp nat_cmp) q (anchored_nodes_of es) ≡ option_map anchored_node_of
      (lookup (is_at (λ k. slice_cmp nat_cmp q (string_bytes k))) es)
  find_anchored_node [] q = refl
  find_anchored_node (e ∷ es) q = ap (cond (is_at (slice_cmp nat_cmp q) (string_bytes e.0)) (Some (anchored_node_of e.1)))
      (find_anchored_node es q) ∙ choose _ e.1 _

  pub get_anchor : (m : BTreeMap (String Y) AnchoredNode) (q : List ℕ)
      → get (anchors_of m.entries) q ≡ option_map anchored_node_of (get_by_text m q)
  get_anchor m q = get-from_entries nat_list_cmp_total (anchored_nodes_of m.entries) q ∙ find_anchored_node m.entries q

  -- maps that differ at one anchor are seen so
  pub one_registered : (m n : BTreeMap (String Y) AnchoredNode) (a : String Y) (c : AnchoredNode)
      → UpdatesBy string_cmp (string_cmp a) m n (Some c)
      → anchors_of n.entries ≡ insert (anchors_of m.entries) (string_bytes a) (anchored_node_of c)
  one_registered m n a c updates = same_map nat_list_cmp_total exact_bytes _ _ (λ q.
      get_anchor n q ∙ ap (option_map anchored_node_of) (btree_map_updates_text (string_bytes a) m n (Some c) updates q)
      ∙ sym (choose (bytes_eq (string_bytes a) q) c (get_by_text m q))
      ∙ sym (get-insert nat_list_cmp_total (anchors_of m.entries) (string_bytes a) (anchored_node_of c) q
      ∙ ap (λ b. cond b (Some (anchored_node_of c)) (get (anchors_of m.entries) q))
      ((eq_by_cmp_equiv nat_list_cmp_total).symm q (string_bytes a) ∙ is_eq-slice_cmp (string_bytes a) q)
      ∙ ap (cond (bytes_eq (string_bytes a) q) (Some (anchored_node_of c))) (get_anchor m q)))

pub magnitude_is : (z : ℤ) → pos 1 ≤ℤ z → z ≡ pos (magnitude z)
magnitude_is z h = grind arith
