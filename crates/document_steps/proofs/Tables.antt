-- A table of anchors has those that are held, and goes on so.
use Rattle.std.proofs.Common.{◌≡◌, ◌++◌, ◌∷◌, ◌+◌, ◌≤◌, List, [], ℕ, ℤ, pos, length, arith, refl, sym, ap, ◌∙◌, Option, Some, None, cond, drop, take}
use Rattle.std.proofs.lemmas.List.{length-drop, drop-append-le, take-append-le}
use Rattle.std.proofs.lemmas.Slice.Eq.{bytes_eq-Decides}
use Rattle.std.specs.Prelude.{bytes_eq}
use Rattle.std.specs.Cmp.Lexicographic.{nat_list_cmp_total}
use Rattle.std.specs.FinMap.{get, get-from_entries, insert}
use Rattle.libyaml_grammar.proofs.exported.TextMaps.{inserted}
use Rattle.libyaml_graphs.specs.graphs.Graphs.{AnchoredNode, id_or}
use Rattle.libyaml_graphs.specs.machine.Loader.{Anchors, no_anchors}
use Rattle.document_steps.specs.declared.anchors.anchor_t.{anchor_t}
use Rattle.document_steps.specs.Anchors.{AreAnchorsWithin, Tabled, bytes_of, entry_in, anchored_node_id, node_in}

pub none : (texts : List ℕ) → Tabled texts [] no_anchors
none texts a = ap anchored_node_id (sym (get-from_entries nat_list_cmp_total [] a))

abbrev node_or_none : Option ℤ → ℤ
node_or_none None = pos 0
node_or_none (Some i) = i

by_entry : (texts : List ℕ) (table : List anchor_t) (a : List ℕ) → node_in texts table a ≡ node_or_none (entry_in texts table a)
by_entry texts [] a = refl
by_entry texts (e ∷ es) a = grind (arith, by_entry texts es a)

pub found : (texts : List ℕ) (table : List anchor_t) (xs : Anchors) (a : List ℕ) → Tabled texts table xs
    → node_in texts table a ≡ pos (id_or (get xs a))
found texts table xs a t = grind (arith, by_entry, t a)

stays : (texts more : List ℕ) (e : anchor_t) → e.place + e.length ≤ length texts
    → bytes_of (texts ++ more) e ≡ bytes_of texts e
stays texts more t h =
    let a : t.place ≤ length texts = omega arith in
    let b : t.length ≤ length (drop t.place texts) = rw length-drop (omega arith) in
    ap (take t.length) (drop-append-le t.place texts more a)
    ∙ take-append-le t.length (drop t.place texts) more b

-- what a table says after one entry more
abbrev or_else : Option ℤ → Option ℤ → Option ℤ
or_else None y = y
or_else (Some x) y = Some x

more_in : (texts more : List ℕ) (table : List anchor_t) (e : anchor_t) (q : List ℕ) → AreAnchorsWithin texts table
    → entry_in (texts ++ more) (table ++ e ∷ []) q
    ≡ or_else (entry_in texts table q) (cond (bytes_eq (bytes_of (texts ++ more) e) q) (Some e.node) None)
more_in texts more [] e q w = refl
more_in texts more (y ∷ ys) e q w = grind (arith, stays texts more y w.0, more_in texts more ys e q w.1)

pub adds : (texts more : List ℕ) (table : List anchor_t) (e : anchor_t) (xs : Anchors) (a : List ℕ) (c : AnchoredNode)
    → Tabled texts table xs → AreAnchorsWithin texts table → get xs a ≡ None → bytes_of (texts ++ more) e ≡ a → e.node ≡ pos c.id
    → Tabled (texts ++ more) (table ++ e ∷ []) (insert xs a c)
adds texts more table e xs a c t w new is node q = grind (arith, more_in, t q, inserted, (bytes_eq-Decides a q).0)
