-- Lists of loads: documents with roots, and what comes after them.
use Rattle.std.proofs.Common.{◌≡◌, ◌≢◌, ◌++◌, ◌∷◌, List, [], All, length, map, nat_eq, true, false, Ok, refl, sym, ap, ◌∙◌, append_assoc}
use Rattle.std.proofs.lemmas.Bool.{eqb-true}
use Rattle.std.proofs.lemmas.List.{map-append, nil_from_length}
use Rattle.std.proofs.lemmas.List.Elements.{All-cons, All-head, All-nil, All-tail}
use Rattle.libyaml_documents.specs.declared.node.yaml_node_t.{yaml_node_t}
use Rattle.libyaml_documents.specs.Documents.{Document}
use Rattle.libyaml_grammar.specs.runs.Runs.{Ending, Ends, Fails}
use Rattle.libyaml_grammar.specs.grammar.Events.{Event}
use Rattle.libyaml_grammar.proofs.exported.Injectivity.{err_same, head_same, not_cons, ok_same, tail_same}
use Rattle.libyaml_graphs.specs.loads.GraphLaws.{RootsFollow}
use Rattle.libyaml_graphs.specs.loads.Loads.{Load, last_load}

-- a document whose nodes are counted
pub bare : (ns : List yaml_node_t) → nat_eq (length ns) 0 ≡ true → ns ≡ []
bare ns h = nil_from_length ns (eqb-true (length ns) 0 h)

pub rooted : (ns : List yaml_node_t) → nat_eq (length ns) 0 ≡ false → ns ≢ []
rooted [] h e = absurd cc
rooted (n ∷ ns) h e = cc

-- documents that all have a root
abbrev pub HasRoot : Document → Type 0
HasRoot d = d.nodes ≢ []

pub roots_last : (ds : List Document) (d : Document) → All HasRoot ds → d.nodes ≢ [] → All HasRoot (ds ++ d ∷ [])
roots_last [] d h k = All-cons HasRoot d [] k (All-nil HasRoot)
roots_last (c ∷ ds) d h k = All-cons HasRoot c (ds ++ d ∷ []) (All-head HasRoot c ds h)
    (roots_last ds d (All-tail HasRoot c ds h) k)

pub roots_after : (l r : List Event) → RootsFollow (l ++ r) → RootsFollow r
roots_after [] r h = h
roots_after (e ∷ l) r h = roots_after l r h.1

-- a document more
pub oks_last : (ds : List Document) (d : Document) (l : List Load)
    → map (λ (x : Document). Ok x) ds ++ Ok d ∷ l ≡ map (λ (x : Document). Ok x) (ds ++ d ∷ []) ++ l
oks_last ds d l = sym (ap (λ (k : List Load). k ++ l) (map-append (λ (x : Document). Ok x) ds (d ∷ []))
    ∙ append_assoc (map (λ (x : Document). Ok x) ds) (Ok d ∷ []) l)

-- documents, and then one load
none_more : (l : List Load) (y : Load) → [] ≡ l ++ y ∷ [] → ⊥
none_more [] y e = not_cons y [] e
none_more (x ∷ l) y e = not_cons x (l ++ y ∷ []) e

pub same_loads : (a b : List Document) (x y : Load) → map Ok a ++ x ∷ [] ≡ map Ok b ++ y ∷ [] → (a ≡ b) × (x ≡ y)
same_loads [] [] x y e = (refl, head_same x y [] [] e)
same_loads [] (d ∷ b) x y e = absurd (none_more (map Ok b) y (tail_same x (Ok d) [] (map Ok b ++ y ∷ []) e))
same_loads (c ∷ a) [] x y e = absurd (none_more (map Ok a) x (sym (tail_same (Ok c) y (map Ok a ++ x ∷ []) [] e)))
same_loads (c ∷ a) (d ∷ b) x y e =
    let r = same_loads a b x y (tail_same (Ok c) (Ok d) (map Ok a ++ x ∷ []) (map Ok b ++ y ∷ []) e) in
    let h = ok_same c d (head_same (Ok c) (Ok d) (map Ok a ++ x ∷ []) (map Ok b ++ y ∷ []) e) in
    (ap (λ (z : Document). z ∷ a) h ∙ ap (λ (l : List Document). d ∷ l) r.0, r.1)

-- an ending is told by its load
pub last_same : (x y : Ending) → last_load x ≡ last_load y → x ≡ y
last_same Ends Ends e = refl
last_same Ends (Fails f) e = absurd cc
last_same (Fails f) Ends e = absurd cc
last_same (Fails f) (Fails g) e = ap Fails (err_same f g e)
