-- How the fields and lines that are appended one by one make a document's text.
use Rattle.std.proofs.Common.{◌≡◌, ◌++◌, ◌+◌, ◌<◌, ℕ, List, [], ◌∷◌, length, get_or, take, drop, map, refl, ap, ◌∙◌, sym, arith, Option}
use Rattle.std.specs.List.{concat}
use Rattle.std.specs.Io.KnownBytes.{Appends}
use Rattle.std.proofs.KnownBytes.{Appends-nil, Appends-trans}
use Rattle.std.proofs.lemmas.List.{append-nil, length-take-le, take_more, map-append, take-append-drop, at_drop_more}
use Rattle.std.proofs.lemmas.List.Folds.{concat-append}
use Rattle.libyaml_documents.specs.declared.node.yaml_node_t.{yaml_node_t}
use Rattle.line_writing.specs.DocumentText.{WroteBefore, node_line, node_lines}
use Rattle.line_writing.specs.FieldTexts.{after_spaces}
use Rattle.line_writing.proofs.SpacedLemmas.{after_spaces-append}

-- one more of the fields that a list gives
pub fields_more : {X : Type 0} (f : X → List ℕ) (xs : List X) (i : ℕ) (d : X) → i < length xs
    → after_spaces (map f (take (i + 1) xs)) ≡ after_spaces (map f (take i xs)) ++ after_spaces (f (get_or xs i d) ∷ [])
fields_more f xs i d within =
    ap (λ l. after_spaces (map f l)) (take_more xs i d within)
    ∙ ap after_spaces (map-append f (take i xs) (get_or xs i d ∷ []))
    ∙ after_spaces-append (map f (take i xs)) (f (get_or xs i d) ∷ [])

-- the lines of some nodes, and then of others
lines_then : (id : ℕ) (xs ys : List yaml_node_t) → node_lines id (xs ++ ys) ≡ node_lines id xs
    ++ node_lines (id + length xs) ys
lines_then id [] ys = let e : id ≡ id + 0 = omega arith in ap (λ n. node_lines n ys) e
lines_then id (x ∷ xs) ys =
    let e : id + 1 + length xs ≡ id + length (x ∷ xs) = omega arith in
    ap (λ l. node_line id x ∷ l) (lines_then (id + 1) xs ys ∙ ap (λ n. node_lines (id + 1) xs ++ node_lines n ys) e)

-- the line of the node at this index, and those after it
lines_at : (ns : List yaml_node_t) (i : ℕ) (d : yaml_node_t) → i < length ns
    → node_lines 1 ns ≡ node_lines 1 (take i ns) ++ node_line (i + 1) (get_or ns i d) ∷ node_lines (i + 1 + 1)
    (drop (i + 1) ns)
lines_at ns i d within =
    let count : 1 + length (take i ns) ≡ i + 1 = omega (arith, length-take-le i ns (omega (arith, within))) in
    ap (node_lines 1) (sym (take-append-drop i ns))
    ∙ lines_then 1 (take i ns) (drop i ns)
    ∙ at_drop_more (λ l. node_lines 1 (take i ns) ++ node_lines (1 + length (take i ns)) l) ns i d within
    ∙ ap (λ n. node_lines 1 (take i ns) ++ node_lines n (get_or ns i d ∷ drop (i + 1) ns)) count

-- one more line
pub lines_more : (ns : List yaml_node_t) (i : ℕ) (d : yaml_node_t) → i < length ns
    → concat (node_lines 1 (take (i + 1) ns)) ≡ concat (node_lines 1 (take i ns)) ++ node_line (i + 1) (get_or ns i d)
lines_more ns i d within =
    let count : 1 + length (take i ns) ≡ i + 1 = omega (arith, length-take-le i ns (omega (arith, within))) in
    ap (λ l. concat (node_lines 1 l)) (take_more ns i d within)
    ∙ ap concat (lines_then 1 (take i ns) (get_or ns i d ∷ []))
    ∙ concat-append (node_lines 1 (take i ns)) (node_lines (1 + length (take i ns)) (get_or ns i d ∷ []))
    ∙ ap (λ n. concat (node_lines 1 (take i ns)) ++ (node_line n (get_or ns i d) ++ [])) count
    ∙ ap (λ l. concat (node_lines 1 (take i ns)) ++ l) (append-nil (node_line (i + 1) (get_or ns i d)))

-- a line that found no memory
pub wrote_before : (ns : List yaml_node_t) (i : ℕ) (d : yaml_node_t) (a b : Option (List ℕ)) → i < length ns
    → Appends a b (concat (node_lines 1 (take i ns)))
    → WroteBefore a b (node_lines 1 ns)
wrote_before ns i d a b within wrote = record {
  written = node_lines 1 (take i ns);
  line = node_line (i + 1) (get_or ns i d);
  rest = node_lines (i + 1 + 1) (drop (i + 1) ns);
  all = lines_at ns i d within;
  wrote = wrote;
}

-- the first line found none
pub wrote_none : (line : List ℕ) (rest : List (List ℕ)) (a : Option (List ℕ)) → WroteBefore a a (line ∷ rest)
wrote_none line rest a = record { written = []; line = line; rest = rest; all = refl; wrote = Appends-nil a }

-- the first line was written, and a later one found no memory
pub wrote_after : (line : List ℕ) (rest : List (List ℕ)) (a b c : Option (List ℕ)) → Appends a b line
    → WroteBefore b c rest → WroteBefore a c (line ∷ rest)
wrote_after line rest a b c first h = record {
  written = line ∷ h.written;
  line = h.line;
  rest = h.rest;
  all = ap (λ l. line ∷ l) h.all;
  wrote = Appends-trans a b c line (concat h.written) first h.wrote;
}
