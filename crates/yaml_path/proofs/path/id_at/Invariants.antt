use Rattle.std.proofs.Common.{◌≡◌, ℕ, List, length, map, drop, Bor}
use Rattle.libyaml_documents.specs.Nodes.{IsIdUpTo}
use Rattle.yaml_path.specs.Paths.{id_after, id_at}
use Rattle.yaml_path.proofs.path.id_at.Given as goal

-- the words to come lead on to the same node, from one of the document
abbrev pub invariant-loop-word : goal.invariant-loop-word
invariant-loop-word l = record {
  end : id_after l.document.nodes l.id (map (λ (word : Bor (List ℕ)). word.now) (drop l.word-index l.path))
      ≡ id_at l.document.nodes (map (λ (word : Bor (List ℕ)). word.now) l.path);
  in_document : IsIdUpTo (length l.document.nodes) l.id;
}
