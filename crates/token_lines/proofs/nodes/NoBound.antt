-- What was written of the loads within a bound was written of the loads.
use Rattle.std.proofs.Common.{◌≡◌, ◌++◌, ◌∷◌, ℕ, List, [], map, Option, Some, Ok, Err, refl, sym, ap, ◌∙◌, subst, inl, append_assoc}
use Rattle.std.proofs.lemmas.List.{append-nil}
use Rattle.std.proofs.lemmas.List.Concat.{flat_map-append}
use Rattle.std.specs.Io.KnownBytes.{Appends}
use Rattle.libyaml_types.specs.Fault.{Fault, memory_fault}
use Rattle.libyaml_grammar.specs.runs.Runs.{Ending, Fails}
use Rattle.libyaml_graphs.specs.loads.Loads.{Load}
use Rattle.libyaml_graphs.proofs.exported.BoundedPrefixes.{IsPrefixTree, met, same}
use Rattle.token_lines.specs.declared.run.run_end_t.{run_end_t}
use Rattle.token_lines.specs.lines.LineRun.{broken_off, output_failed, run_bytes, whole}
use Rattle.token_lines.specs.nodes.NodeRun.{WritesLoads, load_lines, loads_ending, loads_lines}
use Rattle.token_lines.proofs.nodes.NodeWritesLemmas.{ending_of}

-- so what was written of the loads within the bound was written of the loads
pub writes_all : (MayBreak : Fault → Type 0) (end : run_end_t) (old new : Option (List ℕ)) (b l : List Load) → IsPrefixTree b l
    → WritesLoads MayBreak end old new b → WritesLoads MayBreak end old new l
writes_all MayBreak end old new b l (same e) w = subst (WritesLoads MayBreak end old new) e w
writes_all MayBreak end old new b l (met ds rest i j) w = go w
  where
    lines : loads_lines l ≡ loads_lines b ++ loads_lines rest
    lines =
        let oks : List Load = map Ok ds in
        ap loads_lines j ∙ flat_map-append load_lines oks rest
        ∙ ap (λ (m : List (List ℕ)). m
        ++ loads_lines rest) (sym (ap loads_lines i ∙ flat_map-append load_lines oks (Err memory_fault ∷ [])
        ∙ append-nil (loads_lines oks)))

    fails : loads_ending b ≡ Fails memory_fault
    fails = ap loads_ending i ∙ ending_of ds (Err memory_fault ∷ [])

    go : WritesLoads MayBreak end old new b → WritesLoads MayBreak end old new l
    go (whole e wrote) = broken_off memory_fault (e ∙ ap Some fails) (inl refl) (loads_lines b) (loads_lines rest) lines
        (subst (λ (x : Ending). Appends old new (run_bytes (loads_lines b) x)) fails wrote)
    go (broken_off f e why written later is wrote) = broken_off f e why written (later ++ loads_lines rest)
        (lines ∙ ap (λ (m : List (List ℕ)). m ++ loads_lines rest) is ∙ append_assoc written later (loads_lines rest)) wrote
    go (output_failed e) = output_failed e
