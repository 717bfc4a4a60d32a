-- What was handed in is completed by a token for each open collection, and at most two more.
use Rattle.std.specs.Prelude.{map}
use Rattle.std.proofs.Common.{◌≡◌, ◌≤◌, ◌+◌, ◌++◌, List, [], length, Some, None, refl, sym, ap, append-nil, subst, arith, true, false}
use Rattle.std.proofs.lemmas.Bool.{both_ways}
use Rattle.std.proofs.lemmas.List.{length-map}
use Rattle.libyaml_types.specs.declared.enums.yaml_token_type_t.{yaml_token_type_t}
use Rattle.libyaml_grammar.specs.grammar.Tokens.{Marks, Token, zero_marks}
use Rattle.libyaml_grammar.specs.grammar.Trees.{following, free}
use Rattle.libyaml_grammar.specs.grammar.Events.{Event}
use Rattle.libyaml_grammar.specs.grammar.ValidLists.{IsValidList, IsViablePrefix}
use Rattle.libyaml_grammar.specs.partial.PartialTrees.{BlockPlace, Place, block, entry, flow_entry, flow_key, flow_value, indentless_entry, open_collection, part_place, root, slot}
use Rattle.libyaml_grammar.specs.partial.Rest.{rest_block_place, rest_place}
use Rattle.libyaml_grammar.proofs.exported.Positions.{Position, between, done, due, flow_after, flow_due, flow_keyed, headed, in_indentless, in_mapping, in_sequence, position_rest, unopened}
use Rattle.libyaml_grammar.proofs.exported.Reading.{bad}
use Rattle.libyaml_grammar.proofs.exported.Completion.{position_begins, read_order}
use Rattle.libyaml_grammar.proofs.exported.Keeps.{feeds_keep}
use Rattle.libyaml_grammar.proofs.exported.Orders.{reads_to}
use Rattle.libyaml_automaton.specs.Completing.{completing}
use Rattle.libyaml_events.specs.machine.Config.{Machine, config_of as without_texts, ended_or_failed}
use Rattle.libyaml_events.specs.machine.Want.{Want}
use Rattle.libyaml_events.specs.parsers.Stages.{open_collections, stage_of}
use Rattle.libyaml_events.specs.sources.Acceptable.{Complete, IsCompleted, bare}
use Rattle.libyaml_events.specs.sources.Pushed.{Fed}
use Rattle.libyaml_events.proofs.calls.StackRoom.{fed_marks}
use Rattle.libyaml_events.proofs.expected.Expected.{bad_stops, stops}
use Rattle.libyaml_events.proofs.expected.RestTypes.{rest_types}
use Rattle.libyaml_events.proofs.machine.Link.{config_of, marks_block, marks_place, want_of}
use Rattle.libyaml_events.proofs.machine.MachinePosition.{Stood, at_place, amid_node}
use Rattle.libyaml_events.proofs.pushes.HistoryInvariant.{Running, fed_to, has_ended, runs}

block_rest : (m : Marks) (c : BlockPlace) → length (rest_block_place m c) ≡ length (marks_block c) + 1
block_rest m (root t) = refl
block_rest m (entry c o s is e) = let h = block_rest m c in omega arith
block_rest m (slot (part_place c o s ps k v)) = let h = block_rest m c in omega arith
block_rest m (indentless_entry (part_place c o s ps k v) y is e) = let h = block_rest m c in omega arith

node_rest : (m : Marks) (p : Place) → length (rest_place m p) ≡ length (marks_place p) + 1
node_rest m (block c) = block_rest m c
node_rest m (flow_entry (open_collection p o k s is)) = let h = node_rest m p in omega arith
node_rest m (flow_key (open_collection p o k s is) e) = let h = node_rest m p in omega arith
node_rest m (flow_value (open_collection p o k s is) e x v) = let h = node_rest m p in omega arith

rest_length : (m : Marks) (q : Position) → length (position_rest m q) ≤ length (config_of q).marks + 2
rest_length m unopened = omega arith
rest_length m (between (free f)) = omega arith
rest_length m (between (following d)) = omega arith
rest_length m (headed (free f) ds d) = omega arith
rest_length m (headed (following b) ds d) = omega arith
rest_length m (due p None) = let h = node_rest m p in omega arith
rest_length m (due p (Some ps)) = let h = node_rest m p in omega arith
rest_length m (in_sequence c o s is) = let h = block_rest m c in omega arith
rest_length m (in_mapping c o s ps) = let h = block_rest m c in omega arith
rest_length m (in_indentless (part_place c o s ps k v) y is e x) = let h = block_rest m c in omega arith
rest_length m (flow_due (open_collection p o k s is)) = let h = node_rest m p in omega arith
rest_length m (flow_keyed (open_collection p o k s is) e x) = let h = node_rest m p in omega arith
rest_length m (flow_after (open_collection p o k s is) e) = let h = node_rest m p in omega arith
rest_length m (done t) = omega arith

module _ {w : Want} {c : Machine} {l : List Token} {g : List Event} (f : Fed w c None l g) where
  abbrev Types : Type 0
  Types = Complete (completing w.next (without_texts c)) l
      × (length (completing w.next (without_texts c)) ≤ open_collections (stage_of g) + 2)

  pub fed_completes : ended_or_failed c ≡ false → IsViablePrefix l → Types
  fed_completes n h = by (fed_to f).running
    where
      standing : Stood l g w c → Types
      standing (at_place q e v i j m) = rw (← i) at (rw (← j) at both)
        where
          types : List yaml_token_type_t
          types = completing (want_of q).next (without_texts (config_of q))

          completes : Complete types l
          completes n = subst (λ (x : List Token). IsValidList (l ++ x)) (rest_types n q v)
              (subst IsValidList (feeds_keep l unopened q (reads_to l unopened q e).0 (position_rest n q))
              (position_begins n q (read_order l q e)))

          few : length types ≤ open_collections (stage_of g) + 2
          few = let a = rest_length zero_marks q in let b = fed_marks None f in
              let d = ap (λ (x : Machine). length x.marks) j in
              let s = ap (λ (x : List Token). length x) (rest_types zero_marks q v) in
              let r = length-map types (bare zero_marks) in omega arith

          both : Complete types l × (length types ≤ open_collections (stage_of g) + 2)
          both = (completes, few)
      standing (amid_node before b later q x p e i j m r s t)
          = absurd (stops before b later q (bad x) i j (bad_stops x later) (subst IsViablePrefix e h))

      by : Running w c l g → Types
      by (runs i s) = standing s.stood
      by (has_ended i m) = absurd (both_ways (ended_or_failed c) n i)

  -- after the stream's end nothing is lacking
  pub fed_ended : ended_or_failed c ≡ true → Complete [] l
  fed_ended n m = by (fed_to f).running
    where
      by : Running w c l g → IsValidList (l ++ [])
      by (runs i s) = absurd (both_ways (ended_or_failed c) i n)
      by (has_ended i x) = subst IsValidList (sym (append-nil l))
          (record { tree = x.tree; all = x.all_tokens; order = x.order })

  pub fed_completed : ended_or_failed c ≡ false → IsViablePrefix l
      → IsCompleted l (open_collections (stage_of g) + 2)
  fed_completed n h = let (completes, few) = fed_completes n h in record {
    rest = map (bare zero_marks) (completing w.next (without_texts c));
    valid_list = completes zero_marks;
    few = let r = length-map (completing w.next (without_texts c)) (bare zero_marks) in omega arith;
  }
