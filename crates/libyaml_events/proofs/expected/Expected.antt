-- What a parser that was handed its tokens expects.
use Rattle.std.proofs.Common.{◌≡◌, ◌∷◌, ◌++◌, List, [], None, sym, ap, ◌∙◌, subst, refl, true, false, ◌↔◌}
use Rattle.std.proofs.lemmas.Bool.{both_ways}
use Rattle.libyaml_types.specs.declared.enums.yaml_token_type_t.{yaml_token_type_t}
use Rattle.libyaml_grammar.specs.grammar.Tokens.{Token}
use Rattle.libyaml_grammar.specs.grammar.Events.{Event}
use Rattle.libyaml_grammar.specs.grammar.ValidLists.{IsViablePrefix}
use Rattle.libyaml_grammar.specs.partial.PartialTrees.{PartialTree}
use Rattle.libyaml_grammar.proofs.exported.Positions.{Position, done, unopened}
use Rattle.libyaml_grammar.proofs.exported.Reading.{Step, bad, goes, over, reads, reads_all, then_all}
use Rattle.libyaml_grammar.proofs.exported.Completion.{begin_reads, reads_append, valid_list_reads}
use Rattle.libyaml_automaton.specs.Acceptable.{acceptable, has}
use Rattle.libyaml_automaton.specs.declared.token_types.TokenTypes.{TokenTypes}
use Rattle.libyaml_events.specs.machine.Config.{Machine, config_of as without_texts, ended_or_failed}
use Rattle.libyaml_events.specs.machine.Want.{Want}
use Rattle.libyaml_events.specs.sources.Acceptable.{AreAcceptable, IsAcceptable}
use Rattle.libyaml_events.specs.sources.Pushed.{Fed}
use Rattle.libyaml_events.proofs.expected.Accepting.{accepts}
use Rattle.libyaml_events.proofs.machine.MachinePosition.{Stood, at_place, amid_node}
use Rattle.libyaml_events.proofs.pushes.HistoryInvariant.{Running, fed_to, has_ended, runs}

-- no list that stops goes on
pub stops : (a : List Token) (b : Token) (r : List Token) (q : Position) (s : Step) → reads_all a unopened ≡ goes q
    → reads q b ≡ s → ((p : Position) → then_all s (reads_all r) ≡ goes p → ⊥) → IsViablePrefix (a ++ b ∷ r) → ⊥
stops a b r q s e f n h =
    let (p, g) = begin_reads (a ++ b ∷ r) h in
    n p (ap (λ (x : Step). then_all x (reads_all r)) (sym f) ∙ (ap (λ (x : Step). then_all x (reads_all (b ∷ r))) (sym e)
    ∙ (sym (reads_append a (b ∷ r) unopened) ∙ g)))

pub bad_stops : (c : PartialTree) (r : List Token) (p : Position) → then_all (bad c) (reads_all r) ≡ goes p → ⊥
bad_stops c r p e = cc

over_stops : (r : List Token) (p : Position) → then_all over (reads_all r) ≡ goes p → ⊥
over_stops r p e = cc

module _ {w : Want} {c : Machine} {l : List Token} {g : List Event} (f : Fed w c None l g) where
  pub fed_accepts : ended_or_failed c ≡ false → IsViablePrefix l → (k : yaml_token_type_t)
      → (acceptable w.next (without_texts c) k ≡ true) ↔ IsAcceptable l k
  fed_accepts n h k = by (fed_to f).running
    where
      standing : Stood l g w c → (acceptable w.next (without_texts c) k ≡ true) ↔ IsAcceptable l k
      standing (at_place q e v i j m) = rw (← i) at (rw (← j) at (accepts l q e v k))
      standing (amid_node before b later q x p e i j m r s t)
          = absurd (stops before b later q (bad x) i j (bad_stops x later) (subst IsViablePrefix e h))

      by : Running w c l g → (acceptable w.next (without_texts c) k ≡ true) ↔ IsAcceptable l k
      by (runs i s) = standing s.stood
      by (has_ended i m) = absurd (both_ways (ended_or_failed c) n i)

  -- after the stream's end nothing is
  pub none_accepted : ended_or_failed c ≡ true → (k : yaml_token_type_t) → IsAcceptable l k → ⊥
  none_accepted n k h = by (fed_to f).running
    where
      by : Running w c l g → ⊥
      by (runs i s) = both_ways (ended_or_failed c) i n
      by (has_ended i m) = stops l h.token [] (done m.tree) over
          (valid_list_reads l (record { tree = m.tree; all = m.all_tokens; order = m.order })) refl (over_stops []) h.goes_on

  pub fed_expected : (s : TokenTypes) → ended_or_failed c ≡ false
      → ((k : yaml_token_type_t) → has s k ≡ acceptable w.next (without_texts c) k) → AreAcceptable s l
  fed_expected s n e h k = rw (← e k) at (fed_accepts n h k)

  pub fed_nothing : (s : TokenTypes) → ended_or_failed c ≡ true → ((k : yaml_token_type_t) → has s k ≡ false)
      → AreAcceptable s l
  fed_nothing s n e h k = ((λ i. absurd (both_ways (has s k) (e k) i)), (λ i. absurd (none_accepted n k i)))
