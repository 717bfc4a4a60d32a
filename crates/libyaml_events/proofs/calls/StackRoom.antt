-- How large the stacks get, at each moment: of states one more than collections are open, of marks as many.
use Rattle.std.proofs.Common.{◌≡◌, ◌≤◌, ◌+◌, arith, ℕ, zero, suc, List, [], ◌∷◌, length, Option, Some, None, Bool, true}
use Rattle.libyaml_types.specs.declared.enums.yaml_parser_state_t.{yaml_parser_state_t}
use Rattle.libyaml_grammar.specs.grammar.Events.{Event}
use Rattle.libyaml_grammar.specs.grammar.Tokens.{Mark, Token}
use Rattle.libyaml_events.specs.machine.Config.{Machine, Parser}
use Rattle.libyaml_events.specs.machine.Want.{Want}
use Rattle.libyaml_events.specs.parsers.Stages.{Stage, open_collections, stage_of}
use Rattle.libyaml_events.specs.sources.History.{ForHistory}
use Rattle.libyaml_events.specs.sources.Pushed.{Fed}
use Rattle.libyaml_events.proofs.calls.Marked.{MarksAt, MarksFit, OneMore, marked, owned}
use Rattle.libyaml_events.proofs.calls.StageFacts.{depth}
use Rattle.libyaml_events.proofs.calls.StackStages.{GoodIn, InPair, Inside, IsStack, NodeDue, StackOn, around, deeper}
use Rattle.libyaml_events.proofs.machine.StepKinds as step_kinds
use Rattle.libyaml_events.proofs.machine.StepKinds.{Kind, kind, kind_of}
use Rattle.libyaml_events.proofs.pushes.HistoryInvariant.{fed_to, ran_staged}

-- a mark more than those of the states below
one_more : (b : Bool) (n : ℕ) (Fits : List Mark → Type 0) (ms : List Mark) → OneMore b Fits ms
    → ((l : List Mark) → Fits l → length l ≤ n) → length ms ≤ suc n
one_more b n Fits ms h f = grind arith

none_over : (ss : List yaml_parser_state_t) (ms : List Mark) (n : ℕ) → ss ≡ [] → MarksFit ss ms → length ms ≤ n
none_over ss ms n e f = grind arith

-- at most a mark for each collection around
around_holds : (ss : List yaml_parser_state_t) (ms : List Mark) → IsStack ss → MarksFit ss ms → length ms ≤ around ss
around_holds [] ms h f = absurd h
around_holds (s ∷ ss) ms h f = go (kind s) h f (λ l. around_holds ss l)
  where
    go : (k : Kind) → StackOn k ss (IsStack ss) → OneMore (owned k) (MarksFit ss) ms
        → ((l : List Mark) → IsStack ss → MarksFit ss l → length l ≤ around ss) → length ms ≤ deeper k (around ss)
    go step_kinds.root_end e f i = none_over ss ms zero e f
    go step_kinds.indentless e f i = let j = i ms e f in omega arith
    go step_kinds.inner e f i = one_more true (around ss) (MarksFit ss) ms f (λ l g. i l e g)
    go step_kinds.pair e f i = let j = one_more true (around ss) (MarksFit ss) ms f (λ l g. i l e g) in omega arith
    go _ e f i = absurd e

module _ (ss : List yaml_parser_state_t) (ms : List Mark) (st : Stage) where
  inside : (b : Bool) → Inside ss st → OneMore b (MarksFit ss) ms → length ms ≤ open_collections st
  inside b h f = grind (arith, one_more, around_holds)

  in_pair : (b : Bool) → InPair ss st → OneMore b (MarksFit ss) ms → length ms ≤ open_collections st
  in_pair b h f = grind (arith, one_more, around_holds)

due : (ss : List yaml_parser_state_t) (ms : List Mark) (st : Stage) → NodeDue ss st → MarksFit ss ms
    → length ms ≤ open_collections st
due ss ms st h f = grind (arith, none_over, inside, in_pair)

-- at most a mark for each open collection
marks_open : (k : Kind) (ss : List yaml_parser_state_t) (ms : List Mark) (o : Option Token) (st : Stage)
    → GoodIn k ss o st → MarksAt k ss ms → length ms ≤ open_collections st
marks_open k ss ms o st h f = grind (arith, none_over, due, in_pair, inside)

-- after a call
module _ {S : Type 0} (p : Parser S) where
  pub call_marks : ForHistory p (λ _ given. length p.config.machine.marks ≤ open_collections (stage_of given))
  call_marks asked given h = grind (arith, marks_open, ran_staged, marked)

-- within a push, and between two
module _ {w : Want} {c : Machine} {l : List Token} {g : List Event} where
  pub fed_depth : (o : Option Token) → Fed w c o l g → length c.states ≤ open_collections (stage_of g) + 1
  fed_depth o h = grind (arith, depth, fed_to)

  pub fed_marks : (o : Option Token) → Fed w c o l g → length c.marks ≤ open_collections (stage_of g)
  fed_marks None h
      = marks_open (kind_of w c) c.states c.marks None (stage_of g) (fed_to h).good.0 (marked h)
  fed_marks (Some t) h
      = marks_open (kind_of w c) c.states c.marks None (stage_of g) (fed_to h).good.0 (marked h)
