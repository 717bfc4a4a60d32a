use Rattle.std.proofs.Common.{refl, subst, sym, ◌∙◌}
use Rattle.unsafe_libyaml.proofs.WholeRuns.{GaveSoFar, gathers_all, gathers_some, gave_more, gave_none, if_ok, runs_to, tells, tree_runs}
use Rattle.unsafe_libyaml.proofs.parse_all.yaml_parser_parse_all.Goals as goal
use Rattle.libyaml_grammar.proofs.exported.Running.{partial_run}

pub loop-events-init : goal.loop-events-init
loop-events-init g c =
    let parser = c.yaml_parser_initialize-parser in
    (rw c.new-events.ensures.items (gave_none _ _ _ parser.ensures.value parser.ensures.begins), parser.ensures.running)

pub loop-events-smaller : goal.loop-events-smaller
loop-events-smaller g c =
    let onto = rw c.in-Ok.is at c.in_ok-is_last.ensures in
    onto.1.next.falls c.loop-events.invariant.1

pub loop-events-preserved : goal.loop-events-preserved
loop-events-preserved g c =
    let onto = rw c.in-Ok.is at c.in_ok-is_last.ensures in
    let old = c.loop-events.invariant in
    let on = onto.1.next.carries_on old.1 old.0.more _ old.0.history in
    (rw onto.2 (gave_more _ _ _ _ _ _ old.0 on), on.ends ∙ sym onto.3 ∙ c.if-is_last.false)

pub returns-then-is_last-clause-gathers : goal.returns-then-is_last-clause-gathers
returns-then-is_last-clause-gathers g c =
    let t = g.S.yaml_token_source_t in
    let new = c.parse_onto.new.parser in
    let onto = rw c.in-Ok.is at c.in_ok-is_last.ensures in
    let old = c.loop-events.invariant in
    let on = onto.1.next.carries_on old.1 old.0.more _ old.0.history in
    let all : GaveSoFar t.gives c.args.source new c.parse_onto.new.events.items = rw onto.2
    (gave_more _ _ _ _ _ _ old.0 on) in
    gathers_all t.gives c.args.source new _ all (on.ends ∙ sym onto.3 ∙ c.if-is_last.true) refl

pub returns-then-is_last-clause-of_list : goal.returns-then-is_last-clause-of_list
returns-then-is_last-clause-of_list g c l f e x run k =
    let t = g.S.yaml_token_source_t in
    let h = returns-then-is_last-clause-gathers g c in
    runs_to t c.args.source _ h e x (tells t g.met.S.yaml_token_source_t.follows _ l f e x run k _ _ _ h.tokens)

pub returns-then-is_last-clause-of_tree : goal.returns-then-is_last-clause-of_tree
returns-then-is_last-clause-of_tree g c t f o k = returns-then-is_last-clause-of_list g c _ f _ _
    (tree_runs t f o) k

pub returns-then-is_last-clause-of_partial_tree : goal.returns-then-is_last-clause-of_partial_tree
returns-then-is_last-clause-of_partial_tree g c before token following cut f fits waited k
    = returns-then-is_last-clause-of_list g c _ f _ _
    (partial_run before token following cut f fits waited) k

pub returns-in-Err-clause-gathers : goal.returns-in-Err-clause-gathers
returns-in-Err-clause-gathers g c =
    let t = g.S.yaml_token_source_t in
    let old = c.loop-events.parser in
    let onto = rw c.in-Err.is at c.in_ok-is_last.ensures in
    let gave = subst (λ l. GaveSoFar t.gives c.args.source old l) (sym onto.1) c.loop-events.invariant.0 in
    if_ok c.failed_run.result _ _ c.failed_run.ensures.ok
    (λ r h. gathers_some t.gives c.args.source old r
    (subst (λ v. GaveSoFar t.gives c.args.source old v.items) (sym h.0) gave)
    c.parse_onto.new.parser onto.0.error.fails _
    c.prefix.ensures.kept h.1 h.2)

pub returns-in-Err-clause-of_list : goal.returns-in-Err-clause-of_list
returns-in-Err-clause-of_list g c l f e x run k =
    let t = g.S.yaml_token_source_t in
    if_ok c.failed_run.result _ _ (returns-in-Err-clause-gathers g c)
    (λ r h. runs_to t c.args.source r h e x
    (tells t g.met.S.yaml_token_source_t.follows _ l f e x run k _ _ _ h.tokens))

pub returns-in-Err-clause-of_tree : goal.returns-in-Err-clause-of_tree
returns-in-Err-clause-of_tree g c t f o k = returns-in-Err-clause-of_list g c _ f _ _
    (tree_runs t f o) k

pub returns-in-Err-clause-of_partial_tree : goal.returns-in-Err-clause-of_partial_tree
returns-in-Err-clause-of_partial_tree g c before token following cut f fits waited k
    = returns-in-Err-clause-of_list g c _ f _ _ (partial_run before token following cut f fits waited) k
