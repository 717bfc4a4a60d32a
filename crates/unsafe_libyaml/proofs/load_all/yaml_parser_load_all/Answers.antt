use Rattle.std.proofs.Common.{◌≡◌, ◌≢◌, [], All, ap, refl, sym, ◌∙◌, subst}
use Rattle.unsafe_libyaml.proofs.WholeLoads.{fewer, gathers_loads, gathers_to_fault, loaded_as, loaded_next, loaded_none, loads_to, tree_loads}
use Rattle.unsafe_libyaml.proofs.WholeRuns.{if_ok, tells}
use Rattle.unsafe_libyaml.proofs.LargeLoads.{loads_linear}
use Rattle.unsafe_libyaml.proofs.load_all.yaml_parser_load_all.Goals as goal
use Rattle.unsafe_libyaml.proofs.load_all.yaml_parser_load_all.Goals.{After-yaml_parser_load}
use Rattle.libyaml_graphs.proofs.exported.LoadLists.{bare, rooted}
use Rattle.libyaml_graphs.proofs.exported.RunLoads.{partial_tree_loads}

pub loop-document-init : goal.loop-document-init
loop-document-init g c =
    let parser = c.yaml_parser_initialize-parser in
    loaded_as _ _ _ _ _ c.new-documents.ensures.items
    (loaded_none _ _ _ parser.ensures.value parser.ensures.between parser.ensures.bound)

pub yaml_parser_load-requires : goal.yaml_parser_load-requires
yaml_parser_load-requires g c = record { between = c.loop-document.invariant.between }

pub returns-then-is_empty-clause-gathers : goal.returns-then-is_empty-clause-gathers
returns-then-is_empty-clause-gathers g c =
    let call = c.yaml_parser_load in
    let no_root : c.in-Ok.document.nodes ≡ [] = sym c.nodes.ensures.all
    ∙ bare c.nodes.result.now (sym c.if-is_empty.ensures) in
    gathers_loads g.S.yaml_token_source_t c.args.source c.loop-document.parser call.new.parser call.result
    call.ensures.loads
    c.loop-document.documents.items c.loop-document.invariant _ refl c.in-Ok.document c.in-Ok.is no_root refl

pub returns-then-is_empty-clause-of_list : goal.returns-then-is_empty-clause-of_list
returns-then-is_empty-clause-of_list g c l f a h k =
    let t = g.S.yaml_token_source_t in
    let s = returns-then-is_empty-clause-gathers g c in
    loads_to t c.args.source _ s l f a h
    (tells t g.met.S.yaml_token_source_t.follows _ l f _ _ h.run k _ _ _ s.tokens)

pub returns-then-is_empty-clause-of_tree : goal.returns-then-is_empty-clause-of_tree
returns-then-is_empty-clause-of_tree g c t f o k =
    let n = tree_loads t f o in
    (n.0, returns-then-is_empty-clause-of_list g c _ f _ n.1 k)

pub returns-then-is_empty-clause-of_partial_tree : goal.returns-then-is_empty-clause-of_partial_tree
returns-then-is_empty-clause-of_partial_tree g c before token following cut f fits waited k =
    let a = partial_tree_loads before token following cut f fits waited in
    (a.0, a.2, returns-then-is_empty-clause-of_list g c _ f _ a.1 k)

pub returns-then-is_empty-clause-roots : goal.returns-then-is_empty-clause-roots
returns-then-is_empty-clause-roots g c = c.loop-document.invariant.in_turn.roots

pub loop-document-smaller : goal.loop-document-smaller
loop-document-smaller g c =
    let has_root : c.in-Ok.document.nodes ≢ [] = λ e. rooted c.nodes.result.now (sym c.if-is_empty.ensures)
    (c.nodes.ensures.all ∙ e) in
    fewer c.in-Ok.document _ _ c.in-Ok.ensures.falls has_root

pub loop-document-preserved : goal.loop-document-preserved
loop-document-preserved g c =
    let t = g.S.yaml_token_source_t in
    let call = c.yaml_parser_load in
    let has_root : c.in-Ok.document.nodes ≢ [] = λ e. rooted c.nodes.result.now (sym c.if-is_empty.ensures)
    (c.nodes.ensures.all ∙ e) in
    loaded_as t c.args.source call.new.parser _ _ c.in_ok-push-in-Ok.ensures.items
    (loaded_next t c.args.source c.loop-document.parser call.new.parser call.result call.ensures.loads
    c.loop-document.documents.items c.loop-document.invariant call.ensures.between call.ensures.bound
    c.in-Ok.document c.in-Ok.is has_root)

pub returns-in-Err-clause-gathers : goal.returns-in-Err-clause-gathers
returns-in-Err-clause-gathers g c =
    let call = c.yaml_parser_load in
    if_ok c.failed_load.result _ _ c.failed_load.ensures.ok
    (λ all r. gathers_to_fault g.S.yaml_token_source_t c.args.source c.loop-document.parser call.new.parser
    call.result call.ensures.loads
    c.loop-document.documents.items c.loop-document.invariant all (ap (λ v. v.items) r.0) c.in-Err.field-0
    c.in-Err.is _ c.prefix.ensures.kept r.1 r.2)

pub returns-in-Err-clause-of_list : goal.returns-in-Err-clause-of_list
returns-in-Err-clause-of_list g c l f a h k =
    let t = g.S.yaml_token_source_t in
    if_ok c.failed_load.result _ _ (returns-in-Err-clause-gathers g c)
    (λ all s. loads_to t c.args.source all s l f a h
    (tells t g.met.S.yaml_token_source_t.follows _ l f _ _ h.run k _ _ _ s.tokens))

pub returns-in-Err-clause-roots : goal.returns-in-Err-clause-roots
returns-in-Err-clause-roots g c
    = if_ok c.failed_load.result _ _ c.failed_load.ensures.ok
    (λ all r. subst (λ v. All (λ d. d.nodes ≢ []) v.items) (sym r.0) c.loop-document.invariant.in_turn.roots)

pub returns-in-Err-clause-of_tree : goal.returns-in-Err-clause-of_tree
returns-in-Err-clause-of_tree g c t f o k =
    let n = tree_loads t f o in
    if_ok c.failed_load.result _ _ (returns-in-Err-clause-of_list g c _ f _ n.1 k) (λ all r. (n.0, r))

pub returns-in-Err-clause-of_partial_tree : goal.returns-in-Err-clause-of_partial_tree
returns-in-Err-clause-of_partial_tree g c before token following cut f fits waited k =
    let a = partial_tree_loads before token following cut f fits waited in
    if_ok c.failed_load.result _ _ (returns-in-Err-clause-of_list g c _ f _ a.1 k) (λ all r. (a.0, a.2, r))

pub returns-then-is_empty-clause-linear : goal.returns-then-is_empty-clause-linear
returns-then-is_empty-clause-linear g c
    = loads_linear g.S.yaml_token_source_t.gives c.args.source _
    (returns-then-is_empty-clause-gathers g c)

pub returns-in-Err-clause-linear : goal.returns-in-Err-clause-linear
returns-in-Err-clause-linear g c
    = if_ok c.failed_load.result _ _ (returns-in-Err-clause-gathers g c)
    (loads_linear g.S.yaml_token_source_t.gives c.args.source)
