use Rattle.std.proofs.Common.{◌≡◌, ◌≢◌, [], Ok, Err, false, inr, refl, sym, ap, ◌∙◌}
use Rattle.libyaml_events.specs.sources.History.{has_failed}
use Rattle.libyaml_loader.proofs.loads.Items.{ended, loads_as}
use Rattle.libyaml_loader.specs.loads.LoadsInTurn.{LoadsNext}
use Rattle.libyaml_loader.proofs.documents.Yaml_parser_documents_tIterator.next.Given as given
use Rattle.libyaml_loader.proofs.documents.Yaml_parser_documents_tIterator.next.Goals as goal
use Rattle.libyaml_loader.proofs.documents.Yaml_parser_documents_tIterator.next.Goals.{After-yaml_parser_load}
use Rattle.libyaml_graphs.proofs.exported.LoadLists.{bare, rooted}

none_kept : (g : given.Over) (c : After-yaml_parser_load g) → has_failed c.args.self.now.parser.now ≡ false
none_kept g c = sym c.has_failed.ensures ∙ c.if-has_failed.false

loaded : (g : given.Over) (c : After-yaml_parser_load g)
    → LoadsNext g.S.yaml_token_source_t
    c.args.self.now.parser.now c.yaml_parser_load.result c.yaml_parser_load.new.parser
loaded g c =
    let call = c.yaml_parser_load.ensures in
    let none = none_kept g c in
    record {
      ended = λ over. call.ended over none;
      fails = call.fails;
      failed = call.failed;
      faultless = call.faultless none;
      bound = call.bound;
      between = call.between;
      falls = call.falls;
      loads = call.loads none;
      linear = call.linear none;
      without_root = call.without_root;
      next_load = call.next_load;
    }

pub returns-then-is_empty-clause-steps : goal.returns-then-is_empty-clause-steps
returns-then-is_empty-clause-steps g c =
    let t = g.S.yaml_token_source_t in
    let x = (goal.at.returns-then-is_empty-clause-steps g c).After-yaml_parser_load in
    let no_root : c.in-Ok.document.nodes ≡ [] = sym c.nodes.ensures.all
    ∙ bare c.nodes.result.now (sym c.if-is_empty.ensures) in
    let over = ended t c.args.self.now.parser.now c.yaml_parser_load.new.parser c.remembered.ensures (none_kept g x)
    (c.in-Ok.ensures.without_root no_root) in
    let next = loads_as t c.args.self.now.parser.now c.yaml_parser_load.new.parser c.yaml_parser_load.result
    (Ok c.in-Ok.document) c.in-Ok.is (loaded g x) in
    (inr (none_kept g x, over, (c.in-Ok.document, no_root, next)), refl)

pub returns-else-is_empty-clause-steps : goal.returns-else-is_empty-clause-steps
returns-else-is_empty-clause-steps g c =
    let x = (goal.at.returns-else-is_empty-clause-steps g c).After-yaml_parser_load in
    let root : c.in-Ok.document.nodes ≢ [] = λ e. rooted c.nodes.result.now (sym c.if-is_empty.ensures)
    (c.nodes.ensures.all ∙ e) in
    let next = loads_as g.S.yaml_token_source_t c.args.self.now.parser.now c.yaml_parser_load.new.parser
    c.yaml_parser_load.result
    (Ok c.in-Ok.document) c.in-Ok.is (loaded g x) in
    ((none_kept g x, root, next), refl)

pub returns-in-Err-clause-steps : goal.returns-in-Err-clause-steps
returns-in-Err-clause-steps g c =
    let x = (goal.at.returns-in-Err-clause-steps g c).After-yaml_parser_load in
    let kept = c.prefix.ensures.kept in
    let same = c.in-Err.is ∙ ap Err (c.in-Err.ensures.fails.0 ∙ sym (ap (λ f. f.error) kept)) in
    let next = loads_as g.S.yaml_token_source_t c.args.self.now.parser.now c.yaml_parser_load.new.parser
    c.yaml_parser_load.result
    (Err c.prefix.result.now.error) same (loaded g x) in
    ((none_kept g x, next, kept), refl)
