use Rattle.std.proofs.Common.{◌≡◌, ◌<◌, ℕ, suc, pos, List, Option, Some, length, get_or, refl, sym, ap, ◌∙◌}
use Rattle.std.specs.Prelude.{option_and_then}
use Rattle.std.proofs.lemmas.Option.{slice_get_read}
use Rattle.libyaml_documents.specs.declared.node.yaml_node_t.{yaml_node_t}
use Rattle.yaml_keys.specs.Firsts.{read}
use Rattle.yaml_keys.specs.Keys.{ScalarKey, scalar_key, scalar_key_at}
use Rattle.yaml_keys.proofs.Firsts.{of_found, of_new, after_found, after_new}
use Rattle.yaml_keys.proofs.classes.class_of.Goals as goal

at_place : (nodes : List yaml_node_t) (place : ℕ) (node : yaml_node_t) (key : Option ScalarKey) → place < length nodes
    → node ≡ get_or nodes place node → key ≡ scalar_key node → scalar_key_at nodes (pos (suc place)) ≡ key
at_place nodes place node key lt is e =
    ap (λ (o : Option yaml_node_t). option_and_then (λ (x : yaml_node_t). scalar_key x) o) (slice_get_read nodes (length nodes) place node refl lt is)
    ∙ sym e

pub returns-in-Some-get-clause-class : goal.returns-in-Some-get-clause-class
returns-in-Some-get-clause-class c =
    let nodes = c.args.nodes.now in
    let key = c.in-Some.key in
    let here = at_place nodes c.args.place c.index-nodes-place.result (Some (read key)) c.requires.place c.index-nodes-place.is c.in-Some.ensures in
    of_found nodes c.args.place c.args.firsts.now key c.in-Some-get.first.now c.requires.firsts here (sym c.in-Some-get.ensures.value)

pub returns-in-Some-get-clause-firsts : goal.returns-in-Some-get-clause-firsts
returns-in-Some-get-clause-firsts c =
    let nodes = c.args.nodes.now in
    let key = c.in-Some.key in
    let here = at_place nodes c.args.place c.index-nodes-place.result (Some (read key)) c.requires.place c.index-nodes-place.is c.in-Some.ensures in
    after_found nodes c.args.place c.args.firsts.now key c.in-Some-get.first.now c.requires.firsts here (sym c.in-Some-get.ensures.value)

pub returns-clause-class : goal.returns-clause-class
returns-clause-class c =
    let nodes = c.args.nodes.now in
    let key = c.in-Some.key in
    let here = at_place nodes c.args.place c.index-nodes-place.result (Some (read key)) c.requires.place c.index-nodes-place.is c.in-Some.ensures in
    of_new nodes c.args.place c.args.firsts.now key c.requires.firsts here (sym c.in_default-get.ensures.value)

pub returns-clause-firsts : goal.returns-clause-firsts
returns-clause-firsts c =
    let nodes = c.args.nodes.now in
    let key = c.in-Some.key in
    let here = at_place nodes c.args.place c.index-nodes-place.result (Some (read key)) c.requires.place c.index-nodes-place.is c.in-Some.ensures in
    after_new nodes c.args.place c.args.firsts.now c.insert.new.self key c.requires.firsts here (sym c.in_default-get.ensures.value)
    c.in_ok-insert.ensures.updates
