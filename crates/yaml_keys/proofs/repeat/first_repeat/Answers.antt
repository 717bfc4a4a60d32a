use Rattle.std.proofs.Common.{◌≡◌, ◌<◌, ℕ, pos, List, length, map, get_or, sym, ◌∙◌, arith}
use Rattle.std.proofs.lemmas.List.{get_or-map, length-map}
use Rattle.libyaml_documents.specs.declared.pairs.yaml_node_pair_t.{yaml_node_pair_t}
use Rattle.yaml_keys.specs.Repeats.{class_at}
use Rattle.yaml_keys.proofs.Seen.{again, more, none}
use Rattle.yaml_keys.proofs.repeat.first_repeat.Goals as goal

-- the classes of the keys, one by one
abbrev no_pair : yaml_node_pair_t
no_pair = record { key = pos 0; value = pos 0 }

class_in : (classes : List ℕ) (pairs : List yaml_node_pair_t) (n x : ℕ) → n < length pairs
    → x ≡ class_at classes (get_or pairs n no_pair).key
    → x ≡ get_or (map (λ (pair : yaml_node_pair_t). class_at classes pair.key) pairs) n 0
class_in classes pairs n x inside is =
    is ∙ sym (get_or-map (λ (pair : yaml_node_pair_t). class_at classes pair.key) pairs n no_pair 0 inside)

pub returns-in-Some : goal.returns-in-Some
returns-in-Some c =
    let pairs = c.args.pairs.now in
    let classes = c.args.classes.now in
    let keys = map (λ (pair : yaml_node_pair_t). class_at classes pair.key) pairs in
    let inside = c.loop-second-test.true in
    let is = class_in classes pairs c.loop-second.second c.class_of_key-class.result inside c.class_of_key-class.ensures in
    again keys c.loop-second.second c.class_of_key-class.result c.in-Some.first.now c.loop-second.seen c.loop-second.invariant
    (omega (arith, length-map pairs (λ (pair : yaml_node_pair_t). class_at classes pair.key), inside)) is
    (sym c.in-Some.ensures.value)

pub loop-second-preserved : goal.loop-second-preserved
loop-second-preserved c =
    let pairs = c.args.pairs.now in
    let classes = c.args.classes.now in
    let keys = map (λ (pair : yaml_node_pair_t). class_at classes pair.key) pairs in
    let is = class_in classes pairs c.loop-second.second c.class_of_key-class.result c.loop-second-test.true c.class_of_key-class.ensures in
    more keys c.loop-second.second c.class_of_key-class.result c.loop-second.seen c.insert.new.self c.loop-second.invariant is
    (sym c.in_default.ensures.value) c.in_ok-insert.ensures.updates

pub returns : goal.returns
returns c =
    let pairs = c.args.pairs.now in
    let classes = c.args.classes.now in
    let keys = map (λ (pair : yaml_node_pair_t). class_at classes pair.key) pairs in
    none keys c.loop-second.second c.loop-second.seen c.loop-second.invariant
    (omega (arith, length-map pairs (λ (pair : yaml_node_pair_t). class_at classes pair.key), c.loop-second-test.false))
