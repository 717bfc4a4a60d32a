use Rattle.libyaml_graphs.proofs.exported.Roots.{earlier_of, fault_of, last_of, left_roots, roots_follow}
use Rattle.libyaml_graphs.proofs.laws.whole_documents_have_roots.Goals as goal

pub returns : goal.returns
returns c = record {
  roots_follow = roots_follow;
  left_over = left_roots;
  without_nodes = last_of;
  with_nodes = earlier_of;
  fault = fault_of;
}
