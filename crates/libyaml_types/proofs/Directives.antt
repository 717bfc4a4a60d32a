-- Equal tag directives are one.
use Rattle.std.proofs.Common.{◌≡◌, List, Bool, true, ◌&&◌, refl, subst}
use Rattle.std.specs.Bool.{Decides}
use Rattle.std.specs.Cmp.{first_so, second_so}
use Rattle.std.specs.Cmp.Lexicographic.{pointwise, pointwise_decides, bytes_decides}
use Rattle.libyaml_types.specs.declared.directive.yaml_tag_directive_t.{yaml_tag_directive_t}
use Rattle.libyaml_types.specs.contracts.directive.Yaml_tag_directive_tPartialEq.TheImpl as directive_eq

-- what `==` says of two directives
abbrev pub same_directive : yaml_tag_directive_t → yaml_tag_directive_t → Bool
same_directive = (directive_eq.ghosts).eq

-- a directive is equal to itself
itself : (a : yaml_tag_directive_t) → same_directive a a ≡ true
itself a = λ i. (bytes_decides a.handle a.handle).1 refl i && (bytes_decides a.prefix a.prefix).1 refl i

-- equality of directives decides whether they are one
directive_decides : (a b : yaml_tag_directive_t) → Decides (same_directive a b) (a ≡ b)
directive_decides a b = (
  λ e.
      let p = (bytes_decides a.handle b.handle).0 (first_so _ _ e) in
      let q = (bytes_decides a.prefix b.prefix).0 (second_so _ _ e) in
      λ i. record { handle = p i; prefix = q i },
  λ e. subst (λ (d : yaml_tag_directive_t). same_directive a d ≡ true) e (itself a),
)

-- so does equality of lists of them
pub directives_decide : (xs ys : List yaml_tag_directive_t) → Decides (pointwise same_directive xs ys) (xs ≡ ys)
directives_decide = pointwise_decides directive_decides
