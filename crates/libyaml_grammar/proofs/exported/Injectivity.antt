-- What equal lists and equal results have in common.
use Rattle.std.proofs.Common.{◌≡◌, List, [], ◌∷◌, Result, Ok, Err}
use Rattle.libyaml_types.specs.Fault.{Fault}
use Rattle.libyaml_grammar.specs.runs.Runs.{Fails}

pub head_same : {A : Type 0} (x y : A) (l m : List A) → x ∷ l ≡ y ∷ m → x ≡ y
head_same x y l m e = cc

pub tail_same : {A : Type 0} (x y : A) (l m : List A) → x ∷ l ≡ y ∷ m → l ≡ m
tail_same x y l m e = cc

pub not_cons : {A : Type 0} (x : A) (l : List A) → [] ≡ x ∷ l → ⊥
not_cons x l e = cc

pub ok_same : {A B : Type 0} (x y : A) → ◌≡◌ {A = Result A B} (Ok x) (Ok y) → x ≡ y
ok_same x y e = cc

pub err_same : {A B : Type 0} (x y : B) → ◌≡◌ {A = Result A B} (Err x) (Err y) → x ≡ y
err_same x y e = cc

pub ok_not_err : {A B : Type 0} (x : A) (y : B) → ◌≡◌ {A = Result A B} (Ok x) (Err y) → ⊥
ok_not_err x y e = cc

pub fault_same : (f g : Fault) → Fails f ≡ Fails g → f ≡ g
fault_same f g e = cc
