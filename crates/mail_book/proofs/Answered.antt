-- Crates above cite this module: what answers say of both results of a call.
use Rattle.std.proofs.Common.{◌≡◌, Result, Ok, Err, OnOk, OnErr, IfErr, IsErrAnd, false, is_err, subst, sym}

pub ok_map : {T E : Type 0} {P Q : Type 0} (r : Result T E) → (P → Q) → OnOk r P → OnOk r Q
ok_map (Ok x) f h = f h
ok_map (Err e) f h = tt

pub err_map : {T E : Type 0} {P Q : E → Type 0} {A : Type 0} (r : Result T E) → ((e : E) → P e → A → Q e) → IfErr r P → OnErr r A → IfErr r Q
err_map (Ok x) f h k = tt
err_map (Err e) f h k = f e h k

pub in_both : {T E : Type 0} {P Q C : Type 0} (r : Result T E) → (P → C) → (Q → C) → OnOk r P → OnErr r Q → C
in_both (Ok x) f g h k = f h
in_both (Err e) f g h k = g k

pub ok_both : {T E : Type 0} {P Q R : Type 0} (r : Result T E) → (P → Q → R) → OnOk r P → OnOk r Q → OnOk r R
ok_both (Ok x) f h k = f h k
ok_both (Err e) f h k = tt

pub if_err : {T E : Type 0} {P Q : E → Type 0} (r : Result T E) → ((e : E) → P e → Q e) → IfErr r P → IfErr r Q
if_err (Ok x) f h = tt
if_err (Err e) f h = f e h

pub err_is : {T E : Type 0} (Q : E → Type 0) (r : Result T E) (e : E) → IsErrAnd r (λ x. x ≡ e) → Q e → IfErr r Q
err_is Q (Ok x) e h q = tt
err_is Q (Err x) e h q = subst Q (sym h) q

pub at_ok : {T E : Type 0} {P : Type 0} (r : Result T E) → false ≡ is_err r → OnOk r P → P
at_ok (Ok x) q h = h
at_ok (Err e) q h = absurd cc
