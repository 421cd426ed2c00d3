-- What an optional reference points to.
use Rattle.std.proofs.Common.{◌≡◌, ◌∙◌, Option, Some, None, is_some, false, sym, ap, subst, Bor}
use Rattle.std.specs.Prelude.{option_map}
use Rattle.std.specs.Option.{option_copied}
use Rattle.std.specs.Prelude.{IfSome}
use Rattle.value_trees.specs.Copies.{WhereSome}

pub no_value : {A B : Type 0} (f : A → B) (r : Option (Bor A)) → r ≡ None → option_map (λ (e : Bor A). f e.now) r ≡ None
no_value {A} f r e = ap (option_map (λ (e : Bor A). f e.now)) e

pub read_value : {A B : Type 0} (f : A → B) (r : Option (Bor A)) (x : Option A) → option_copied r ≡ x → option_map (λ (e : Bor A). f e.now) r ≡ option_map f x
read_value f None x e = ap (option_map f) e
read_value f (Some r) x e = ap (option_map f) e

pub where_read : {A : Type 0} (P : A → Type 0) (r : Option (Bor A)) (x : Option A) → option_copied r ≡ x → WhereSome P x → IfSome r (λ (e : Bor A). P e.now)
where_read P None x e w = tt
where_read P (Some r) None e w = absurd (cc)
where_read P (Some r) (Some x) e w = let h : r.now ≡ x = cc in subst P (sym h) w

pub none_read : {A : Type 0} (r : Option (Bor A)) (x : Option A) → option_copied r ≡ x → r ≡ None → is_some x ≡ false
none_read r x e n = ap is_some (sym e ∙ ap option_copied n)

pub some_read : {A : Type 0} (r : Option (Bor A)) (y : Bor A) (x : Option A) → option_copied r ≡ x → r ≡ Some y → x ≡ Some y.now
some_read r y x e n = sym e ∙ ap option_copied n
