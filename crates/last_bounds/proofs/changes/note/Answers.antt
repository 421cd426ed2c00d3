use Rattle.std.proofs.Common.{◌≡◌, ◌-◌, [], ◌∷◌, ◌++◌, ◌∙◌, refl, sym, ap, subst, map, length, get_or, arith}
use Rattle.std.proofs.lemmas.List.{map-append}
use Rattle.value_bounds.specs.References.{local_bound_in}
use Rattle.last_bounds.specs.declared.changes.Change.{Change}
use Rattle.last_bounds.specs.References.{SomeTo, IsNoted, known, added, change_in, changes_in}
use Rattle.last_bounds.proofs.Noting.{some_at}
use Rattle.last_bounds.proofs.changes.note.Goals as goal

pub returns : goal.returns
returns c =
    let cs = c.deref.result.now in
    let last = c.in-Some.last.now in
    let item = c.in-Some.ensures.item.3 in
    let is : last ≡ get_or cs (length cs - 1) last = item.1 last in
    let bound : local_bound_in last.bound ≡ local_bound_in c.args.bound.now = c.if-same_bound.ensures.0 refl in
    known (subst (λ xs. SomeTo (local_bound_in c.args.bound.now) (map change_in xs)) c.deref.ensures.value
    (some_at (local_bound_in c.args.bound.now) cs (length cs - 1) last (omega (arith, item.0))
    (ap (λ (x : Change). local_bound_in x.bound) (sym is) ∙ bound)))

pub returns-2 : goal.returns-2
returns-2 c =
    let old = c.args.changes.now in
    let r = c.args.rounds in
    let one : Change = record { rounds = r; bound = c.in_ok-bound.bound } in
    let new = ap (map change_in) c.in_ok-push.ensures.items ∙ map-append change_in old.items (one ∷ [])
    ∙ ap (λ b. changes_in old ++ (r, b) ∷ []) c.in_ok-bound.ensures in
    subst (IsNoted r (local_bound_in c.args.bound.now) (changes_in old)) (sym new) added
