use Rattle.std.proofs.Common.{◌∙◌, ap, refl, ◌+◌, ◌-◌, ◌∷◌, [], arith, map, take, drop, length}
use Rattle.std.proofs.lemmas.List.{map-append}
use Rattle.fc_syntax.specs.Pieces.{weight, weights}
use Rattle.fc_syntax.specs.Terms.{term_of, terms}
use Rattle.fc_values.specs.Types.{type_of}
use Rattle.fc_types.specs.Judging.{judge_builtin}
use Rattle.fc_types.specs.Views.{known_of, function_of}
use Rattle.fc_nodes.specs.Terms.{ByRep, ByShare}
use Rattle.unfold.specs.Counting.{count, count_all}
use Rattle.unfold.specs.Unfolding.{type_given}
use Rattle.unfold.specs.Views.{counted}
use Rattle.unfold.specs.Writing.{scope_of, argument_of}
use Rattle.unfold.proofs.Written.{evolve_written, if_written, let_written, nbr_written, apply_written, one_written}
use Rattle.unfold.proofs.Calls.{call_written, only_one, ended_as, longer_as, found_body, no_body, found_size, no_size, first_and_rest, row_nodes, row_places, row_types, same_written, last_written}
use Rattle.unfold.proofs.Weights.{first_lighter, fewer_lighter}
use Rattle.unfold.proofs.writing.+write.Goals as goal

pub write_all-returns-clause-nodes : goal.write_all-returns-clause-nodes
write_all-returns-clause-nodes t c =
    let s = first_and_rest c.args.args.now c.arg-item.result c.in-len1-up.len_at_least c.arg-item.is in
    rw s (row_nodes (known_of c.args.around.now.known.now) c.args.around.now.visible (scope_of c.args.around.now.scope.now) (term_of c.arg-item.result) (terms (map term_of (take (length c.args.args.now - 1) (drop 1 c.args.args.now)))) c.args.nodes.now.items c.write.new.nodes.items c.write.new.ty c.in_ok-write.ensures.long c.in_ok-write.ensures.written
    c.write_all.new.nodes.items c.in_ok-write_all.ensures.nodes)

pub write_all-returns-clause-places : goal.write_all-returns-clause-places
write_all-returns-clause-places t c =
    let s = first_and_rest c.args.args.now c.arg-item.result c.in-len1-up.len_at_least c.arg-item.is in
    rw s (row_places (known_of c.args.around.now.known.now) c.args.around.now.visible (scope_of c.args.around.now.scope.now) (term_of c.arg-item.result) (terms (map term_of (take (length c.args.args.now - 1) (drop 1 c.args.args.now)))) c.args.nodes.now.items c.write.new.nodes.items c.write.new.ty c.in_ok-write.ensures.long c.in_ok-write.ensures.written
    c.args.places.now.items c.push.new.self.items c.write_all.new.places.items c.len.result (c.len.ensures ∙ c.args.nodes.now.ok.0) c.in_ok-push.ensures.items c.in_ok-write_all.ensures.places)

pub write_all-returns-clause-types : goal.write_all-returns-clause-types
write_all-returns-clause-types t c =
    let s = first_and_rest c.args.args.now c.arg-item.result c.in-len1-up.len_at_least c.arg-item.is in
    rw s (row_types (known_of c.args.around.now.known.now) c.args.around.now.visible (scope_of c.args.around.now.scope.now) (term_of c.arg-item.result) (terms (map term_of (take (length c.args.args.now - 1) (drop 1 c.args.args.now)))) c.args.nodes.now.items c.write.new.nodes.items c.write.new.ty c.in_ok-write.ensures.long c.in_ok-write.ensures.written
    (map type_of c.args.types.now.items) (map type_of c.push-2.new.self.items) (map type_of c.write_all.new.types.items) (type_of c.write.new.ty) refl (ap (map type_of) c.in_ok-push-2.ensures.items ∙ map-append type_of c.args.types.now.items (c.write.new.ty ∷ [])) c.in_ok-write_all.ensures.types)

pub write_apply-returns-clause-written : goal.write_apply-returns-clause-written
write_apply-returns-clause-written t c =
    let no_places = c.in_ok-places.ensures.items in
    let no_types = c.in_ok-types.ensures.items in
    apply_written (known_of c.args.around.now.known.now) c.args.around.now.visible (scope_of c.args.around.now.scope.now) c.args.nodes.now.items c.begin_node.new.nodes.items _ c.in_ok-place.place c.in_ok-place.ensures.place c.in_ok-place.ensures.long c.in_ok-place.ensures.behind
    c.args.builtin (terms (map term_of c.args.args.now)) c.write_all.new.nodes.items c.end_apply.new.nodes.items c.end_apply.new.ty c.end_apply.new.ty (map type_of c.write_all.new.types.items) c.write_all.new.places.items
    c.in_ok-write_all.ensures.nodes (rw no_places at c.in_ok-write_all.ensures.places) (rw no_types at c.in_ok-write_all.ensures.types) (c.in_ok-end_apply.ensures.ty ∙ ap (λ ts. type_given (judge_builtin c.args.builtin (map type_of ts))) c.deref.ensures.value) refl c.in_ok-end_apply.ensures.set

pub write_body-write-requires : goal.write_body-write-requires
write_body-write-requires t c =
    let d = c.decreases in
    let r = c.requires.room in
    let f = c.in-Some.ensures.function in
    let w = first_lighter f.1 c.args.visible c.in-Some.ensures.earlier in
    let s = found_size (known_of c.args.known.now) c.args.visible c.args.name.now.text.items c.in-Some.number (function_of f.0 c.in-Some.function) f.1 c.in-Some.ensures.earlier in
    (omega (arith, d, w), (c.requires.inputs, omega (arith, r, s)))

pub write_body-returns-in-Some-clause-long : goal.write_body-returns-in-Some-clause-long
write_body-returns-in-Some-clause-long t c =
    let f = c.in-Some.ensures.function in
    let s = found_size (known_of c.args.known.now) c.args.visible c.args.name.now.text.items c.in-Some.number (function_of f.0 c.in-Some.function) f.1 c.in-Some.ensures.earlier in
    longer_as c.write.result _ _ _ (omega (arith, s)) c.write.ensures.long

pub write_body-returns-in-Some-clause-written : goal.write_body-returns-in-Some-clause-written
write_body-returns-in-Some-clause-written t c =
    let f = c.in-Some.ensures.function in
    ended_as c.write.result c.args.nodes.now.items c.write.new.nodes.items c.write.new.ty _ _
    (λ w. found_body (known_of c.args.known.now) c.args.visible c.args.name.now.text.items c.in-Some.number (function_of f.0 c.in-Some.function) (map argument_of c.args.given.now) c.args.nodes.now.items c.write.new.nodes.items c.write.new.ty f.1 c.in-Some.ensures.earlier w)
    c.write.ensures.written

pub write_body-returns-in-None-clause-long : goal.write_body-returns-in-None-clause-long
write_body-returns-in-None-clause-long t c =
    let s = no_size (known_of c.args.known.now) c.args.visible c.args.name.now.text.items c.in-None.ensures.function in
    longer_as c.put_untyped.result _ _ _ (omega (arith, s)) c.put_untyped.ensures.long

pub write_body-returns-in-None-clause-written : goal.write_body-returns-in-None-clause-written
write_body-returns-in-None-clause-written t c =
    ended_as c.put_untyped.result c.args.nodes.now.items c.put_untyped.new.nodes.items c.put_untyped.new.ty _ _
    (λ w. no_body (known_of c.args.known.now) c.args.visible c.args.name.now.text.items (map argument_of c.args.given.now) c.args.nodes.now.items c.put_untyped.new.nodes.items c.put_untyped.new.ty c.in-None.ensures.function w) c.put_untyped.ensures.written

pub write_one-write-requires : goal.write_one-write-requires
write_one-write-requires t c =
    let s = only_one c.args.args.now c.index-args-0.result c.requires.one c.index-args-0.is in
    let d = c.decreases in
    let r = c.requires.room in
    let l = c.in_ok-place.ensures.long in
    let w = ap weights s in
    let n = ap (count_all (counted (known_of c.args.around.now.known.now) c.args.around.now.visible)) s in
    (omega (arith, d, w), (c.requires.inputs, omega (arith, r, l, n)))

pub write_one-returns-clause-long : goal.write_one-returns-clause-long
write_one-returns-clause-long t c =
    let s = only_one c.args.args.now c.index-args-0.result c.requires.one c.index-args-0.is in
    let b = c.in_ok-place.ensures.long in
    let l = c.in_ok-write.ensures.long in
    let e = c.in_ok-end_builtin.ensures.long in
    let n = ap (count_all (counted (known_of c.args.around.now.known.now) c.args.around.now.visible)) s in
    omega (arith, b, l, e, n)

pub write_one-returns-clause-written : goal.write_one-returns-clause-written
write_one-returns-clause-written t c =
    let s = only_one c.args.args.now c.index-args-0.result c.requires.one c.index-args-0.is in
    rw s (one_written (known_of c.args.around.now.known.now) c.args.around.now.visible (scope_of c.args.around.now.scope.now) c.args.nodes.now.items c.begin_node.new.nodes.items _ c.in_ok-place.place c.in_ok-place.ensures.place c.in_ok-place.ensures.long c.in_ok-place.ensures.behind
    c.args.builtin (term_of c.index-args-0.result) c.write.new.nodes.items c.end_builtin.new.nodes.items c.write.new.ty c.end_builtin.new.ty c.in_ok-write.ensures.written c.in_ok-end_builtin.ensures.ty c.in_ok-end_builtin.ensures.set)

pub write_argument-returns-clause-written : goal.write_argument-returns-clause-written
write_argument-returns-clause-written t c =
    call_written (known_of c.args.around.now.known.now) c.args.around.now.visible (scope_of c.args.around.now.scope.now) c.args.name.now.text.items (term_of c.args.arg.now) (terms (map term_of c.args.rest.now))
    c.args.nodes.now.items c.begin_node.new.nodes.items c.write.new.nodes.items c.write_given.new.nodes.items c.end_two.new.nodes.items _ c.in_ok-place.place (map argument_of c.args.given.now.items) (map argument_of c.give.new.given.items) c.write.new.ty c.write_given.new.ty c.write_given.new.ty c.len-second.result
    ((c.in_ok-place.place + 1) ∷ c.len-second.result ∷ []) c.in_ok-place.ensures.place c.in_ok-place.ensures.long c.in_ok-place.ensures.behind c.in_ok-write.ensures.long c.in_ok-write.ensures.written c.in_ok-give.ensures c.in_ok-write_given.ensures.written (c.len-second.ensures ∙ c.write.new.nodes.ok.0) refl refl c.in_ok-end_two.ensures.set

pub write_if-returns-clause-written : goal.write_if-returns-clause-written
write_if-returns-clause-written t c =
    if_written (known_of c.args.around.now.known.now) c.args.around.now.visible (scope_of c.args.around.now.scope.now) c.args.nodes.now.items c.begin_node.new.nodes.items _ c.in_ok-place.place c.in_ok-place.ensures.place c.in_ok-place.ensures.long c.in_ok-place.ensures.behind
    (term_of c.args.condition.now) (term_of c.args.then.now) (term_of c.args.other.now) c.write.new.nodes.items c.write-2.new.nodes.items c.write-3.new.nodes.items c.end_if.new.nodes.items c.write.new.ty c.write-2.new.ty c.write-3.new.ty c.write-2.new.ty c.len-second.result c.len-third.result
    ((c.in_ok-place.place + 1) ∷ c.len-second.result ∷ c.len-third.result ∷ [])
    c.in_ok-write.ensures.long c.in_ok-write.ensures.written c.in_ok-write-2.ensures.long c.in_ok-write-2.ensures.written c.in_ok-write-3.ensures.written (c.len-second.ensures ∙ c.write.new.nodes.ok.0) (c.len-third.ensures ∙ c.write-2.new.nodes.ok.0) refl refl c.in_ok-end_if.ensures.set

pub write_let-returns-clause-written : goal.write_let-returns-clause-written
write_let-returns-clause-written t c =
    let_written (known_of c.args.around.now.known.now) c.args.around.now.visible (scope_of c.args.around.now.scope.now) c.args.nodes.now.items c.begin_node.new.nodes.items _ c.in_ok-place.place c.in_ok-place.ensures.place c.in_ok-place.ensures.long c.in_ok-place.ensures.behind
    c.args.name.now.text.items (term_of c.args.bound.now) (term_of c.args.body.now) c.write.new.nodes.items c.write-2.new.nodes.items c.end_two.new.nodes.items c.write.new.ty c.write-2.new.ty c.write-2.new.ty c.len-second.result ((c.in_ok-place.place + 1) ∷ c.len-second.result ∷ [])
    c.in_ok-write.ensures.long c.in_ok-write.ensures.written c.in_ok-write-2.ensures.written (c.len-second.ensures ∙ c.write.new.nodes.ok.0) refl refl c.in_ok-end_two.ensures.set

pub write_nbr-returns-clause-written : goal.write_nbr-returns-clause-written
write_nbr-returns-clause-written t c =
    nbr_written (known_of c.args.around.now.known.now) c.args.around.now.visible (scope_of c.args.around.now.scope.now) c.args.nodes.now.items c.begin_node.new.nodes.items _ c.in_ok-place.place c.in_ok-place.ensures.place c.in_ok-place.ensures.long c.in_ok-place.ensures.behind
    (term_of c.args.inner.now) c.write.new.nodes.items c.end_nbr.new.nodes.items c.write.new.ty c.end_nbr.new.ty c.end_nbr.new.ty ((c.in_ok-place.place + 1) ∷ []) c.in_ok-write.ensures.written c.in_ok-end_nbr.ensures.ty refl refl c.in_ok-end_nbr.ensures.set

pub write_rep-returns-clause-written : goal.write_rep-returns-clause-written
write_rep-returns-clause-written t c =
    evolve_written (known_of c.args.around.now.known.now) c.args.around.now.visible (scope_of c.args.around.now.scope.now) c.args.nodes.now.items c.begin_node.new.nodes.items _ c.in_ok-place.place c.in_ok-place.ensures.place c.in_ok-place.ensures.long c.in_ok-place.ensures.behind
    ByRep c.args.name.now.text.items (term_of c.args.first.now) (term_of c.args.body.now) c.write.new.nodes.items c.write-2.new.nodes.items c.end_two.new.nodes.items c.write.new.ty c.write-2.new.ty c.write.new.ty (type_of c.write.new.ty) c.len-second.result ((c.in_ok-place.place + 1) ∷ c.len-second.result ∷ [])
    c.in_ok-write.ensures.long c.in_ok-write.ensures.written refl c.in_ok-write-2.ensures.written (c.len-second.ensures ∙ c.write.new.nodes.ok.0) refl refl c.in_ok-end_two.ensures.set

pub write_share-returns-clause-written : goal.write_share-returns-clause-written
write_share-returns-clause-written t c =
    evolve_written (known_of c.args.around.now.known.now) c.args.around.now.visible (scope_of c.args.around.now.scope.now) c.args.nodes.now.items c.begin_node.new.nodes.items _ c.in_ok-place.place c.in_ok-place.ensures.place c.in_ok-place.ensures.long c.in_ok-place.ensures.behind
    ByShare c.args.name.now.text.items (term_of c.args.first.now) (term_of c.args.body.now) c.write.new.nodes.items c.write-2.new.nodes.items c.end_two.new.nodes.items c.write.new.ty c.write-2.new.ty c.write.new.ty (type_of c.give_shared.new.ty) c.len-second.result ((c.in_ok-place.place + 1) ∷ c.len-second.result ∷ [])
    c.in_ok-write.ensures.long c.in_ok-write.ensures.written c.in_ok-give_shared.ensures c.in_ok-write-2.ensures.written (c.len-second.ensures ∙ c.write.new.nodes.ok.0) refl refl c.in_ok-end_two.ensures.set

pub write_bare_call-write-requires : goal.write_bare_call-write-requires
write_bare_call-write-requires t c =
    let d = c.decreases in
    let r = c.requires.room in
    let h = c.in-Some.ensures.body in
    let B = known_of c.args.known.now in
    let w = first_lighter h.first h.seen h.earlier in
    let v = fewer_lighter B.functions h.seen c.args.visible h.fewer in
    let k = ap weight h.body_is in
    let s = h.same.size in
    let z = found_size B h.seen h.last c.in-Some.seen h.function h.first h.earlier in
    let n = ap (count (counted B c.in-Some.seen)) h.body_is in
    (omega (arith, d, w, v, k), (c.requires.inputs, omega (arith, r, s, z, n)))

pub write_bare_call-returns-in-Some-clause-long : goal.write_bare_call-returns-in-Some-clause-long
write_bare_call-returns-in-Some-clause-long t c =
    let h = c.in-Some.ensures.body in
    let B = known_of c.args.known.now in
    let s = h.same.size in
    let z = found_size B h.seen h.last c.in-Some.seen h.function h.first h.earlier in
    let n = ap (count (counted B c.in-Some.seen)) h.body_is in
    longer_as c.write.result _ _ _ (omega (arith, s, z, n)) c.write.ensures.long

pub write_bare_call-returns-in-Some-clause-written : goal.write_bare_call-returns-in-Some-clause-written
write_bare_call-returns-in-Some-clause-written t c =
    ended_as c.write.result c.args.nodes.now.items c.write.new.nodes.items c.write.new.ty _ _
    (λ w. last_written (known_of c.args.known.now) c.args.visible c.args.name.now.text.items c.in-Some.seen (term_of c.in-Some.body.now) c.args.nodes.now.items c.write.new.nodes.items c.write.new.ty c.in-Some.ensures.body w) c.write.ensures.written

pub write_bare_call-returns-in-None-clause-long : goal.write_bare_call-returns-in-None-clause-long
write_bare_call-returns-in-None-clause-long t c =
    let h = c.in-None.ensures.body in
    let s = h.2.size in
    let z = no_size (known_of c.args.known.now) h.0 h.1 h.3 in
    longer_as c.put_untyped.result _ _ _ (omega (arith, s, z)) c.put_untyped.ensures.long

pub write_bare_call-returns-in-None-clause-written : goal.write_bare_call-returns-in-None-clause-written
write_bare_call-returns-in-None-clause-written t c =
    let h = c.in-None.ensures.body in
    let B = known_of c.args.known.now in
    ended_as c.put_untyped.result c.args.nodes.now.items c.put_untyped.new.nodes.items c.put_untyped.new.ty _ _
    (λ w. same_written B c.args.visible c.args.name.now.text.items h.0 h.1 c.args.nodes.now.items c.put_untyped.new.nodes.items c.put_untyped.new.ty h.2
    (no_body B h.0 h.1 [] c.args.nodes.now.items c.put_untyped.new.nodes.items c.put_untyped.new.ty h.3 w)) c.put_untyped.ensures.written
