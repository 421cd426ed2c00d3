use Rattle.std.proofs.Common.{ℕ, ◌<◌, ◌∙◌, ◌++◌, sym, ap, map, length, arith, take, get_or, false, [], ◌∷◌, replicate}
use Rattle.std.specs.declared.vec.Vec.{Vec}
use Rattle.std.specs.declared.alloc.Global.{Global}
use Rattle.std.proofs.lemmas.List.{take_more, map-append}
use Rattle.envelopes.specs.declared.types.LinkBound.{LinkBound}
use Rattle.envelopes.specs.Envelopes.{ids}
use Rattle.envelopes.specs.Code.{maybe_device_of, maybe_link_of, near_each}
use Rattle.envelopes.proofs.Placing.{ends_at, each_none, each_pushed, devices_long}
use Rattle.envelopes.proofs.places.near_lists.Goals as goal

abbrev no_link : LinkBound
no_link = record { a = 0; b = 0; least = 0; greatest = 0; sure = false }

pub loop-link-init : goal.loop-link-init
loop-link-init c =
    let is = ids (map maybe_device_of c.args.devices.now) in
    c.in_ok-near.ensures ∙ ap (λ n. replicate n []) (sym (devices_long c.args.devices.now)) ∙ sym (each_none is)

pub place-first-requires-clause-there : goal.place-first-requires-clause-there
place-first-requires-clause-there c =
    (ends_at (ids (map maybe_device_of c.args.devices.now)) c.args.links.now c.requires.links c.loop-link.link-index
    no_link c.loop-link-test.true).from

pub place-second-requires-clause-there : goal.place-second-requires-clause-there
place-second-requires-clause-there c =
    (ends_at (ids (map maybe_device_of c.args.devices.now)) c.args.links.now c.requires.links c.loop-link.link-index
    no_link c.loop-link-test.true).to

pub loop-link-preserved : goal.loop-link-preserved
loop-link-preserved c =
    let xs = c.args.devices.now in
    let is = ids (map maybe_device_of xs) in
    let k = c.loop-link.link-index in
    let l = get_or c.args.links.now k no_link in
    let ends = ends_at is c.args.links.now c.requires.links k no_link c.loop-link-test.true in
    let long = devices_long xs in
    let p = c.place-first.result in
    let q = c.place-second.result in
    let first : p < length is = omega (arith, long, c.place-first.ensures.within) in
    let second : q < length is = omega (arith, long, c.place-second.ensures.within) in
    let one = c.in_ok-push.ensures.items
    ∙ ap (λ (v : Vec (ℕ × LinkBound) Global). v.items ++ (l.b, l) ∷ []) c.index_mut.ensures.value in
    let two = c.in_ok-push-2.ensures.items
    ∙ ap (λ (v : Vec (ℕ × LinkBound) Global). v.items ++ (l.a, l) ∷ []) c.index_mut-in-loop-link.ensures.value in
    each_pushed is (map maybe_link_of (take k c.args.links.now)) l c.loop-link.near.items p q c.index_mut.result.now
    c.index_mut-in-loop-link.result.now c.push.new.self c.push-in-loop-link.new.self c.loop-link.invariant
    c.requires.rising ends.order first second c.place-first.ensures.there c.place-second.ensures.there one two
    ∙ ap (near_each is) (sym (map-append maybe_link_of (take k c.args.links.now) (l ∷ []))
    ∙ ap (map maybe_link_of) (sym (take_more c.args.links.now k no_link c.loop-link-test.true)))
