-- Crates above cite this module: the status of a refusal is 3 or 4.
use Rattle.std.proofs.Common.{ℕ, ◌≡◌, ◌≤◌, List, refl, sym, subst, arith, Option, Some, None}
use Rattle.topology.specs.declared.types.NetFault.{NetFault}
use Rattle.topology.specs.declared.types.NetFault.TheVariants as net
use Rattle.net_json.specs.Judging as scene
use Rattle.net_json.specs.Scenes.{SceneValue, scene_of}
use Rattle.fc_nodes.specs.Program.{Unfolding}
use Rattle.fc_syntax.specs.Terms.{Declaration}
use Rattle.command_frame.specs.declared.refusal.LineFault.{LineFault}
use Rattle.command_frame.specs.declared.refusal.LineFault.TheVariants as line_fault
use Rattle.command_frame.specs.declared.refusal.Refusal.{Refusal}
use Rattle.command_frame.specs.declared.refusal.Refusal.TheVariants as refusal
use Rattle.command_frame.specs.Refusals.{status_of, network_limit, limit_in, pairs_limit, pairs_limit_of, or_refusal}
use Rattle.command_frame.specs.Refusals.{log_refusal, script_refusal, changes_refusal}
use Rattle.command_frame.specs.Causes.{Cause, Plainly, InScene, answer_to, or_network, scene_refused, Judged, Accepted, Refused, AndThen}
use Rattle.command_frame.specs.Sources.{IsNoSource, lexical, tokens, depth, syntax, IsNoProgram, no_source, ill_typed, too_large, ReadsSource, ReadsProgram}
use Rattle.command_frame.specs.Inputs.{InputOf, with_scene, ReadsInput}
use Rattle.command_frame.specs.Owing.{RefusesBy}

abbrev pub by_three : RefusesBy 3
by_three = record { many = omega arith; few = omega arith }

abbrev pub by_four : RefusesBy 4
by_four = record { many = omega arith; few = omega arith }

limit_status : (o : Option Refusal) (other : Refusal) → RefusesBy (status_of other)
    → ((r : Refusal) → o ≡ Some r → RefusesBy (status_of r)) → RefusesBy (status_of (or_refusal o other))
limit_status None other h k = h
limit_status (Some r) other h k = k r refl

net_limit : (fault : NetFault) (r : Refusal) → network_limit fault ≡ Some r → RefusesBy (status_of r)
net_limit net.Degree r e = let is : refusal.Degree ≡ r = cc in subst (λ x. RefusesBy (status_of x)) is by_four
net_limit net.Devices r e = let is : refusal.Devices 1025 ≡ r = cc in subst (λ x. RefusesBy (status_of x)) is by_four
net_limit net.Twice r e = absurd cc
net_limit net.NoDevice r e = absurd cc
net_limit net.SelfLink r e = absurd cc
net_limit net.Weight r e = absurd cc
net_limit net.NoLink r e = absurd cc
net_limit net.NoInput r e = absurd cc
net_limit net.InputType r e = absurd cc
net_limit net.InputRange r e = absurd cc
net_limit net.InFlight r e = absurd cc
net_limit net.Last r e = absurd cc

line_limit : (fault : LineFault) (r : Refusal) → limit_in fault ≡ Some r → RefusesBy (status_of r)
line_limit line_fault.Form r e = absurd cc
line_limit (line_fault.Net fault) r e = net_limit fault r e
line_limit line_fault.Kept r e = absurd cc
line_limit line_fault.Flying r e = absurd cc
line_limit line_fault.NotFlying r e = absurd cc
line_limit line_fault.Empty r e = absurd cc

pub log_status : (at : ℕ) (fault : LineFault) → RefusesBy (status_of (log_refusal at fault))
log_status at fault = limit_status (limit_in fault) (refusal.Log at fault) by_three (line_limit fault)

pub script_status : (at : ℕ) (fault : LineFault) → RefusesBy (status_of (script_refusal at fault))
script_status at fault = limit_status (limit_in fault) (refusal.Script at fault) by_three (line_limit fault)

net_pairs : (fault : NetFault) (r : Refusal) → pairs_limit_of fault ≡ Some r → RefusesBy (status_of r)
net_pairs net.Degree r e = let is : refusal.Pairs ≡ r = cc in subst (λ x. RefusesBy (status_of x)) is by_four
net_pairs net.Devices r e = let is : refusal.Devices 1025 ≡ r = cc in subst (λ x. RefusesBy (status_of x)) is by_four
net_pairs net.Twice r e = absurd cc
net_pairs net.NoDevice r e = absurd cc
net_pairs net.SelfLink r e = absurd cc
net_pairs net.Weight r e = absurd cc
net_pairs net.NoLink r e = absurd cc
net_pairs net.NoInput r e = absurd cc
net_pairs net.InputType r e = absurd cc
net_pairs net.InputRange r e = absurd cc
net_pairs net.InFlight r e = absurd cc
net_pairs net.Last r e = absurd cc

line_pairs : (fault : LineFault) (r : Refusal) → pairs_limit fault ≡ Some r → RefusesBy (status_of r)
line_pairs line_fault.Form r e = absurd cc
line_pairs (line_fault.Net fault) r e = net_pairs fault r e
line_pairs line_fault.Kept r e = absurd cc
line_pairs line_fault.Flying r e = absurd cc
line_pairs line_fault.NotFlying r e = absurd cc
line_pairs line_fault.Empty r e = absurd cc

pub changes_status : (at : ℕ) (fault : LineFault) → RefusesBy (status_of (changes_refusal at fault))
changes_status at fault = limit_status (pairs_limit fault) (refusal.Changes at fault) by_three (line_pairs fault)

network_status : (o : Option Refusal) (path : List ℕ) (fault : NetFault)
    → ((r : Refusal) → o ≡ Some r → RefusesBy (status_of r)) → RefusesBy (or_network o path fault).status
network_status None path fault k = by_three
network_status (Some r) path fault k = k r refl

scene_status : (r : scene.SceneRefusal) → RefusesBy (scene_refused r).status
scene_status scene.NotJson = by_three
scene_status (scene.Misshaped path) = by_three
scene_status (scene.BadNetwork path fault) = network_status (network_limit fault) path fault (net_limit fault)
scene_status (scene.BadKept path place) = by_three
scene_status (scene.TooManyDevices count) = by_four

source_status : (text : List ℕ) (r : Refusal) → IsNoSource text r → RefusesBy (status_of r)
source_status text r (lexical at s) = by_three
source_status text r (tokens ts n c l e) = by_four
source_status text r (depth ts n l e) = by_four
source_status text r (syntax ts n l x e f) = by_three

program_status : (text : List ℕ) (r : Refusal) → IsNoProgram text r → RefusesBy (status_of r)
program_status text r (no_source s h) = source_status text s h
program_status text r (ill_typed ds n k s f) = by_three
program_status text r (too_large ds s t l) = by_four

-- ---- what is judged
abbrev pub CauseStatus : Cause → Type 0
CauseStatus cause = RefusesBy (answer_to cause).status

abbrev pub IfRefused : {A : Type 0} → Judged A → Type 0
IfRefused (Accepted x) = Unit {0}
IfRefused (Refused cause) = CauseStatus cause

pub source_refused : (text : List ℕ) (j : Judged (List Declaration)) → ReadsSource text j → IfRefused j
source_refused text (Accepted ds) h = tt
source_refused text (Refused (Plainly r)) h = source_status text r h
source_refused text (Refused (InScene r)) h = scene_status r

program_refused : (text : List ℕ) (j : Judged Unfolding) → ReadsProgram text j → IfRefused j
program_refused text (Accepted U) h = tt
program_refused text (Refused (Plainly r)) h = program_status text r h
program_refused text (Refused (InScene r)) h = scene_status r

with_scene_refused : (U : Unfolding) (s : scene.JudgedScene SceneValue) → IfRefused (with_scene U s)
with_scene_refused U (scene.Accepted s) = tt
with_scene_refused U (scene.Refused r) = scene_status r

pub input_refused : (program network : List ℕ) (j : Judged InputOf) → ReadsInput program network j → IfRefused j
input_refused program network j h = by_program h.judged (program_refused program h.judged h.reads) h.scene
  where
    by_program : (i : Judged Unfolding) → IfRefused i → AndThen i (λ U k. k ≡ with_scene U (scene_of U network)) j
        → IfRefused j
    by_program (Accepted U) c e =
        subst (λ (k : Judged InputOf). IfRefused k) (sym e) (with_scene_refused U (scene_of U network))
    by_program (Refused cause) c e = subst (λ (k : Judged InputOf). IfRefused k) (sym e) c
